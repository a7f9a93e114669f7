use Rattle.std.proofs.Common.{◌≤◌, length, ◌+◌}
use Rattle.std.specs.Vec.{vec_capacity}
use Rattle.system.proofs.Runs.{IsUpTo}
use Rattle.system.specs.System.{ObeysOneThread}
use Rattle.system.proofs.system.System.run.Given as goal

-- the steps in front were made, and there is room for the effects of those behind
abbrev pub invariant-loop-step : goal.invariant-loop-step
invariant-loop-step g l =
    IsUpTo l.fn.self l.fn.steps.items l.effects.items l.step-iterator.rest.items l.self
    × (length l.effects.items + length l.step-iterator.rest.items ≤ vec_capacity l.effects)
    × ObeysOneThread l.self
