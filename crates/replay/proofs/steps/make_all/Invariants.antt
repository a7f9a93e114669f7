use Rattle.std.proofs.Common.{◌≡◌, drop, take}
use Rattle.replay.specs.Replay.{StandsAt}
use Rattle.system.specs.Reads.{table_of}
use Rattle.replay.proofs.steps.make_all.Given as goal

-- the steps so far were made
abbrev pub invariant-loop-index : goal.invariant-loop-index
invariant-loop-index g l =
    (l.steps ≡ drop l.index l.fn.steps)
    × StandsAt (table_of l.fn.system) l.fn.system.max_steps (take l.index l.fn.steps) l.system
