use Rattle.std.proofs.Common.{◌≡◌, drop, map, take}
use Rattle.picture.specs.Ran.{Ran}
use Rattle.picture.specs.Words.{word_of}
use Rattle.system.specs.Reads.{table_of}
use Rattle.picture.proofs.making.make_all.Given as goal

-- the steps so far were made, and their words put down
abbrev pub invariant-loop-index : goal.invariant-loop-index
invariant-loop-index g l =
    (l.steps ≡ drop l.index l.fn.steps)
    × Ran (table_of l.fn.system) l.fn.system.max_steps (take l.index l.fn.steps) l.system l.flights l.recorder
    × (l.words.items ≡ map word_of (take l.index l.fn.steps))
