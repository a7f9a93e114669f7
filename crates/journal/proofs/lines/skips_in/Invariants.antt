use Rattle.std.proofs.Common.{◌≡◌, ◌++◌, length, option_map}
use Rattle.journal.specs.TraceText.{all_in, skip_in}
use Rattle.journal.specs.Names.{AreNumbered}
use Rattle.journal.proofs.lines.skips_in.Given as goal

-- the names so far, and those of the parts that are left, are those of all parts; members are numbered from 1
abbrev pub invariant-loop-arg : goal.invariant-loop-arg
invariant-loop-arg l =
    (all_in (skip_in l.version) l.fn.args ≡ option_map (λ ws. l.names.items ++ ws) (all_in (skip_in l.version) l.args))
    × AreNumbered l.names.items

abbrev pub decreases-loop-arg : goal.decreases-loop-arg
decreases-loop-arg l = length l.args
