use Rattle.std.proofs.Common.{◌≡◌, ◌+◌, length}
use Rattle.skeen_core.specs.Heard.{clock_of, with_heard, missing}
use Rattle.skeen_core.proofs.heard.missing.Given as goal

-- the groups that are left are still counted, whether they have proposed or not
abbrev pub invariant-loop-group : goal.invariant-loop-group
invariant-loop-group l =
    l.count + missing (with_heard l.last (clock_of l.list)) l.group-iterator
    ≡ missing (with_heard l.last (clock_of l.list)) l.fn.groups + length l.group-iterator
