use Rattle.std.proofs.Common.{◌≡◌, option_map}
use Rattle.groups.specs.Stamp.{later, final}
use Rattle.skeen_core.specs.Heard.{clock_of, with_heard}
use Rattle.skeen_core.proofs.heard.final_stamp.Given as goal

-- the greatest so far, with the final stamp of the groups that are left, gives that of all
abbrev pub invariant-loop-group : goal.invariant-loop-group
invariant-loop-group l =
    final (with_heard l.last (clock_of l.list)) l.fn.groups
    ≡ option_map (later l.greatest) (final (with_heard l.last (clock_of l.list)) l.group-iterator)
