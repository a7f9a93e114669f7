use Rattle.std.proofs.Common.{◌≡◌, ◌++◌}
use Rattle.skeen_core.specs.Group.{tell}
use Rattle.skeen_core.proofs.tell.tell.Given as goal

-- what is made so far, and what is still to be made for the groups that are left
abbrev pub invariant-loop-group : goal.invariant-loop-group
invariant-loop-group l = l.sent.items ++ tell l.me l.id l.clock l.group-iterator ≡ tell l.me l.id l.clock l.fn.groups
