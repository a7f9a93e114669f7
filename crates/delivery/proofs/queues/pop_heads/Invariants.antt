use Rattle.delivery.proofs.HeadsGone.{HeadsGone}
use Rattle.delivery.proofs.queues.pop_heads.Given as goal

-- the groups that are left have their heads still
abbrev pub invariant-loop-group : goal.invariant-loop-group
invariant-loop-group l = HeadsGone l.initial.queues l.queues l.fn.groups l.group-iterator
