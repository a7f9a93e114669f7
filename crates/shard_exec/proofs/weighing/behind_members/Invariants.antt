use Rattle.std.proofs.Common.{◌≡◌, ◌-◌, take}
use Rattle.shard_exec.specs.Weights.{members_of_all}
use Rattle.shard_exec.proofs.weighing.behind_members.Given as goal

abbrev pub invariant-loop-member : goal.invariant-loop-member
invariant-loop-member l = l.missing ≡ l.before - members_of_all l.table l.row (take l.member-index l.members)
