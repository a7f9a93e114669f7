use Rattle.std.proofs.Common.{◌≡◌, ◌-◌, sum_by, take}
use Rattle.command_table.specs.Command.{keys_of}
use Rattle.shard_exec.specs.Weights.{members_at}
use Rattle.shard_exec.proofs.weighing.behind_command.Given as goal

abbrev pub invariant-loop-place : goal.invariant-loop-place
invariant-loop-place l = l.missing ≡ l.before - sum_by (members_at l.table l.row) (take l.place (keys_of l.command))
