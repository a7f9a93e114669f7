-- How many members the sets have that the requests of a layer name: a set counts as often as it is named.
use Rattle.std.specs.Prelude.{ℕ, List, Option, Some, length, sum_by}
use Rattle.std.specs.FinMap.{get}
use Rattle.command_table.specs.Command.{keys_of}
use Rattle.command_table.specs.declared.command.Command.{Command}
use Rattle.keyspace.specs.Map.{Map}
use Rattle.layer_planner.specs.declared.job.Job.{Job}
use Rattle.placement.specs.Layout.{Layout, shard_of}
use Rattle.sessions.specs.declared.batch.Batch.{Batch}
use Rattle.sessions.specs.declared.batch.Batch.TheVariants.{Plain, Exec}
use Rattle.sessions.specs.declared.member.Member.{Member}
use Rattle.shards.specs.Joined.{map_of_shard}
use Rattle.tasks.specs.Keys.{member_keys}
use Rattle.values.specs.declared.Value.{Value}
use Rattle.values.specs.declared.Value.TheVariants as kind

-- from so many on a layer is dealt to several workers
abbrev pub least_dealt : ℕ
least_dealt = 10000

abbrev pub members_of_value : Option Value → ℕ
members_of_value (Some (kind.Set members)) = length members
members_of_value _ = 0

abbrev pub members_at : Layout → List Map → List ℕ → ℕ
members_at table maps key = members_of_value (get (map_of_shard maps (shard_of table key)) key)

abbrev pub members_of_command : Layout → List Map → Command → ℕ
members_of_command table maps command = sum_by (members_at table maps) (keys_of command)

abbrev pub members_of_member : Layout → List Map → Member → ℕ
members_of_member table maps member = sum_by (members_at table maps) (member_keys member)

abbrev pub members_of_all : Layout → List Map → List Member → ℕ
members_of_all table maps members = sum_by (members_of_member table maps) members

abbrev pub members_of_batch : Layout → List Map → Batch → ℕ
members_of_batch table maps (Plain command) = members_of_command table maps command
members_of_batch table maps (Exec members) = members_of_all table maps members

abbrev pub members_of_layer : Layout → List Map → List Job → ℕ
members_of_layer table maps jobs = sum_by (λ j. members_of_batch table maps j.asked.batch) jobs
