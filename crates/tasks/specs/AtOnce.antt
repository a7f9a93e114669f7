-- Batches that look at no key, and what they answer.
use Rattle.std.specs.Prelude.{◌≡◌, ⊤, false, List, [], map}
use Rattle.std.specs.FinMap.{empty}
use Rattle.std.specs.List.{AllByRecursion}
use Rattle.command_table.specs.Command.{keys_of, is_whole}
use Rattle.command_table.specs.Keyed.{IsKeyed}
use Rattle.command_table.specs.declared.command.Command.{Command}
use Rattle.resp.specs.Content.{Content}
use Rattle.sessions.specs.declared.batch.Batch.{Batch}
use Rattle.sessions.specs.declared.batch.Batch.TheVariants.{Plain, Exec}
use Rattle.sessions.specs.declared.member.Member.{Member}
use Rattle.sessions.specs.declared.member.Member.TheVariants.{Runs, Refused}
use Rattle.tasks.specs.Member.{member_case}

-- the command names no key and isn't for all keys, and so is one of those that look at none
pub record IsKeylessCommand (command : Command) : Type 0 where
  pub none : keys_of command ≡ []
  pub part : is_whole command ≡ false
  pub keyed : IsKeyed command

abbrev pub IsKeylessMember : Member → Type 0
IsKeylessMember (Runs command) = IsKeylessCommand command
IsKeylessMember (Refused misread) = ⊤

abbrev pub AreKeyless : List Member → Type 0
AreKeyless members = AllByRecursion IsKeylessMember members

-- the commands of the batch are keyed; members of an EXEC always are
abbrev pub IsKeyedBatch : Batch → Type 0
IsKeyedBatch (Plain command) = IsKeyed command
IsKeyedBatch (Exec members) = ⊤

-- what members answer on the empty map, each for itself
abbrev pub replies_at_once : List Member → List Content
replies_at_once members = map (λ member. (member_case member empty).1) members
