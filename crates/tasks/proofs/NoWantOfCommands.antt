-- No command says that there was no memory, and no member does that was run.
use Rattle.std.proofs.Common.{Some, None, refl, ap, ◌∙◌}
use Rattle.tasks.proofs.Effects.{effect-case}
use Rattle.tasks.specs.Command.{case_of, effect_of}
use Rattle.tasks.specs.LocalCommand.{local_reply}
use Rattle.command_table.specs.declared.command.Command.{Command}
use Rattle.command_table.specs.declared.command.Command.TheVariants.{Key, Str, Hash, Local}
use Rattle.command_table.specs.declared.command.Command.TheVariants as variant
use Rattle.command_table.specs.declared.local_commands.LocalCommand.{LocalCommand}
use Rattle.command_table.specs.declared.local_commands.LocalCommand.TheVariants.{Ping, Echo}
use Rattle.keyspace.specs.Map.{Map}
use Rattle.sessions.specs.declared.member.Member.{Member}
use Rattle.sessions.specs.declared.member.Member.TheVariants.{Runs, Refused}
use Rattle.sessions.specs.declared.member.Misread.TheVariants.{Syntax, NotInteger}
use Rattle.tasks.proofs.NoWant.{IsNoWant}
use Rattle.tasks.proofs.NoWantOfHashes.{no_want-hash_command}
use Rattle.tasks.proofs.NoWantOfKeys.{no_want-key_command}
use Rattle.tasks.proofs.NoWantOfLists.{no_want-list_command}
use Rattle.tasks.proofs.NoWantOfSets.{no_want-set_command}
use Rattle.tasks.proofs.NoWantOfStrings.{no_want-string_command}
use Rattle.tasks.specs.Member.{member_case}
use Rattle.tasks.specs.Starved.{is_want}

local_none : (c : LocalCommand) → IsNoWant (local_reply c)
local_none (Ping None) = refl
local_none (Ping (Some word)) = refl
local_none (Echo word) = refl

case_none : (c : Command) (m : Map) → IsNoWant (case_of c m).1
case_none (Key c) m = no_want-key_command c m
case_none (Str c) m = no_want-string_command c m
case_none (variant.List c) m = no_want-list_command c m
case_none (Hash c) m = no_want-hash_command c m
case_none (variant.Set c) m = no_want-set_command c m
case_none (Local c) m = local_none c

pub no_want-command : (c : Command) (m : Map) → IsNoWant (effect_of c m).1
no_want-command c m = ap (λ v. is_want v.1) (effect-case c m) ∙ case_none c m

pub no_want-member : (member : Member) (m : Map) → IsNoWant (member_case member m).1
no_want-member (Runs c) m = no_want-command c m
no_want-member (Refused Syntax) m = refl
no_want-member (Refused NotInteger) m = refl
