-- That each command on sets looks at its own keys alone.
use Rattle.std.specs.Str.{bytes_eq}
use Rattle.command_cases.proofs.Local.{local-at_key}
use Rattle.command_cases.proofs.Shapes.{local-at_two, local-at_each, local-at_target}
use Rattle.command_cases.specs.Case.{IsLocal}
use Rattle.command_table.specs.SetCommands.{set_command_keys}
use Rattle.command_table.specs.declared.set_commands.SetCommand.{SetCommand}
use Rattle.command_table.specs.declared.set_commands.SetCommand.TheVariants.{Sadd, Srem, Sismember, Smismember, Scard, Smembers, Smove}
use Rattle.command_table.specs.declared.set_commands.SetCommand.TheVariants.{Sinter, Sunion, Sdiff, Sinterstore, Sunionstore, Sdiffstore}
use Rattle.set_commands.specs.SetCommand.{changes_set, looks_at_set, sadd_change, srem_change, sismember_answer, smismember_answer}
use Rattle.set_commands.specs.SetCommand.{scard_answer, smembers_answer, smove_step, combined_answer, stored_step, set_command_case}
use Rattle.set_commands.specs.declared.combine.Combination.TheVariants.{Intersection, Union, Difference}

pub local-set_command : (c : SetCommand) → IsLocal (set_command_keys c) (set_command_case c)
local-set_command (Sadd key members) = local-at_key key (changes_set (sadd_change members))
local-set_command (Srem key members) = local-at_key key (changes_set (srem_change members))
local-set_command (Sismember key member) = local-at_key key (looks_at_set (sismember_answer member))
local-set_command (Smismember key members) = local-at_key key (looks_at_set (smismember_answer members))
local-set_command (Scard key) = local-at_key key (looks_at_set scard_answer)
local-set_command (Smembers key) = local-at_key key (looks_at_set smembers_answer)
local-set_command (Smove from to member) = local-at_two from to (smove_step (bytes_eq from to) member)
local-set_command (Sinter keys) = local-at_each keys (combined_answer Intersection)
local-set_command (Sunion keys) = local-at_each keys (combined_answer Union)
local-set_command (Sdiff keys) = local-at_each keys (combined_answer Difference)
local-set_command (Sinterstore target sources) = local-at_target target sources (stored_step Intersection)
local-set_command (Sunionstore target sources) = local-at_target target sources (stored_step Union)
local-set_command (Sdiffstore target sources) = local-at_target target sources (stored_step Difference)
