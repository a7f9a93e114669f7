-- That each command on strings looks at its own keys alone.
use Rattle.std.proofs.Common.{pos, negsuc}
use Rattle.command_cases.proofs.Local.{local-at_key}
use Rattle.command_cases.proofs.Shapes.{local-at_each, local-at_pairs}
use Rattle.command_cases.specs.Case.{IsLocal}
use Rattle.command_table.specs.StringCommands.{string_command_keys}
use Rattle.command_table.specs.declared.string_commands.StringCommand.{StringCommand}
use Rattle.command_table.specs.declared.string_commands.StringCommand.TheVariants.{Get, Set, Setnx, Getset, Getdel, Mget, Strlen, Getrange}
use Rattle.command_table.specs.declared.string_commands.StringCommand.TheVariants.{Incr, Decr, Incrby, Decrby, Append, Setrange, Mset}
use Rattle.command_table.specs.declared.string_commands.StringCommand.TheVariants.{Msetnx}
use Rattle.string_commands.specs.StringCommand.{at_string, get_step, set_step, setnx_step, getset_string, getdel_string, mget_reply}
use Rattle.string_commands.specs.StringCommand.{strlen_string, getrange_string, string_command_case}
use Rattle.string_commands.specs.StringCommand.{incrby_step, decrby_step, append_string, setrange_step, mset_step, msetnx_step}

pub local-string_command : (c : StringCommand) → IsLocal (string_command_keys c) (string_command_case c)
local-string_command (Get key) = local-at_key key get_step
local-string_command (Set key value condition) = local-at_key key (set_step value condition)
local-string_command (Setnx key value) = local-at_key key (setnx_step value)
local-string_command (Getset key value) = local-at_key key (at_string (getset_string value))
local-string_command (Getdel key) = local-at_key key (at_string getdel_string)
local-string_command (Mget keys) = local-at_each keys mget_reply
local-string_command (Strlen key) = local-at_key key (at_string strlen_string)
local-string_command (Getrange key start end) = local-at_key key (at_string (getrange_string start end))
local-string_command (Incr key) = local-at_key key (incrby_step (pos 1))
local-string_command (Decr key) = local-at_key key (incrby_step (negsuc 0))
local-string_command (Incrby key by) = local-at_key key (incrby_step by)
local-string_command (Decrby key by) = local-at_key key (decrby_step by)
local-string_command (Append key tail) = local-at_key key (at_string (append_string tail))
local-string_command (Setrange key offset value) = local-at_key key (setrange_step offset value)
local-string_command (Mset pairs) = local-at_pairs pairs mset_step
local-string_command (Msetnx pairs) = local-at_pairs pairs msetnx_step
