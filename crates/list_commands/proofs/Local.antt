-- That each command on lists looks at its own keys alone.
use Rattle.std.specs.Str.{bytes_eq}
use Rattle.command_cases.proofs.Local.{local-at_key}
use Rattle.command_cases.proofs.Shapes.{local-at_two}
use Rattle.command_cases.specs.Case.{IsLocal}
use Rattle.command_table.specs.ListCommands.{list_command_keys}
use Rattle.command_table.specs.declared.list_commands.ListCommand.{ListCommand}
use Rattle.command_table.specs.declared.list_commands.ListCommand.TheVariants.{Llen, Lpop, Rpop, Lpush, Rpush, Lpushx, Rpushx, Lindex, Lset}
use Rattle.command_table.specs.declared.list_commands.ListCommand.TheVariants.{Lrange, Ltrim, Lrem, Linsert, Lmove, Rpoplpush}
use Rattle.texts.specs.declared.text_list.End.TheVariants.{Head, Tail}
use Rattle.list_commands.specs.ListCommand.{at_list, length_step, pop_step, push_step, push_there_step, index_step, set_step, range_step}
use Rattle.list_commands.specs.ListCommand.{trim_step, remove_step, insert_step, move_step, list_command_case}

pub local-list_command : (c : ListCommand) → IsLocal (list_command_keys c) (list_command_case c)
local-list_command (Llen key) = local-at_key key (at_list length_step)
local-list_command (Lpop key) = local-at_key key (at_list (pop_step Head))
local-list_command (Rpop key) = local-at_key key (at_list (pop_step Tail))
local-list_command (Lpush key items) = local-at_key key (at_list (push_step Head items))
local-list_command (Rpush key items) = local-at_key key (at_list (push_step Tail items))
local-list_command (Lpushx key items) = local-at_key key (at_list (push_there_step Head items))
local-list_command (Rpushx key items) = local-at_key key (at_list (push_there_step Tail items))
local-list_command (Lindex key place) = local-at_key key (at_list (index_step place))
local-list_command (Lset key place item) = local-at_key key (at_list (set_step place item))
local-list_command (Lrange key start end) = local-at_key key (at_list (range_step start end))
local-list_command (Ltrim key start end) = local-at_key key (at_list (trim_step start end))
local-list_command (Lrem key number item) = local-at_key key (at_list (remove_step number item))
local-list_command (Linsert key side pivot item) = local-at_key key (at_list (insert_step side pivot item))
local-list_command (Lmove from to taken put) = local-at_two from to (move_step (bytes_eq from to) taken put)
local-list_command (Rpoplpush from to) = local-at_two from to (move_step (bytes_eq from to) Tail Head)
