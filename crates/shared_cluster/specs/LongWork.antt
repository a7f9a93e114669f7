-- Which requests take long: those that combine whole sets, and EXECs of lists with such a member.
use Rattle.std.specs.Prelude.{Bool, true, false, ◌&&◌, ◌||◌, if◌then◌else◌, nat_lt, codes, List, length, take}
use Rattle.std.specs.List.{list_any}
use Rattle.std.specs.Str.{str_eq_ignore_ascii_case}
use Rattle.command_table.specs.Words.{Word}
use Rattle.command_table.specs.declared.command.Command.{Command}
use Rattle.command_table.specs.declared.command.Command.TheVariants.{Key, Str, Hash, Set, Local}
use Rattle.command_table.specs.declared.command.Command.TheVariants as command
use Rattle.command_table.specs.declared.set_commands.SetCommand.{SetCommand}
use Rattle.command_table.specs.declared.set_commands.SetCommand.TheVariants.{Sadd, Srem, Sismember, Smismember, Scard, Smembers, Smove}
use Rattle.command_table.specs.declared.set_commands.SetCommand.TheVariants.{Sinter, Sunion, Sdiff, Sinterstore, Sunionstore, Sdiffstore}
use Rattle.layer_planner.specs.declared.job.Job.{Job}
use Rattle.sessions.specs.declared.batch.Batch.{Batch}
use Rattle.sessions.specs.declared.batch.Batch.TheVariants.{Plain, Exec}
use Rattle.sessions.specs.declared.member.Member.{Member}
use Rattle.sessions.specs.declared.member.Member.TheVariants.{Runs, Refused}

-- ---- by the name of a request

-- the name begins so, in any case
abbrev pub begins : Word → Word → Bool
begins beginning name =
    if nat_lt (length name) (length beginning) then false else str_eq_ignore_ascii_case (take (length beginning) name) beginning

abbrev pub combines_sets : Word → Bool
combines_sets name = begins (codes "sinter") name || (begins (codes "sunion") name || begins (codes "sdiff") name)

-- whether since the last MULTI a request came that combines whole sets, once one of this name has come
abbrev pub has_sets : Bool → Word → Bool
has_sets had name =
    if combines_sets name then true else if str_eq_ignore_ascii_case name (codes "multi") then false else had

-- the request combines whole sets, or it is an EXEC behind one that does
abbrev pub asks_for_sets : Bool → Word → Bool
asks_for_sets had name =
    combines_sets name || (has_sets had name && str_eq_ignore_ascii_case name (codes "exec"))

-- ---- by what is to be run

abbrev pub is_long_set : SetCommand → Bool
is_long_set (Sadd key members) = false
is_long_set (Srem key members) = false
is_long_set (Sismember key member) = false
is_long_set (Smismember key members) = false
is_long_set (Scard key) = false
is_long_set (Smembers key) = false
is_long_set (Smove from to member) = false
is_long_set (Sinter keys) = true
is_long_set (Sunion keys) = true
is_long_set (Sdiff keys) = true
is_long_set (Sinterstore target sources) = true
is_long_set (Sunionstore target sources) = true
is_long_set (Sdiffstore target sources) = true

abbrev pub is_long_command : Command → Bool
is_long_command (Key command) = false
is_long_command (Str command) = false
is_long_command (command.List command) = false
is_long_command (Hash command) = false
is_long_command (Set command) = is_long_set command
is_long_command (Local command) = false

abbrev pub is_long_member : Member → Bool
is_long_member (Runs command) = is_long_command command
is_long_member (Refused misread) = false

-- a command combines whole sets, or a member of an EXEC does
abbrev pub is_long_batch : Batch → Bool
is_long_batch (Plain command) = is_long_command command
is_long_batch (Exec members) = list_any is_long_member members

abbrev pub is_long_job : Job → Bool
is_long_job job = is_long_batch job.asked.batch

-- one of these requests does
abbrev pub takes_long : List Job → Bool
takes_long jobs = list_any is_long_job jobs
