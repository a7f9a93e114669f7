-- That each command on hashes looks at its own keys alone.
use Rattle.command_cases.proofs.Local.{local-at_key}
use Rattle.command_cases.specs.Case.{IsLocal}
use Rattle.command_table.specs.HashCommands.{hash_command_keys}
use Rattle.command_table.specs.declared.hash_commands.HashCommand.{HashCommand}
use Rattle.command_table.specs.declared.hash_commands.HashCommand.TheVariants.{Hlen, Hget, Hexists, Hstrlen, Hkeys, Hvals, Hgetall, Hmget}
use Rattle.command_table.specs.declared.hash_commands.HashCommand.TheVariants.{Hdel, Hsetnx, Hset, Hmset, Hincrby}
use Rattle.hash_commands.specs.HashCommand.{looks_at_hash, hlen_answer, hget_answer, hexists_answer, hstrlen_answer, hkeys_answer}
use Rattle.hash_commands.specs.HashCommand.{hvals_answer, hgetall_answer, hmget_answer, changes_hash, hdel_change, hsetnx_step, hset_step}
use Rattle.hash_commands.specs.HashCommand.{hmset_step, hincrby_step, hash_command_case}

pub local-hash_command : (c : HashCommand) → IsLocal (hash_command_keys c) (hash_command_case c)
local-hash_command (Hlen key) = local-at_key key (looks_at_hash hlen_answer)
local-hash_command (Hget key field) = local-at_key key (looks_at_hash (hget_answer field))
local-hash_command (Hexists key field) = local-at_key key (looks_at_hash (hexists_answer field))
local-hash_command (Hstrlen key field) = local-at_key key (looks_at_hash (hstrlen_answer field))
local-hash_command (Hkeys key) = local-at_key key (looks_at_hash hkeys_answer)
local-hash_command (Hvals key) = local-at_key key (looks_at_hash hvals_answer)
local-hash_command (Hgetall key) = local-at_key key (looks_at_hash hgetall_answer)
local-hash_command (Hmget key fields) = local-at_key key (looks_at_hash (hmget_answer fields))
local-hash_command (Hdel key fields) = local-at_key key (changes_hash (hdel_change fields))
local-hash_command (Hsetnx key field value) = local-at_key key (hsetnx_step field value)
local-hash_command (Hset key pairs) = local-at_key key (hset_step pairs)
local-hash_command (Hmset key pairs) = local-at_key key (hmset_step pairs)
local-hash_command (Hincrby key field by) = local-at_key key (hincrby_step field by)
