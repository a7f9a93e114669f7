-- What the commands on keys of any type do, by the Redis command reference.
use Rattle.std.specs.Prelude.{◌≡◌, Bool, true, false, List, Option, Some, None, IsSome, is_some, codes}
use Rattle.std.specs.FinMap.{get, len, empty}
use Rattle.std.specs.List.{count_by}
use Rattle.std.specs.Str.{bytes_eq}
use Rattle.command_cases.specs.Case.{Case, Step, at_key}
use Rattle.command_cases.specs.Replies.{ok, count, truth, no_such_key}
use Rattle.command_cases.specs.Shapes.{StepOfTwo, at_each, at_two}
use Rattle.command_table.specs.declared.key_commands.KeyCommand.{KeyCommand}
use Rattle.command_table.specs.declared.key_commands.KeyCommand.TheVariants.{Del, Unlink, Exists, TypeOf, Rename, Renamenx, Dbsize}
use Rattle.command_table.specs.declared.key_commands.KeyCommand.TheVariants.{Flushall}
use Rattle.keyspace.specs.Map.{Map, restrict, without}
use Rattle.resp.specs.Content.{Content, SimpleText}
use Rattle.texts.specs.Texts.{Bytes}
use Rattle.values.specs.Value.{type_name}
use Rattle.values.specs.declared.Value.{Value}

-- DEL: the map without these keys, and how many of them it had; a key that is named twice is one key
abbrev pub del_case : List Bytes → Case
del_case keys m = (without m keys, count (len (restrict m keys)))

-- EXISTS: how many words name a key that is there; a key that is named twice counts twice
abbrev pub exists_case : List Bytes → Case
exists_case keys = at_each keys (λ values. count (count_by is_some values))

-- TYPE: the name of the type of what is there
abbrev pub type_reply : Option Value → Content
type_reply None = SimpleText (codes "none")
type_reply (Some value) = SimpleText (type_name value)

abbrev pub type_step : Step
type_step there = (there, type_reply there)

-- RENAME: the value of the first key moves to the second, whatever was there. Equal names are one key, which keeps its
-- value
abbrev pub rename_step : (equal : Bool) → StepOfTwo
rename_step equal None there = ((None, there), no_such_key)
rename_step true (Some value) there = ((Some value, there), ok)
rename_step false (Some value) there = ((None, Some value), ok)

-- RENAMENX: as RENAME where the second key isn't there, and whether it took place. Equal names are a key that is there
abbrev pub renamenx_step : (equal : Bool) → StepOfTwo
renamenx_step equal None there = ((None, there), no_such_key)
renamenx_step true (Some value) there = ((Some value, there), truth false)
renamenx_step false (Some value) (Some there) = ((Some value, Some there), truth false)
renamenx_step false (Some value) None = ((None, Some value), truth true)

-- DBSIZE: how many keys there are
abbrev pub dbsize_case : Case
dbsize_case m = (m, count (len m))

-- FLUSHALL: no keys are left
abbrev pub flushall_case : Case
flushall_case m = (empty, ok)

abbrev pub key_command_case : KeyCommand → Case
key_command_case (Del keys) = del_case keys
key_command_case (Unlink keys) = del_case keys
key_command_case (Exists keys) = exists_case keys
key_command_case (TypeOf key) = at_key key type_step
key_command_case (Rename from to) = at_two from to (rename_step (bytes_eq from to))
key_command_case (Renamenx from to) = at_two from to (renamenx_step (bytes_eq from to))
key_command_case Dbsize = dbsize_case
key_command_case Flushall = flushall_case

-- where a command on keys takes memory: RENAME and RENAMENX add a key that isn't there
abbrev pub KeyCommandTakesMemory : KeyCommand → Map → Type 0
KeyCommandTakesMemory (Del keys) m = ⊥
KeyCommandTakesMemory (Unlink keys) m = ⊥
KeyCommandTakesMemory (Exists keys) m = ⊥
KeyCommandTakesMemory (TypeOf key) m = ⊥
KeyCommandTakesMemory (Rename from to) m = IsSome (get m from) × (get m to ≡ None)
KeyCommandTakesMemory (Renamenx from to) m = IsSome (get m from) × (get m to ≡ None)
KeyCommandTakesMemory Dbsize m = ⊥
KeyCommandTakesMemory Flushall m = ⊥
