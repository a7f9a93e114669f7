-- That each command on keys answers short.
use Rattle.std.proofs.Common.{Bool, true, false, Option, Some, None, arith}
use Rattle.std.specs.FinMap.{get}
use Rattle.std.specs.Str.{bytes_eq}
use Rattle.command_cases.proofs.Short.{short-ok, short-no_such_key}
use Rattle.command_table.specs.declared.key_commands.KeyCommand.{KeyCommand}
use Rattle.command_table.specs.declared.key_commands.KeyCommand.TheVariants.{Del, Unlink, Exists, TypeOf, Rename, Renamenx, Dbsize}
use Rattle.command_table.specs.declared.key_commands.KeyCommand.TheVariants.{Flushall}
use Rattle.key_commands.specs.KeyCommand.{type_reply, rename_step, renamenx_step, key_command_case}
use Rattle.keyspace.specs.Map.{Map}
use Rattle.resp.specs.LongText.{IsShort}
use Rattle.values.specs.declared.Value.{Value}
use Rattle.values.specs.declared.Value.TheVariants as kind

type-short : (there : Option Value) → IsShort (type_reply there)
type-short None = omega arith
type-short (Some (kind.Str text)) = omega arith
type-short (Some (kind.List items)) = omega arith
type-short (Some (kind.Hash pairs)) = omega arith
type-short (Some (kind.Set members)) = omega arith

rename-short : (equal : Bool) (from to : Option Value) → IsShort (rename_step equal from to).1
rename-short equal None there = short-no_such_key
rename-short true (Some value) there = short-ok
rename-short false (Some value) there = short-ok

renamenx-short : (equal : Bool) (from to : Option Value) → IsShort (renamenx_step equal from to).1
renamenx-short equal None there = short-no_such_key
renamenx-short true (Some value) there = tt
renamenx-short false (Some value) (Some there) = tt
renamenx-short false (Some value) None = tt

pub answers_short : (c : KeyCommand) (m : Map) → IsShort (key_command_case c m).1
answers_short (Del keys) m = tt
answers_short (Unlink keys) m = tt
answers_short (Exists keys) m = tt
answers_short (TypeOf key) m = type-short (get m key)
answers_short (Rename from to) m = rename-short (bytes_eq from to) (get m from) (get m to)
answers_short (Renamenx from to) m = renamenx-short (bytes_eq from to) (get m from) (get m to)
answers_short Dbsize m = tt
answers_short Flushall m = short-ok
