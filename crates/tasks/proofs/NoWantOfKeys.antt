-- No command on keys of any type says that there was no memory.
use Rattle.std.proofs.Common.{Bool, true, false, Option, Some, None, refl}
use Rattle.std.specs.FinMap.{get}
use Rattle.std.specs.Str.{bytes_eq}
use Rattle.command_table.specs.declared.key_commands.KeyCommand.{KeyCommand}
use Rattle.command_table.specs.declared.key_commands.KeyCommand.TheVariants.{Del, Unlink, Exists, TypeOf, Rename, Renamenx, Dbsize}
use Rattle.command_table.specs.declared.key_commands.KeyCommand.TheVariants.{Flushall}
use Rattle.key_commands.specs.KeyCommand.{type_reply, rename_step, renamenx_step, key_command_case}
use Rattle.keyspace.specs.Map.{Map}
use Rattle.values.specs.declared.Value.{Value}
use Rattle.tasks.proofs.NoWant.{IsNoWant}

type_none : (there : Option Value) → IsNoWant (type_reply there)
type_none None = refl
type_none (Some value) = refl

rename_none : (equal : Bool) (from to : Option Value) → IsNoWant (rename_step equal from to).1
rename_none equal None there = refl
rename_none true (Some value) there = refl
rename_none false (Some value) there = refl

renamenx_none : (equal : Bool) (from to : Option Value) → IsNoWant (renamenx_step equal from to).1
renamenx_none equal None there = refl
renamenx_none true (Some value) there = refl
renamenx_none false (Some value) (Some there) = refl
renamenx_none false (Some value) None = refl

pub no_want-key_command : (c : KeyCommand) (m : Map) → IsNoWant (key_command_case c m).1
no_want-key_command (Del keys) m = refl
no_want-key_command (Unlink keys) m = refl
no_want-key_command (Exists keys) m = refl
no_want-key_command (TypeOf key) m = type_none (get m key)
no_want-key_command (Rename from to) m = rename_none (bytes_eq from to) (get m from) (get m to)
no_want-key_command (Renamenx from to) m = renamenx_none (bytes_eq from to) (get m from) (get m to)
no_want-key_command Dbsize m = refl
no_want-key_command Flushall m = refl
