-- No command on strings says that there was no memory.
use Rattle.std.proofs.Common.{ℕ, ◌+◌, ◌==◌, ℤ, pos, negsuc, neg_ℤ, nat_abs, int_lt, ◌++◌, length, Option, Some, None}
use Rattle.std.proofs.Common.{Result, Ok, Err, refl, is_some, rules}
use Rattle.std.specs.FinMap.{get}
use Rattle.std.specs.List.{list_any}
use Rattle.command_cases.specs.Shapes.{values_at}
use Rattle.command_table.specs.declared.string_commands.Condition.{Condition}
use Rattle.command_table.specs.declared.string_commands.StringCommand.{StringCommand}
use Rattle.command_table.specs.declared.string_commands.StringCommand.TheVariants.{Get, Set, Setnx, Getset, Getdel, Mget, Strlen, Getrange}
use Rattle.command_table.specs.declared.string_commands.StringCommand.TheVariants.{Incr, Decr, Incrby, Decrby, Append, Setrange, Mset}
use Rattle.command_table.specs.declared.string_commands.StringCommand.TheVariants.{Msetnx}
use Rattle.integers.specs.Integer.{fits_64_bits}
use Rattle.integers.specs.Sum.{stored_sum}
use Rattle.integers.specs.declared.sum.SumFault.{SumFault}
use Rattle.integers.specs.declared.sum.SumFault.TheVariants.{NotInteger, Overflow}
use Rattle.keyspace.specs.Map.{Map}
use Rattle.resp.specs.Content.{Content}
use Rattle.string_commands.specs.StringCommand.{at_string, get_string, is_admitted, set_step, setnx_step, getset_string}
use Rattle.string_commands.specs.StringCommand.{getdel_string, strlen_string, getrange_string, with_sum, incrby_string, incrby_step}
use Rattle.string_commands.specs.StringCommand.{decrby_step, written, or_empty, append_string, setrange_string}
use Rattle.string_commands.specs.StringCommand.{setrange_step, string_command_case}
use Rattle.texts.specs.Texts.{Bytes, firsts}
use Rattle.texts.specs.Writes.{written_at}
use Rattle.values.specs.declared.Value.{Value}
use Rattle.values.specs.declared.Value.TheVariants as kind
use Rattle.values.specs.declared.Value.TheVariants.{Str}
use Rattle.tasks.proofs.NoWant.{IsNoWant, no_want-chosen}

at_string_none : (step : Option Bytes → Option Value × Content) → ((before : Option Bytes) → IsNoWant (step before).1)
    → (there : Option Value) → IsNoWant (at_string step there).1
at_string_none step none None = none None
at_string_none step none (Some (kind.Str text)) = none (Some text)
at_string_none step none (Some (kind.List items)) = refl
at_string_none step none (Some (kind.Hash pairs)) = refl
at_string_none step none (Some (kind.Set members)) = refl

get_none : (before : Option Bytes) → IsNoWant (get_string before).1
get_none None = refl
get_none (Some text) = refl

set_none : (value : Bytes) (condition : Condition) (before : Option Value) → IsNoWant (set_step value condition before).1
set_none value condition before = no_want-chosen (is_admitted condition (is_some before)) _ _ refl refl

setnx_none : (value : Bytes) (before : Option Value) → IsNoWant (setnx_step value before).1
setnx_none value None = refl
setnx_none value (Some there) = refl

getset_none : (value : Bytes) (before : Option Bytes) → IsNoWant (getset_string value before).1
getset_none value None = refl
getset_none value (Some text) = refl

getdel_none : (before : Option Bytes) → IsNoWant (getdel_string before).1
getdel_none None = refl
getdel_none (Some text) = refl

strlen_none : (before : Option Bytes) → IsNoWant (strlen_string before).1
strlen_none None = refl
strlen_none (Some text) = refl

sum_none : (before : Option Bytes) (sum : Result ℤ SumFault) → IsNoWant (with_sum before sum).1
sum_none before (Ok sum) = refl
sum_none before (Err NotInteger) = refl
sum_none before (Err Overflow) = refl

incrby_none : (by : ℤ) (there : Option Value) → IsNoWant (incrby_step by there).1
incrby_none by there = at_string_none (incrby_string by) (λ before. sum_none before (stored_sum before by)) there

decrby_none : (by : ℤ) (there : Option Value) → IsNoWant (decrby_step by there).1
decrby_none by there = no_want-chosen (fits_64_bits (neg_ℤ by)) (incrby_step (neg_ℤ by) there) _ (incrby_none (neg_ℤ by) there) refl

written_none : (end : ℕ) (before : Option Bytes) (after : Bytes) → IsNoWant (written end before after).1
written_none end before after = search (rules, no_want-chosen)

append_none : (tail : Bytes) (before : Option Bytes) → IsNoWant (append_string tail before).1
append_none tail before = written_none (length (or_empty before) + length tail) before (or_empty before ++ tail)

setrange_string_none : (offset : ℕ) (value : Bytes) (before : Option Bytes) → IsNoWant (setrange_string offset value before).1
setrange_string_none offset value before =
    no_want-chosen (length value == 0) _ (written (offset + length value) before (written_at (or_empty before) offset value)) refl
    (written_none (offset + length value) before (written_at (or_empty before) offset value))

setrange_none : (offset : ℤ) (value : Bytes) (before : Option Value) → IsNoWant (setrange_step offset value before).1
setrange_none offset value before =
    no_want-chosen (int_lt offset (pos 0)) _ (at_string (setrange_string (nat_abs offset) value) before) refl
    (at_string_none (setrange_string (nat_abs offset) value) (setrange_string_none (nat_abs offset) value) before)

pub no_want-string_command : (c : StringCommand) (m : Map) → IsNoWant (string_command_case c m).1
no_want-string_command (Get key) m = at_string_none get_string get_none (get m key)
no_want-string_command (Set key value condition) m = set_none value condition (get m key)
no_want-string_command (Setnx key value) m = setnx_none value (get m key)
no_want-string_command (Getset key value) m = at_string_none (getset_string value) (getset_none value) (get m key)
no_want-string_command (Getdel key) m = at_string_none getdel_string getdel_none (get m key)
no_want-string_command (Mget keys) m = refl
no_want-string_command (Strlen key) m = at_string_none strlen_string strlen_none (get m key)
no_want-string_command (Getrange key start end) m = at_string_none (getrange_string start end) (λ before. refl) (get m key)
no_want-string_command (Incr key) m = incrby_none (pos 1) (get m key)
no_want-string_command (Decr key) m = incrby_none (negsuc 0) (get m key)
no_want-string_command (Incrby key by) m = incrby_none by (get m key)
no_want-string_command (Decrby key by) m = decrby_none by (get m key)
no_want-string_command (Append key tail) m = at_string_none (append_string tail) (append_none tail) (get m key)
no_want-string_command (Setrange key offset value) m = setrange_none offset value (get m key)
no_want-string_command (Mset pairs) m = refl
no_want-string_command (Msetnx pairs) m = no_want-chosen (list_any is_some (values_at m (firsts pairs))) _ _ refl refl
