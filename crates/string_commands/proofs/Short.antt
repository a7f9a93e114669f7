-- That each command on strings answers short, but for those that answer a string or an array of them.
use Rattle.std.proofs.Common.{◌≡◌, ℕ, ◌+◌, ◌==◌, nat_le, ℤ, pos, negsuc, neg_ℤ, int_lt, nat_abs, List, length, Option, Some, None}
use Rattle.std.proofs.Common.{Result, Ok, Err, is_some, refl, arith}
use Rattle.std.specs.FinMap.{get}
use Rattle.std.specs.List.{list_any}
use Rattle.command_cases.proofs.Short.{short-ok, short-wrong_type, short-would_overflow, short-chosen}
use Rattle.command_cases.specs.Shapes.{values_at}
use Rattle.command_table.specs.declared.string_commands.Condition.{Condition}
use Rattle.command_table.specs.declared.string_commands.StringCommand.{StringCommand}
use Rattle.command_table.specs.declared.string_commands.StringCommand.TheVariants.{Get, Set, Setnx, Getset, Getdel, Mget, Strlen, Getrange}
use Rattle.command_table.specs.declared.string_commands.StringCommand.TheVariants.{Incr, Decr, Incrby, Decrby, Append, Setrange, Mset}
use Rattle.command_table.specs.declared.string_commands.StringCommand.TheVariants.{Msetnx}
use Rattle.integers.specs.Integer.{fits_64_bits}
use Rattle.integers.specs.Sum.{stored_sum}
use Rattle.integers.specs.declared.sum.SumFault.{SumFault}
use Rattle.integers.specs.declared.sum.SumFault.TheVariants.{NotInteger, Overflow}
use Rattle.keyspace.specs.Map.{Map}
use Rattle.resp.specs.Content.{Content}
use Rattle.resp.specs.LongText.{IsShort}
use Rattle.string_commands.specs.StringCommand.{at_string, is_admitted, set_step, setnx_step, strlen_string, or_empty, with_sum}
use Rattle.string_commands.specs.StringCommand.{incrby_string, incrby_step, decrby_step, written, append_string, setrange_string}
use Rattle.string_commands.specs.StringCommand.{setrange_step, msetnx_step, string_command_case}
use Rattle.string_commands.specs.declared.writes.TheConstants.{GREATEST_LENGTH}
use Rattle.texts.specs.Texts.{Bytes, firsts}
use Rattle.values.specs.declared.Value.{Value}
use Rattle.values.specs.declared.Value.TheVariants as kind

short-at_string : (step : Option Bytes → Option Value × Content) → ((before : Option Bytes) → IsShort (step before).1)
    → (there : Option Value) → IsShort (at_string step there).1
short-at_string step short None = short None
short-at_string step short (Some (kind.Str text)) = short (Some text)
short-at_string step short (Some (kind.List items)) = short-wrong_type
short-at_string step short (Some (kind.Hash pairs)) = short-wrong_type
short-at_string step short (Some (kind.Set members)) = short-wrong_type

short-set : (value : Bytes) (condition : Condition) (there : Option Value) → IsShort (set_step value condition there).1
short-set value condition there = short-chosen (is_admitted condition (is_some there)) _ _ short-ok tt

short-setnx : (value : Bytes) (there : Option Value) → IsShort (setnx_step value there).1
short-setnx value None = tt
short-setnx value (Some there) = tt

short-strlen : (before : Option Bytes) → IsShort (strlen_string before).1
short-strlen None = tt
short-strlen (Some text) = tt

short-sum : (before : Option Bytes) (sum : Result ℤ SumFault) → IsShort (with_sum before sum).1
short-sum before (Ok sum) = tt
short-sum before (Err NotInteger) = omega arith
short-sum before (Err Overflow) = short-would_overflow

short-incrby : (by : ℤ) (there : Option Value) → IsShort (incrby_step by there).1
short-incrby by = short-at_string (incrby_string by) (λ before. short-sum before (stored_sum before by))

short-decrby : (by : ℤ) (there : Option Value) → IsShort (decrby_step by there).1
short-decrby by there = short-chosen (fits_64_bits (neg_ℤ by)) _ _ (short-incrby (neg_ℤ by) there) short-would_overflow

short-written : (end : ℕ) (before : Option Bytes) (after : Bytes) → IsShort (written end before after).1
short-written end before after = short-chosen (nat_le end GREATEST_LENGTH) _ _ tt (omega arith)

short-append : (tail : Bytes) (before : Option Bytes) → IsShort (append_string tail before).1
short-append tail before = short-written (length (or_empty before) + length tail) before _

short-over : (offset : ℕ) (value : Bytes) (before : Option Bytes) → IsShort (setrange_string offset value before).1
short-over offset value before = short-chosen (length value == 0) _ _ tt (short-written (offset + length value) before _)

short-setrange : (offset : ℤ) (value : Bytes) (there : Option Value) → IsShort (setrange_step offset value there).1
short-setrange offset value there =
    short-chosen (int_lt offset (pos 0)) _ _ (omega arith)
    (short-at_string (setrange_string (nat_abs offset) value) (short-over (nat_abs offset) value) there)

short-msetnx : (values : List (Option Value)) → IsShort (msetnx_step values).1
short-msetnx values = short-chosen (list_any is_some values) _ _ tt tt

-- every command that isn't one of these five
pub answers_short : (c : StringCommand) (m : Map) → ((key : Bytes) → c ≡ Get key → ⊥) → ((keys : List Bytes) → c ≡ Mget keys → ⊥)
    → ((key : Bytes) (start end : ℤ) → c ≡ Getrange key start end → ⊥) → ((key value : Bytes) → c ≡ Getset key value → ⊥)
    → ((key : Bytes) → c ≡ Getdel key → ⊥) → IsShort (string_command_case c m).1
answers_short (Get key) m get _ _ _ _ = absurd (get key refl)
answers_short (Mget keys) m _ mget _ _ _ = absurd (mget keys refl)
answers_short (Getrange key start end) m _ _ getrange _ _ = absurd (getrange key start end refl)
answers_short (Getset key value) m _ _ _ getset _ = absurd (getset key value refl)
answers_short (Getdel key) m _ _ _ _ getdel = absurd (getdel key refl)
answers_short (Set key value condition) m _ _ _ _ _ = short-set value condition (get m key)
answers_short (Setnx key value) m _ _ _ _ _ = short-setnx value (get m key)
answers_short (Strlen key) m _ _ _ _ _ = short-at_string strlen_string short-strlen (get m key)
answers_short (Incr key) m _ _ _ _ _ = short-incrby (pos 1) (get m key)
answers_short (Decr key) m _ _ _ _ _ = short-incrby (negsuc 0) (get m key)
answers_short (Incrby key by) m _ _ _ _ _ = short-incrby by (get m key)
answers_short (Decrby key by) m _ _ _ _ _ = short-decrby by (get m key)
answers_short (Append key tail) m _ _ _ _ _ = short-at_string (append_string tail) (short-append tail) (get m key)
answers_short (Setrange key offset value) m _ _ _ _ _ = short-setrange offset value (get m key)
answers_short (Mset pairs) m _ _ _ _ _ = short-ok
answers_short (Msetnx pairs) m _ _ _ _ _ = short-msetnx (values_at m (firsts pairs))
