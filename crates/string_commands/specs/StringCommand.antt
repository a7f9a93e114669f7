-- What the commands on strings do, by the Redis command reference.
use Rattle.std.specs.Prelude.{◌≡◌, ℕ, suc, ◌+◌, ◌<◌, ◌==◌, nat_le, ℤ, pos, negsuc, neg_ℤ, nat_abs, int_lt}
use Rattle.std.specs.Prelude.{◌++◌, List, [], length, map}
use Rattle.std.specs.Prelude.{codes, ⊤, Bool, true, false, not, Option, Some, None, Result, Ok, Err, IsSome, IsTrue, is_some}
use Rattle.std.specs.Prelude.{if◌then◌else◌}
use Rattle.std.specs.FinMap.{get}
use Rattle.std.specs.Fmt.{signed_decimal}
use Rattle.std.specs.List.{list_any, filter}
use Rattle.std.specs.Option.{option_map}
use Rattle.command_cases.specs.Case.{Case, Step, at_key}
use Rattle.command_cases.specs.Replies.{ok, count, truth, wrong_type, would_overflow}
use Rattle.command_cases.specs.Shapes.{values_at, at_each, at_pairs}
use Rattle.command_table.specs.declared.string_commands.Condition.{Condition}
use Rattle.command_table.specs.declared.string_commands.Condition.TheVariants.{Always, IfAbsent, IfPresent}
use Rattle.command_table.specs.declared.string_commands.StringCommand.{StringCommand}
use Rattle.command_table.specs.declared.string_commands.StringCommand.TheVariants.{Get, Set, Setnx, Getset, Getdel, Mget, Strlen, Getrange}
use Rattle.command_table.specs.declared.string_commands.StringCommand.TheVariants.{Incr, Decr, Incrby, Decrby, Append, Setrange, Mset}
use Rattle.command_table.specs.declared.string_commands.StringCommand.TheVariants.{Msetnx}
use Rattle.integers.specs.Integer.{fits_64_bits}
use Rattle.integers.specs.Range.{range_items}
use Rattle.integers.specs.Sum.{stored_sum}
use Rattle.integers.specs.declared.sum.SumFault.{SumFault}
use Rattle.integers.specs.declared.sum.SumFault.TheVariants.{NotInteger, Overflow}
use Rattle.keyspace.specs.Map.{Map}
use Rattle.resp.specs.Content.{Content, BulkText, ErrorLine, Nothing, Number, Several, contents}
use Rattle.string_commands.specs.declared.writes.TheConstants.{GREATEST_LENGTH}
use Rattle.texts.specs.Texts.{Bytes, firsts}
use Rattle.texts.specs.Writes.{written_at}
use Rattle.values.specs.declared.Value.{Value}
use Rattle.values.specs.declared.Value.TheVariants as kind
use Rattle.values.specs.declared.Value.TheVariants.{Str}

-- a command that wants a string: what it does is by the string at the key, if there is one. A value of another kind
-- stays, and the answer is that it is of the wrong kind
abbrev pub at_string : (Option Bytes → Option Value × Content) → Step
at_string step None = step None
at_string step (Some (kind.Str text)) = step (Some text)
at_string step (Some (kind.List items)) = (Some (kind.List items), wrong_type)
at_string step (Some (kind.Hash pairs)) = (Some (kind.Hash pairs), wrong_type)
at_string step (Some (kind.Set members)) = (Some (kind.Set members), wrong_type)

-- GET: the string, or null; the key keeps what it has
abbrev pub get_string : Option Bytes → Option Value × Content
get_string None = (None, Nothing)
get_string (Some text) = (Some (Str text), BulkText text)

abbrev pub get_step : Step
get_step = at_string get_string

-- whether a SET under this condition takes place, by whether the key is there
abbrev pub is_admitted : Condition → Bool → Bool
is_admitted Always there = true
is_admitted IfAbsent there = not there
is_admitted IfPresent there = there

-- SET: the string, whatever was there, and OK; or null, and the key keeps what it has
abbrev pub set_step : Bytes → Condition → Step
set_step value condition before = if is_admitted condition (is_some before) then (Some (Str value), ok) else (before, Nothing)

-- SETNX: as SET with NX, and whether it took place
abbrev pub setnx_step : Bytes → Step
setnx_step value None = (Some (Str value), truth true)
setnx_step value (Some there) = (Some there, truth false)

-- GETSET: the string that was there, or null, and the key has the new one
abbrev pub getset_string : Bytes → Option Bytes → Option Value × Content
getset_string value None = (Some (Str value), Nothing)
getset_string value (Some text) = (Some (Str value), BulkText text)

-- GETDEL: the string that was there, or null, and the key is gone
abbrev pub getdel_string : Option Bytes → Option Value × Content
getdel_string None = (None, Nothing)
getdel_string (Some text) = (None, BulkText text)

-- STRLEN: the number of bytes, 0 of a missing key
abbrev pub strlen_string : Option Bytes → Option Value × Content
strlen_string None = (None, count 0)
strlen_string (Some text) = (Some (Str text), count (length text))

-- MGET: each string, or null of a missing key and of a value of another kind
abbrev pub string_or_null : Option Value → Content
string_or_null None = Nothing
string_or_null (Some (kind.Str text)) = BulkText text
string_or_null (Some (kind.List items)) = Nothing
string_or_null (Some (kind.Hash pairs)) = Nothing
string_or_null (Some (kind.Set members)) = Nothing

abbrev pub mget_reply : List (Option Value) → Content
mget_reply values = Several (contents (map string_or_null values))

-- a missing string counts as the empty one
abbrev pub or_empty : Option Bytes → Bytes
or_empty None = []
or_empty (Some text) = text

-- GETRANGE: the bytes from start to end
abbrev pub getrange_string : ℤ → ℤ → Option Bytes → Option Value × Content
getrange_string start end before = (option_map Str before, BulkText (range_items start end (or_empty before)))

-- why a string has no number for its key
abbrev pub no_number : SumFault → Content
no_number NotInteger = ErrorLine (codes "ERR value is not an integer or out of range")
no_number Overflow = would_overflow

-- the text of the sum, and the sum; or the string that was there, and why there is no sum
abbrev pub with_sum : Option Bytes → Result ℤ SumFault → Option Value × Content
with_sum before (Ok sum) = (Some (Str (signed_decimal sum)), Number sum)
with_sum before (Err fault) = (option_map Str before, no_number fault)

-- INCRBY: the number that the string says and another one, a missing key counting as 0
abbrev pub incrby_string : ℤ → Option Bytes → Option Value × Content
incrby_string by before = with_sum before (stored_sum before by)

abbrev pub incrby_step : ℤ → Step
incrby_step by = at_string (incrby_string by)

-- DECRBY: as INCRBY with the opposite number, where that has 64 bits
abbrev pub decrby_step : ℤ → Step
decrby_step by before = if fits_64_bits (neg_ℤ by) then incrby_step (neg_ℤ by) before else (before, would_overflow)

-- a string would be longer than a string may be
abbrev pub too_long : Content
too_long = ErrorLine (codes "ERR string exceeds maximum allowed size")

-- the string that was written up to this end, and its length; or the one that was there, where the end is too far
abbrev pub written : ℕ → Option Bytes → Bytes → Option Value × Content
written end before after =
    if nat_le end GREATEST_LENGTH then (Some (Str after), count (length after)) else (option_map Str before, too_long)

-- APPEND: the string with the tail behind it
abbrev pub append_string : Bytes → Option Bytes → Option Value × Content
append_string tail before = written (length (or_empty before) + length tail) before (or_empty before ++ tail)

-- SETRANGE from a place on: nothing where there is nothing to write, else the string with the value over it
abbrev pub setrange_string : ℕ → Bytes → Option Bytes → Option Value × Content
setrange_string offset value before =
    if length value == 0 then (option_map Str before, count (length (or_empty before)))
    else written (offset + length value) before (written_at (or_empty before) offset value)

-- an offset lies before the string
abbrev pub bad_offset : Content
bad_offset = ErrorLine (codes "ERR offset is out of range")

-- SETRANGE: whether the offset is below 0 is asked before what the key has
abbrev pub setrange_step : ℤ → Bytes → Step
setrange_step offset value before =
    if int_lt offset (pos 0) then (before, bad_offset) else at_string (setrange_string (nat_abs offset) value) before

-- MSET: all pairs are written, and OK
abbrev pub mset_step : List (Option Value) → Bool × Content
mset_step values = (true, ok)

-- MSETNX: all pairs where none of the keys is there, else none; and which it was
abbrev pub msetnx_step : List (Option Value) → Bool × Content
msetnx_step values = if list_any is_some values then (false, truth false) else (true, truth true)

abbrev pub string_command_case : StringCommand → Case
string_command_case (Get key) = at_key key get_step
string_command_case (Set key value condition) = at_key key (set_step value condition)
string_command_case (Setnx key value) = at_key key (setnx_step value)
string_command_case (Getset key value) = at_key key (at_string (getset_string value))
string_command_case (Getdel key) = at_key key (at_string getdel_string)
string_command_case (Mget keys) = at_each keys mget_reply
string_command_case (Strlen key) = at_key key (at_string strlen_string)
string_command_case (Getrange key start end) = at_key key (at_string (getrange_string start end))
string_command_case (Incr key) = at_key key (incrby_step (pos 1))
string_command_case (Decr key) = at_key key (incrby_step (negsuc 0))
string_command_case (Incrby key by) = at_key key (incrby_step by)
string_command_case (Decrby key by) = at_key key (decrby_step by)
string_command_case (Append key tail) = at_key key (at_string (append_string tail))
string_command_case (Setrange key offset value) = at_key key (setrange_step offset value)
string_command_case (Mset pairs) = at_pairs pairs mset_step
string_command_case (Msetnx pairs) = at_pairs pairs msetnx_step

-- what a key takes: nothing where it is missing, else one more than its string has bytes
abbrev pub room : Option Value → ℕ
room None = 0
room (Some (kind.Str text)) = suc (length text)
room (Some (kind.List items)) = 1
room (Some (kind.Hash pairs)) = 1
room (Some (kind.Set members)) = 1

-- the step adds the key, or makes its string longer than it was
abbrev pub Grows : Step → Option Value → Type 0
Grows step before = room before < room (step before).0

-- those of the keys that aren't there
abbrev pub missing_among : Map → List Bytes → List Bytes
missing_among m keys = filter (λ key. not (is_some (get m key))) keys

-- where a command on strings takes memory: GET copies a string that isn't empty, GETRANGE one that is there, and MGET
-- makes a list; the others add a key that isn't there, or make its string longer than it was
abbrev pub StringCommandTakesMemory : StringCommand → Map → Type 0
StringCommandTakesMemory (Get key) m = 1 < room (get m key)
StringCommandTakesMemory (Set key value condition) m = (get m key ≡ None) × IsTrue (is_admitted condition false)
StringCommandTakesMemory (Setnx key value) m = get m key ≡ None
StringCommandTakesMemory (Getset key value) m = get m key ≡ None
StringCommandTakesMemory (Getdel key) m = ⊥
StringCommandTakesMemory (Mget keys) m = ⊤
StringCommandTakesMemory (Strlen key) m = ⊥
StringCommandTakesMemory (Getrange key start end) m = IsSome (get m key)
StringCommandTakesMemory (Incr key) m = Grows (incrby_step (pos 1)) (get m key)
StringCommandTakesMemory (Decr key) m = Grows (incrby_step (negsuc 0)) (get m key)
StringCommandTakesMemory (Incrby key by) m = Grows (incrby_step by) (get m key)
StringCommandTakesMemory (Decrby key by) m = Grows (decrby_step by) (get m key)
StringCommandTakesMemory (Append key tail) m = Grows (at_string (append_string tail)) (get m key)
StringCommandTakesMemory (Setrange key offset value) m = Grows (setrange_step offset value) (get m key)
StringCommandTakesMemory (Mset pairs) m = 0 < length (missing_among m (firsts pairs))
StringCommandTakesMemory (Msetnx pairs) m = list_any is_some (values_at m (firsts pairs)) ≡ false
