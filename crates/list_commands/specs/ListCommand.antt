-- What the commands on lists do, by the Redis command reference.
use Rattle.std.specs.Prelude.{ℕ, zero, suc, ◌-◌, ℤ, pos, negsuc, Bool, true, false, List, [], ◌∷◌, length, map, Option, Some, None, IsTrue}
use Rattle.std.specs.Prelude.{nat_lt, insert, position, slice_get, slice_set, codes, if◌then◌else◌}
use Rattle.std.specs.FinMap.{get}
use Rattle.std.specs.Str.{bytes_eq}
use Rattle.command_cases.specs.Case.{Case, Step, at_key}
use Rattle.command_cases.specs.Replies.{ok, count, wrong_type, no_such_key}
use Rattle.command_cases.specs.Shapes.{StepOfTwo, at_two}
use Rattle.command_table.specs.declared.list_commands.ListCommand.{ListCommand}
use Rattle.command_table.specs.declared.list_commands.ListCommand.TheVariants.{Llen, Lpop, Rpop, Lpush, Rpush, Lpushx, Rpushx, Lindex, Lset}
use Rattle.command_table.specs.declared.list_commands.ListCommand.TheVariants.{Lrange, Ltrim, Lrem, Linsert, Lmove, Rpoplpush}
use Rattle.command_table.specs.declared.list_commands.Side.{Side}
use Rattle.command_table.specs.declared.list_commands.Side.TheVariants.{Before, After}
use Rattle.integers.specs.Range.{place, range_items}
use Rattle.keyspace.specs.Map.{Map}
use Rattle.resp.specs.Content.{Content, ErrorLine, Number, BulkText, Nothing, Several, contents, text_or_null}
use Rattle.texts.specs.Texts.{Bytes}
use Rattle.texts.specs.declared.text_list.End.{End}
use Rattle.texts.specs.declared.text_list.End.TheVariants.{Head, Tail}
use Rattle.values.specs.ListValue.{pushed, end_item, popped, joined, without_equal}
use Rattle.values.specs.Value.{list_value}
use Rattle.values.specs.declared.Value.{Value}
use Rattle.values.specs.declared.Value.TheVariants as kind

-- a command that wants a list: what it does is by the items at the key, if there is a list. A value of another kind
-- stays, and the answer is that it is of the wrong kind
abbrev pub at_list : (Option (List Bytes) → Option Value × Content) → Step
at_list step None = step None
at_list step (Some (kind.List items)) = step (Some items)
at_list step (Some (kind.Str text)) = (Some (kind.Str text), wrong_type)
at_list step (Some (kind.Hash pairs)) = (Some (kind.Hash pairs), wrong_type)
at_list step (Some (kind.Set members)) = (Some (kind.Set members), wrong_type)

-- whether there is a list
abbrev pub is_list : Option Value → Bool
is_list None = false
is_list (Some (kind.List items)) = true
is_list (Some (kind.Str text)) = false
is_list (Some (kind.Hash pairs)) = false
is_list (Some (kind.Set members)) = false

-- whether there is a list or nothing
abbrev pub may_be_list : Option Value → Bool
may_be_list None = true
may_be_list (Some value) = is_list (Some value)

-- the items of the list there, if there is one
abbrev pub items_there : Option Value → List Bytes
items_there None = []
items_there (Some (kind.List items)) = items
items_there (Some (kind.Str text)) = []
items_there (Some (kind.Hash pairs)) = []
items_there (Some (kind.Set members)) = []

-- the first of these texts, or null
abbrev pub first_or_null : List Bytes → Content
first_or_null [] = Nothing
first_or_null (text ∷ rest) = BulkText text

-- LLEN: the number of items; the list stays
abbrev pub length_step : Option (List Bytes) → Option Value × Content
length_step None = (None, count 0)
length_step (Some items) = (Some (kind.List items), count (length items))

-- LPOP, RPOP: the item at this end, which is taken
abbrev pub pop_step : End → Option (List Bytes) → Option Value × Content
pop_step end None = (None, Nothing)
pop_step end (Some items) = (list_value (popped end items), first_or_null (end_item end items))

-- LPUSH, RPUSH: the items are pushed at this end, one after another; the new length
abbrev pub push_step : End → List Bytes → Option (List Bytes) → Option Value × Content
push_step end more None = (list_value (pushed end [] more), count (length (pushed end [] more)))
push_step end more (Some items) = (Some (kind.List (pushed end items more)), count (length (pushed end items more)))

-- LPUSHX, RPUSHX: the same where there is a list
abbrev pub push_there_step : End → List Bytes → Option (List Bytes) → Option Value × Content
push_there_step end more None = (None, count 0)
push_there_step end more (Some items) = push_step end more (Some items)

-- a place of a list of this length, where it is one
abbrev pub within : ℤ → ℕ → Option ℕ
within (pos p) len = if nat_lt p len then Some p else None
within (negsuc n) len = None

-- the place from the head that is meant; one below 0 counts from the end
abbrev pub place_in : ℤ → ℕ → Option ℕ
place_in at len = within (place at len) len

-- the item at a place, if it is one
abbrev pub item_at : List Bytes → Option ℕ → Option Bytes
item_at items None = None
item_at items (Some p) = slice_get items p

-- LINDEX: the item at the place, or null
abbrev pub index_step : ℤ → Option (List Bytes) → Option Value × Content
index_step at None = (None, Nothing)
index_step at (Some items) = (Some (kind.List items), text_or_null (item_at items (place_in at (length items))))

-- no item is at the place
abbrev pub index_out_of_range : Content
index_out_of_range = ErrorLine (codes "ERR index out of range")

-- the list with this item at the place, if it is one
abbrev pub set_at : List Bytes → Bytes → Option ℕ → Option Value × Content
set_at items item None = (Some (kind.List items), index_out_of_range)
set_at items item (Some p) = (Some (kind.List (slice_set items p item)), ok)

-- LSET: the item in the place of the one that is there
abbrev pub set_step : ℤ → Bytes → Option (List Bytes) → Option Value × Content
set_step at item None = (None, no_such_key)
set_step at item (Some items) = set_at items item (place_in at (length items))

-- these texts as an array
abbrev pub several : List Bytes → Content
several texts = Several (contents (map BulkText texts))

-- LRANGE: the items of the range
abbrev pub range_step : ℤ → ℤ → Option (List Bytes) → Option Value × Content
range_step start end None = (None, several [])
range_step start end (Some items) = (Some (kind.List items), several (range_items start end items))

-- LTRIM: only the items of the range are kept
abbrev pub trim_step : ℤ → ℤ → Option (List Bytes) → Option Value × Content
trim_step start end None = (None, ok)
trim_step start end (Some items) = (list_value (range_items start end items), ok)

-- the list without the items that are equal to this one: the first so many from the head, or from the tail for a number
-- below 0, or all for 0
abbrev pub without_counted : ℤ → Bytes → List Bytes → List Bytes
without_counted (pos zero) item items = without_equal Head item (length items) items
without_counted (pos (suc n)) item items = without_equal Head item (suc n) items
without_counted (negsuc n) item items = without_equal Tail item (suc n) items

-- LREM: how many are removed
abbrev pub remove_step : ℤ → Bytes → Option (List Bytes) → Option Value × Content
remove_step number item None = (None, count 0)
remove_step number item (Some items) =
    (list_value (without_counted number item items), count (length items - length (without_counted number item items)))

-- the place before or after the item at this one
abbrev pub beside : Side → ℕ → ℕ
beside Before p = p
beside After p = suc p

-- the list with this item beside the one at the place, if there is one
abbrev pub insert_beside : Side → List Bytes → Bytes → Option ℕ → Option Value × Content
insert_beside side items item None = (Some (kind.List items), Number (negsuc 0))
insert_beside side items item (Some p) = (Some (kind.List (insert items (beside side p) item)), count (suc (length items)))

-- LINSERT: the item goes beside the first one from the head that is equal to the pivot; the new length, -1 where none
-- is equal, 0 where there is no list
abbrev pub insert_step : Side → Bytes → Bytes → Option (List Bytes) → Option Value × Content
insert_step side pivot item None = (None, count 0)
insert_step side pivot item (Some items) = insert_beside side items item (position (bytes_eq pivot) items)

-- this list at both of two names
abbrev pub at_both : List Bytes → Option Value × Option Value
at_both items = (Some (kind.List items), Some (kind.List items))

-- LMOVE, RPOPLPUSH: the item at one end of the first list goes to an end of the second; equal names are one list, which
-- is turned. Where the first is missing the answer is null, whatever is at the second
abbrev pub move_step : (equal : Bool) (taken put : End) → StepOfTwo
move_step equal taken put None there = ((None, there), Nothing)
move_step equal taken put (Some (kind.Str text)) there = ((Some (kind.Str text), there), wrong_type)
move_step equal taken put (Some (kind.Hash pairs)) there = ((Some (kind.Hash pairs), there), wrong_type)
move_step equal taken put (Some (kind.Set members)) there = ((Some (kind.Set members), there), wrong_type)
move_step true taken put (Some (kind.List items)) there =
    (at_both (joined put (popped taken items) (end_item taken items)), first_or_null (end_item taken items))
move_step false taken put (Some (kind.List items)) None =
    ((list_value (popped taken items), Some (kind.List (joined put [] (end_item taken items)))), first_or_null (end_item taken items))
move_step false taken put (Some (kind.List items)) (Some (kind.List others)) =
    ((list_value (popped taken items), Some (kind.List (joined put others (end_item taken items)))), first_or_null (end_item taken items))
move_step false taken put (Some (kind.List items)) (Some (kind.Str text)) = ((Some (kind.List items), Some (kind.Str text)), wrong_type)
move_step false taken put (Some (kind.List items)) (Some (kind.Hash pairs)) = ((Some (kind.List items), Some (kind.Hash pairs)), wrong_type)
move_step false taken put (Some (kind.List items)) (Some (kind.Set members)) =
    ((Some (kind.List items), Some (kind.Set members)), wrong_type)

abbrev pub list_command_case : ListCommand → Case
list_command_case (Llen key) = at_key key (at_list length_step)
list_command_case (Lpop key) = at_key key (at_list (pop_step Head))
list_command_case (Rpop key) = at_key key (at_list (pop_step Tail))
list_command_case (Lpush key items) = at_key key (at_list (push_step Head items))
list_command_case (Rpush key items) = at_key key (at_list (push_step Tail items))
list_command_case (Lpushx key items) = at_key key (at_list (push_there_step Head items))
list_command_case (Rpushx key items) = at_key key (at_list (push_there_step Tail items))
list_command_case (Lindex key place) = at_key key (at_list (index_step place))
list_command_case (Lset key place item) = at_key key (at_list (set_step place item))
list_command_case (Lrange key start end) = at_key key (at_list (range_step start end))
list_command_case (Ltrim key start end) = at_key key (at_list (trim_step start end))
list_command_case (Lrem key number item) = at_key key (at_list (remove_step number item))
list_command_case (Linsert key side pivot item) = at_key key (at_list (insert_step side pivot item))
list_command_case (Lmove from to taken put) = at_two from to (move_step (bytes_eq from to) taken put)
list_command_case (Rpoplpush from to) = at_two from to (move_step (bytes_eq from to) Tail Head)

-- where a command on lists takes memory: a push that adds items or a key; a copy of items for the reply
abbrev pub ListCommandTakesMemory : ListCommand → Map → Type 0
ListCommandTakesMemory (Llen key) m = ⊥
ListCommandTakesMemory (Lpop key) m = ⊥
ListCommandTakesMemory (Rpop key) m = ⊥
ListCommandTakesMemory (Lpush key items) m = IsTrue (may_be_list (get m key))
ListCommandTakesMemory (Rpush key items) m = IsTrue (may_be_list (get m key))
ListCommandTakesMemory (Lpushx key items) m = IsTrue (is_list (get m key))
ListCommandTakesMemory (Rpushx key items) m = IsTrue (is_list (get m key))
ListCommandTakesMemory (Lindex key place) m = IsTrue (is_list (get m key))
ListCommandTakesMemory (Lset key place item) m = ⊥
ListCommandTakesMemory (Lrange key start end) m = IsTrue (is_list (get m key))
ListCommandTakesMemory (Ltrim key start end) m = ⊥
ListCommandTakesMemory (Lrem key number item) m = ⊥
ListCommandTakesMemory (Linsert key side pivot item) m = IsTrue (is_list (get m key))
ListCommandTakesMemory (Lmove from to taken put) m = IsTrue (is_list (get m from))
ListCommandTakesMemory (Rpoplpush from to) m = IsTrue (is_list (get m from))
