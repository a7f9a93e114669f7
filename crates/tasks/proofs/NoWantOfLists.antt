-- No command on lists says that there was no memory.
use Rattle.std.proofs.Common.{ℕ, ℤ, Bool, true, false, List, [], ◌∷◌, length, Option, Some, None, position, refl}
use Rattle.std.specs.FinMap.{get}
use Rattle.std.specs.Str.{bytes_eq}
use Rattle.command_table.specs.declared.list_commands.ListCommand.{ListCommand}
use Rattle.command_table.specs.declared.list_commands.ListCommand.TheVariants.{Llen, Lpop, Rpop, Lpush, Rpush, Lpushx, Rpushx, Lindex, Lset}
use Rattle.command_table.specs.declared.list_commands.ListCommand.TheVariants.{Lrange, Ltrim, Lrem, Linsert, Lmove, Rpoplpush}
use Rattle.command_table.specs.declared.list_commands.Side.{Side}
use Rattle.keyspace.specs.Map.{Map}
use Rattle.list_commands.specs.ListCommand.{at_list, first_or_null, length_step, pop_step, push_step, push_there_step}
use Rattle.list_commands.specs.ListCommand.{place_in, item_at, index_step, set_at, set_step, range_step, trim_step, remove_step}
use Rattle.list_commands.specs.ListCommand.{insert_beside, insert_step, move_step, list_command_case}
use Rattle.resp.specs.Content.{Content}
use Rattle.texts.specs.Texts.{Bytes}
use Rattle.texts.specs.declared.text_list.End.{End}
use Rattle.texts.specs.declared.text_list.End.TheVariants.{Head, Tail}
use Rattle.values.specs.ListValue.{end_item}
use Rattle.values.specs.declared.Value.{Value}
use Rattle.values.specs.declared.Value.TheVariants as kind
use Rattle.tasks.proofs.NoWant.{IsNoWant, no_want-text}

at_list_none : (step : Option (List Bytes) → Option Value × Content) → ((before : Option (List Bytes)) → IsNoWant (step before).1)
    → (there : Option Value) → IsNoWant (at_list step there).1
at_list_none step none None = none None
at_list_none step none (Some (kind.List items)) = none (Some items)
at_list_none step none (Some (kind.Str text)) = refl
at_list_none step none (Some (kind.Hash pairs)) = refl
at_list_none step none (Some (kind.Set members)) = refl

first_none : (texts : List Bytes) → IsNoWant (first_or_null texts)
first_none [] = refl
first_none (text ∷ rest) = refl

length_none : (before : Option (List Bytes)) → IsNoWant (length_step before).1
length_none None = refl
length_none (Some items) = refl

pop_none : (end : End) (before : Option (List Bytes)) → IsNoWant (pop_step end before).1
pop_none end None = refl
pop_none end (Some items) = first_none (end_item end items)

push_none : (end : End) (more : List Bytes) (before : Option (List Bytes)) → IsNoWant (push_step end more before).1
push_none end more None = refl
push_none end more (Some items) = refl

push_there_none : (end : End) (more : List Bytes) (before : Option (List Bytes)) → IsNoWant (push_there_step end more before).1
push_there_none end more None = refl
push_there_none end more (Some items) = refl

index_none : (at : ℤ) (before : Option (List Bytes)) → IsNoWant (index_step at before).1
index_none at None = refl
index_none at (Some items) = no_want-text (item_at items (place_in at (length items)))

set_at_none : (items : List Bytes) (item : Bytes) (place : Option ℕ) → IsNoWant (set_at items item place).1
set_at_none items item None = refl
set_at_none items item (Some p) = refl

set_none : (at : ℤ) (item : Bytes) (before : Option (List Bytes)) → IsNoWant (set_step at item before).1
set_none at item None = refl
set_none at item (Some items) = set_at_none items item (place_in at (length items))

range_none : (start end : ℤ) (before : Option (List Bytes)) → IsNoWant (range_step start end before).1
range_none start end None = refl
range_none start end (Some items) = refl

trim_none : (start end : ℤ) (before : Option (List Bytes)) → IsNoWant (trim_step start end before).1
trim_none start end None = refl
trim_none start end (Some items) = refl

remove_none : (number : ℤ) (item : Bytes) (before : Option (List Bytes)) → IsNoWant (remove_step number item before).1
remove_none number item None = refl
remove_none number item (Some items) = refl

beside_none : (side : Side) (items : List Bytes) (item : Bytes) (place : Option ℕ) → IsNoWant (insert_beside side items item place).1
beside_none side items item None = refl
beside_none side items item (Some p) = refl

insert_none : (side : Side) (pivot item : Bytes) (before : Option (List Bytes)) → IsNoWant (insert_step side pivot item before).1
insert_none side pivot item None = refl
insert_none side pivot item (Some items) = beside_none side items item (position (bytes_eq pivot) items)

move_none : (equal : Bool) (taken put : End) (from to : Option Value) → IsNoWant (move_step equal taken put from to).1
move_none equal taken put None there = refl
move_none equal taken put (Some (kind.Str text)) there = refl
move_none equal taken put (Some (kind.Hash pairs)) there = refl
move_none equal taken put (Some (kind.Set members)) there = refl
move_none true taken put (Some (kind.List items)) there = first_none (end_item taken items)
move_none false taken put (Some (kind.List items)) None = first_none (end_item taken items)
move_none false taken put (Some (kind.List items)) (Some (kind.List others)) = first_none (end_item taken items)
move_none false taken put (Some (kind.List items)) (Some (kind.Str text)) = refl
move_none false taken put (Some (kind.List items)) (Some (kind.Hash pairs)) = refl
move_none false taken put (Some (kind.List items)) (Some (kind.Set members)) = refl

pub no_want-list_command : (c : ListCommand) (m : Map) → IsNoWant (list_command_case c m).1
no_want-list_command (Llen key) m = at_list_none length_step length_none (get m key)
no_want-list_command (Lpop key) m = at_list_none (pop_step Head) (pop_none Head) (get m key)
no_want-list_command (Rpop key) m = at_list_none (pop_step Tail) (pop_none Tail) (get m key)
no_want-list_command (Lpush key items) m = at_list_none (push_step Head items) (push_none Head items) (get m key)
no_want-list_command (Rpush key items) m = at_list_none (push_step Tail items) (push_none Tail items) (get m key)
no_want-list_command (Lpushx key items) m = at_list_none (push_there_step Head items) (push_there_none Head items) (get m key)
no_want-list_command (Rpushx key items) m = at_list_none (push_there_step Tail items) (push_there_none Tail items) (get m key)
no_want-list_command (Lindex key place) m = at_list_none (index_step place) (index_none place) (get m key)
no_want-list_command (Lset key place item) m = at_list_none (set_step place item) (set_none place item) (get m key)
no_want-list_command (Lrange key start end) m = at_list_none (range_step start end) (range_none start end) (get m key)
no_want-list_command (Ltrim key start end) m = at_list_none (trim_step start end) (trim_none start end) (get m key)
no_want-list_command (Lrem key number item) m = at_list_none (remove_step number item) (remove_none number item) (get m key)
no_want-list_command (Linsert key side pivot item) m = at_list_none (insert_step side pivot item) (insert_none side pivot item) (get m key)
no_want-list_command (Lmove from to taken put) m = move_none (bytes_eq from to) taken put (get m from) (get m to)
no_want-list_command (Rpoplpush from to) m = move_none (bytes_eq from to) Tail Head (get m from) (get m to)
