-- That each command on lists answers short, but for those that answer an item or an array of them.
use Rattle.std.proofs.Common.{◌≡◌, ◌||◌, ℕ, ℤ, Bool, true, false, List, Option, Some, None, position, length, refl, arith}
use Rattle.std.specs.FinMap.{get}
use Rattle.std.specs.Str.{bytes_eq}
use Rattle.command_cases.proofs.Short.{short-ok, short-wrong_type, short-no_such_key}
use Rattle.command_table.specs.declared.list_commands.ListCommand.{ListCommand}
use Rattle.command_table.specs.declared.list_commands.ListCommand.TheVariants.{Llen, Lpop, Rpop, Lpush, Rpush, Lpushx, Rpushx, Lindex, Lset}
use Rattle.command_table.specs.declared.list_commands.ListCommand.TheVariants.{Lrange, Ltrim, Lrem, Linsert, Lmove, Rpoplpush}
use Rattle.command_table.specs.declared.list_commands.Side.{Side}
use Rattle.keyspace.specs.Map.{Map}
use Rattle.list_commands.specs.ListCommand.{at_list, may_be_list, place_in, length_step, push_step, push_there_step, set_at, set_step}
use Rattle.list_commands.specs.ListCommand.{trim_step, remove_step, insert_beside, insert_step, move_step, list_command_case}
use Rattle.resp.specs.Content.{Content}
use Rattle.resp.specs.LongText.{IsShort}
use Rattle.texts.specs.Texts.{Bytes}
use Rattle.texts.specs.declared.text_list.End.{End}
use Rattle.texts.specs.declared.text_list.End.TheVariants.{Head, Tail}
use Rattle.values.specs.declared.Value.{Value}
use Rattle.values.specs.declared.Value.TheVariants as kind

short-at_list : (step : Option (List Bytes) → Option Value × Content) → ((before : Option (List Bytes)) → IsShort (step before).1)
    → (there : Option Value) → IsShort (at_list step there).1
short-at_list step short None = short None
short-at_list step short (Some (kind.List items)) = short (Some items)
short-at_list step short (Some (kind.Str text)) = short-wrong_type
short-at_list step short (Some (kind.Hash pairs)) = short-wrong_type
short-at_list step short (Some (kind.Set members)) = short-wrong_type

short-length : (before : Option (List Bytes)) → IsShort (length_step before).1
short-length None = tt
short-length (Some items) = tt

short-push : (end : End) (more : List Bytes) (before : Option (List Bytes)) → IsShort (push_step end more before).1
short-push end more None = tt
short-push end more (Some items) = tt

short-push_there : (end : End) (more : List Bytes) (before : Option (List Bytes)) → IsShort (push_there_step end more before).1
short-push_there end more None = tt
short-push_there end more (Some items) = tt

short-set_at : (items : List Bytes) (item : Bytes) (place : Option ℕ) → IsShort (set_at items item place).1
short-set_at items item None = omega arith
short-set_at items item (Some p) = short-ok

short-set : (at : ℤ) (item : Bytes) (before : Option (List Bytes)) → IsShort (set_step at item before).1
short-set at item None = short-no_such_key
short-set at item (Some items) = short-set_at items item (place_in at (length items))

short-trim : (start end : ℤ) (before : Option (List Bytes)) → IsShort (trim_step start end before).1
short-trim start end None = short-ok
short-trim start end (Some items) = short-ok

short-remove : (number : ℤ) (item : Bytes) (before : Option (List Bytes)) → IsShort (remove_step number item before).1
short-remove number item None = tt
short-remove number item (Some items) = tt

short-beside : (side : Side) (items : List Bytes) (item : Bytes) (place : Option ℕ) → IsShort (insert_beside side items item place).1
short-beside side items item None = tt
short-beside side items item (Some p) = tt

short-insert : (side : Side) (pivot item : Bytes) (before : Option (List Bytes)) → IsShort (insert_step side pivot item before).1
short-insert side pivot item None = tt
short-insert side pivot item (Some items) = short-beside side items item (position (bytes_eq pivot) items)

-- LMOVE and RPOPLPUSH, where the second key doesn't receive the item
pub short-move : (equal : Bool) (taken put : End) (from there : Option Value) → (equal || may_be_list there) ≡ false
    → IsShort (move_step equal taken put from there).1
short-move equal taken put None there refused = tt
short-move equal taken put (Some (kind.Str text)) there refused = short-wrong_type
short-move equal taken put (Some (kind.Hash pairs)) there refused = short-wrong_type
short-move equal taken put (Some (kind.Set members)) there refused = short-wrong_type
short-move true taken put (Some (kind.List items)) there refused = absurd cc
short-move false taken put (Some (kind.List items)) None refused = absurd cc
short-move false taken put (Some (kind.List items)) (Some (kind.List others)) refused = absurd cc
short-move false taken put (Some (kind.List items)) (Some (kind.Str text)) refused = short-wrong_type
short-move false taken put (Some (kind.List items)) (Some (kind.Hash pairs)) refused = short-wrong_type
short-move false taken put (Some (kind.List items)) (Some (kind.Set members)) refused = short-wrong_type

-- every command that isn't one of these six
pub answers_short : (c : ListCommand) (m : Map) → ((key : Bytes) (place : ℤ) → c ≡ Lindex key place → ⊥)
    → ((key : Bytes) (start end : ℤ) → c ≡ Lrange key start end → ⊥) → ((key : Bytes) → c ≡ Lpop key → ⊥)
    → ((key : Bytes) → c ≡ Rpop key → ⊥) → ((from to : Bytes) (taken put : End) → c ≡ Lmove from to taken put → ⊥)
    → ((from to : Bytes) → c ≡ Rpoplpush from to → ⊥) → IsShort (list_command_case c m).1
answers_short (Lindex key place) m lindex _ _ _ _ _ = absurd (lindex key place refl)
answers_short (Lrange key start end) m _ lrange _ _ _ _ = absurd (lrange key start end refl)
answers_short (Lpop key) m _ _ lpop _ _ _ = absurd (lpop key refl)
answers_short (Rpop key) m _ _ _ rpop _ _ = absurd (rpop key refl)
answers_short (Lmove from to taken put) m _ _ _ _ lmove _ = absurd (lmove from to taken put refl)
answers_short (Rpoplpush from to) m _ _ _ _ _ rpoplpush = absurd (rpoplpush from to refl)
answers_short (Llen key) m _ _ _ _ _ _ = short-at_list length_step short-length (get m key)
answers_short (Lpush key items) m _ _ _ _ _ _ = short-at_list (push_step Head items) (short-push Head items) (get m key)
answers_short (Rpush key items) m _ _ _ _ _ _ = short-at_list (push_step Tail items) (short-push Tail items) (get m key)
answers_short (Lpushx key items) m _ _ _ _ _ _ = short-at_list (push_there_step Head items) (short-push_there Head items) (get m key)
answers_short (Rpushx key items) m _ _ _ _ _ _ = short-at_list (push_there_step Tail items) (short-push_there Tail items) (get m key)
answers_short (Lset key place item) m _ _ _ _ _ _ = short-at_list (set_step place item) (short-set place item) (get m key)
answers_short (Ltrim key start end) m _ _ _ _ _ _ = short-at_list (trim_step start end) (short-trim start end) (get m key)
answers_short (Lrem key number item) m _ _ _ _ _ _ = short-at_list (remove_step number item) (short-remove number item) (get m key)
answers_short (Linsert key side pivot item) m _ _ _ _ _ _ =
    short-at_list (insert_step side pivot item) (short-insert side pivot item) (get m key)
