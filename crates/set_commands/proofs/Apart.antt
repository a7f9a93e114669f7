-- A member that is put at one key and then removed at another.
use Rattle.std.proofs.Common.{◌≡◌, IsTrue, false, sym, ap, subst, ◌∙◌}
use Rattle.std.specs.FinMap.{get, insert}
use Rattle.std.specs.Str.{bytes_eq}
use Rattle.command_cases.proofs.Beside.{get-insert_beside, set-insert_beside}
use Rattle.keyspace.proofs.Gets.{bytes_eq-swap}
use Rattle.keyspace.specs.Map.{Map, set}
use Rattle.set_commands.specs.SetCommand.{is_set, some_members}
use Rattle.texts.specs.Texts.{Bytes}
use Rattle.values.specs.SetValue.{without_member}
use Rattle.values.specs.Value.{set_value}
use Rattle.values.specs.declared.Value.{Value}

-- the key that was not changed has what it had
pub here-still : (m n : Map) (from to : Bytes) (v : Value) → bytes_eq from to ≡ false → n ≡ insert m to v → get n from ≡ get m from
here-still m n from to v apart put = ap (λ a. get a from) put ∙ get-insert_beside m to from v (bytes_eq-swap to from ∙ apart)

pub set-still : (m n : Map) (from to : Bytes) (v : Value) → bytes_eq from to ≡ false → n ≡ insert m to v → IsTrue (is_set (get m from))
    → IsTrue (is_set (get n from))
set-still m n from to v apart put there = subst (λ o. IsTrue (is_set o)) (sym (here-still m n from to v apart put)) there

pub moved-apart : (m n left : Map) (from to member : Bytes) (v : Value) → bytes_eq from to ≡ false → n ≡ insert m to v
    → left ≡ set n from (set_value (without_member (some_members (get n from)) member))
    → left ≡ insert (set m from (set_value (without_member (some_members (get m from)) member))) to v
moved-apart m n left from to member v apart put removed =
    removed
    ∙ ap (λ o. set n from (set_value (without_member (some_members o) member))) (here-still m n from to v apart put)
    ∙ ap (λ a. set a from (set_value (without_member (some_members (get m from)) member))) put
    ∙ set-insert_beside m to from v (set_value (without_member (some_members (get m from)) member)) apart
