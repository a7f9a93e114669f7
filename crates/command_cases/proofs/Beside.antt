-- What a change at one key leaves at another, and changes at two keys in either order. `beside` is the set that bodies
-- of two keys name.
use Rattle.std.proofs.Common.{◌≡◌, ℕ, List, Bool, true, false, cond, Option, Some, None, refl, sym, ap, ◌∙◌}
use Rattle.std.specs.FinMap.{get, insert, remove}
use Rattle.std.specs.Str.{bytes_eq}
use Rattle.keyspace.proofs.Gets.{same, same_bytes, bytes_eq-swap, get-insert, get-remove, get-set}
use Rattle.keyspace.specs.Map.{Map, set}
use Rattle.values.specs.declared.Value.{Value}

pub get-insert_beside : (m : Map) (k l : List ℕ) (v : Value) → bytes_eq k l ≡ false → get (insert m k v) l ≡ get m l
get-insert_beside m k l v apart = get-insert m k v l ∙ ap (λ b. cond b (Some v) (get m l)) apart

pub get-remove_beside : (m : Map) (k l : List ℕ) → bytes_eq k l ≡ false → get (remove m k) l ≡ get m l
get-remove_beside m k l apart = get-remove m k l ∙ ap (λ b. cond b None (get m l)) apart

asked_apart : {A : Type 0} (a b : Bool) (x y z : A) → (a ≡ true → b ≡ false) → cond a x (cond b y z) ≡ cond b y (cond a x z)
asked_apart true b x y z apart = ap (λ t. cond t y x) (sym (apart refl)) ∙ refl
asked_apart false b x y z apart = refl

-- a value is put at a key after another key was changed, or before
pub set-insert_beside : (m : Map) (k l : List ℕ) (v : Value) (o : Option Value) → bytes_eq l k ≡ false
    → set (insert m k v) l o ≡ insert (set m l o) k v
set-insert_beside m k l v o apart =
    same (set (insert m k v) l o) (insert (set m l o) k v) (λ q.
    get-set (insert m k v) l o q ∙ ap (cond (bytes_eq l q) o) (get-insert m k v q)
    ∙ asked_apart (bytes_eq l q) (bytes_eq k q) o (Some v) (get m q)
    (λ e. ap (bytes_eq k) (sym (same_bytes l q e)) ∙ bytes_eq-swap k l ∙ apart)
    ∙ ap (cond (bytes_eq k q) (Some v)) (sym (get-set m l o q)) ∙ sym (get-insert (set m l o) k v q))

pub ruleset beside = (get-insert_beside, get-remove_beside)
