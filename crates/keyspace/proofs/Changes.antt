-- One change of a map after another, as a body makes them at one key or two. `changes` is the set that bodies name.
use Rattle.std.proofs.Common.{◌≡◌, ℕ, List, Bool, true, false, cond, Option, Some, None, is_some, refl, sym, ap, ◌∙◌}
use Rattle.std.specs.FinMap.{get, insert, remove}
use Rattle.std.specs.Str.{bytes_eq}
use Rattle.keyspace.proofs.Gets.{same, same_bytes, bytes_eq-refl, bytes_eq-swap, get-insert, get-remove, get-set, get_here}
use Rattle.keyspace.specs.Map.{Map, set}
use Rattle.values.specs.declared.Value.{Value}

-- a test that is asked twice
asked_twice : {A : Type 0} (b : Bool) (x y z : A) → cond b x (cond b y z) ≡ cond b x z
asked_twice true x y z = refl
asked_twice false x y z = refl

-- two tests of which one fails wherever the other holds
asked_apart : {A : Type 0} (a b : Bool) (x y z : A) → (a ≡ true → b ≡ false) → cond a x (cond b y z) ≡ cond b y (cond a x z)
asked_apart true b x y z apart = ap (λ t. cond t y x) (sym (apart refl)) ∙ refl
asked_apart false b x y z apart = refl

pub set-get : (m : Map) (k : List ℕ) → set m k (get m k) ≡ m
set-get m k = same (set m k (get m k)) m (λ q. get-set m k (get m k) q ∙ get_here m k q)

pub set-set : (m : Map) (k : List ℕ) (o p : Option Value) → set (set m k o) k p ≡ set m k p
set-set m k o p =
    same (set (set m k o) k p) (set m k p) (λ q.
    get-set (set m k o) k p q ∙ ap (cond (bytes_eq k q) p) (get-set m k o q) ∙ asked_twice (bytes_eq k q) p o (get m q)
    ∙ sym (get-set m k p q))

pub set-as_it_was : (m : Map) (k : List ℕ) (o : Option Value) → get m k ≡ o → set m k o ≡ m
set-as_it_was m k o e = ap (set m k) (sym e) ∙ set-get m k

pub remove-none : (m : Map) (k : List ℕ) → get m k ≡ None → remove m k ≡ m
remove-none m k e = set-as_it_was m k None e

pub insert-as_it_was : (m : Map) (k : List ℕ) (v : Value) → get m k ≡ Some v → insert m k v ≡ m
insert-as_it_was m k v e = set-as_it_was m k (Some v) e

pub get-insert_here : (m : Map) (k : List ℕ) (v : Value) → get (insert m k v) k ≡ Some v
get-insert_here m k v = get-insert m k v k ∙ ap (λ b. cond b (Some v) (get m k)) (bytes_eq-refl k)

pub is_some-insert_here : (m : Map) (k : List ℕ) (v : Value) → is_some (get (insert m k v) k) ≡ true
is_some-insert_here m k v = ap is_some (get-insert_here m k v)

pub get-remove_here : (m : Map) (k : List ℕ) → get (remove m k) k ≡ None
get-remove_here m k = get-remove m k k ∙ ap (λ b. cond b None (get m k)) (bytes_eq-refl k)

pub insert-insert : (m : Map) (k : List ℕ) (v w : Value) → insert (insert m k v) k w ≡ insert m k w
insert-insert m k v w = set-set m k (Some v) (Some w)

pub remove-insert : (m : Map) (k : List ℕ) (v : Value) → remove (insert m k v) k ≡ remove m k
remove-insert m k v = set-set m k (Some v) None

-- changes at two keys
pub remove-insert_beside : (m : Map) (k l : List ℕ) (v : Value) → bytes_eq l k ≡ false → remove (insert m k v) l ≡ insert (remove m l) k v
remove-insert_beside m k l v apart =
    same (remove (insert m k v) l) (insert (remove m l) k v) (λ q.
    get-remove (insert m k v) l q ∙ ap (cond (bytes_eq l q) None) (get-insert m k v q)
    ∙ asked_apart (bytes_eq l q) (bytes_eq k q) None (Some v) (get m q) (λ e. ap (bytes_eq k) (sym (same_bytes l q e))
    ∙ bytes_eq-swap k l ∙ apart)
    ∙ ap (cond (bytes_eq k q) (Some v)) (sym (get-remove m l q)) ∙ sym (get-insert (remove m l) k v q))

pub ruleset changes = (
  set-get,
  remove-none,
  insert-as_it_was,
  get-insert_here,
  is_some-insert_here,
  get-remove_here,
  insert-insert,
  remove-insert,
  remove-insert_beside,
)
