-- Values that were put one after another, and what stood at their keys put back.
use Rattle.std.proofs.Common.{◌≡◌, ◌++◌, List, [], ◌∷◌, cond, true, false, Some, None, IsSome, refl, sym, ap, subst, ◌∙◌}
use Rattle.std.specs.FinMap.{get, insert}
use Rattle.std.specs.List.{AllByRecursion}
use Rattle.std.specs.Str.{bytes_eq}
use Rattle.keyspace.proofs.Changes.{get-insert_here, set-as_it_was, set-set}
use Rattle.keyspace.proofs.Gets.{get-insert}
use Rattle.keyspace.specs.Map.{Map, set}
use Rattle.string_commands.specs.Before.{Before, LeadsTo}
use Rattle.texts.specs.Texts.{Bytes}
use Rattle.values.specs.declared.Value.{Value}

-- one value more
pub led-snoc : (m n : Map) (bs : List Before) (b : Before) (v : Value) → LeadsTo m bs n → get n b.0.items ≡ b.1
    → LeadsTo m (bs ++ b ∷ []) (insert n b.0.items v)
led-snoc m n [] b v led was = (v, ap (λ a. get a b.0.items) (sym led) ∙ was, ap (λ a. insert a b.0.items v) led)
led-snoc m n (a ∷ later) b v led was = (led.0, led.1, led-snoc (insert m a.0.items led.0) n later b v led.2 was)

-- the map before the last value
pub record Last (m : Map) (bs : List Before) (b : Before) (n : Map) : Type 0 where
  pub before : Map
  pub value : Value
  pub led : LeadsTo m bs before
  pub was : get before b.0.items ≡ b.1
  pub put : n ≡ insert before b.0.items value

pub led-last : (m n : Map) (bs : List Before) (b : Before) → LeadsTo m (bs ++ b ∷ []) n → Last m bs b n
led-last m n [] b led = record { before = m; value = led.0; led = refl; was = led.1; put = led.2 }
led-last m n (a ∷ later) b led =
    let last = led-last (insert m a.0.items led.0) n later b led.2 in
    record { before = last.before; value = last.value; led = (led.0, led.1, last.led); was = last.was; put = last.put }

-- its key is there, and with what stood there before the map is that one again
pub last-there : (m n : Map) (bs : List Before) (b : Before) → LeadsTo m (bs ++ b ∷ []) n → IsSome (get n b.0.items)
last-there m n bs b led =
    let last = led-last m n bs b led in
    subst IsSome (sym (ap (λ a. get a b.0.items) last.put ∙ get-insert_here last.before b.0.items last.value)) cc

pub last-undone : (m n : Map) (bs : List Before) (b : Before) → LeadsTo m (bs ++ b ∷ []) n → LeadsTo m bs (set n b.0.items b.1)
last-undone m n bs b led =
    let last = led-last m n bs b led in
    let back : set n b.0.items b.1 ≡ last.before =
    ap (λ a. set a b.0.items b.1) last.put ∙ set-set last.before b.0.items (Some last.value) b.1
    ∙ set-as_it_was last.before b.0.items b.1 last.was in
    subst (LeadsTo m bs) (sym back) last.led

-- what is absent where a value was put was absent before
pub absent-before : (m n : Map) (k : Bytes) (v : Value) (q : Bytes) → n ≡ insert m k v → get n q ≡ None → get m q ≡ None
absent-before m n k v q put none =
    elim (bytes_eq k q) as (λ b. cond b (Some v) (get m q) ≡ None → get m q ≡ None) [
      | true ↦ λ some. absurd cc
      | false ↦ λ same. same
    ] (sym (get-insert m k v q) ∙ ap (λ a. get a q) (sym put) ∙ none)

-- what holds of all but the last, and of the last too
pub all-front : {A : Type 0} (P : A → Type 0) (xs : List A) (x : A) → AllByRecursion P (xs ++ x ∷ []) → AllByRecursion P xs
all-front P [] x all = tt
all-front P (y ∷ ys) x all = (all.0, all-front P ys x all.1)

pub all-snoc : {A : Type 0} (P : A → Type 0) (xs : List A) (x : A) → AllByRecursion P xs → P x → AllByRecursion P (xs ++ x ∷ [])
all-snoc P [] x all last = (last, tt)
all-snoc P (y ∷ ys) x all last = (all.0, all-snoc P ys x all.1 last)
