-- Facts that are put down one after another.
use Rattle.std.proofs.Common.{◌≡◌, ◌∙◌, ℕ, suc, ◌+◌, ◌<◌, ◌≤◌, Bool, List, [], ◌∷◌, ◌++◌, Some, append_assoc}
use Rattle.std.proofs.Common.{length, map, take, drop, get_or, slice_get, sym, ap, arith, refl}
use Rattle.std.proofs.lemmas.List.{append-nil, drop_all, map-append, map_push, take_more}
use Rattle.std.proofs.lemmas.List.Elements.{filter-append}
use Rattle.std.specs.List.{filter}
use Rattle.replay.proofs.Places.{drop_at}

-- ---- behind what was there before

pub pushed : {A B : Type 0} (f : A → B) (old new : List A) (x : A) (y : B) → new ≡ old ++ x ∷ [] → f x ≡ y →
    map f new ≡ map f old ++ y ∷ []
pushed f old new x y grown same = ap (map f) grown ∙ map_push f old x ∙ ap (λ z. map f old ++ z ∷ []) same

-- one that stands at this place is put behind those so far
pub put_next : {A B : Type 0} (f : A → B) (xs : List A) (place : ℕ) (x : A) (now next all : List B) → slice_get xs place ≡ Some x →
    now ++ map f (drop place xs) ≡ all → next ≡ now ++ f x ∷ [] → next ++ map f (drop (place + 1) xs) ≡ all
put_next f xs place x now next all there before grown =
    let one : suc place ≡ place + 1 = omega arith in
    let rest : drop place xs ≡ x ∷ drop (place + 1) xs = drop_at xs place x there ∙ ap (λ k. x ∷ drop k xs) one in
    ap (λ l. l ++ map f (drop (place + 1) xs)) grown ∙ append_assoc now (f x ∷ []) (map f (drop (place + 1) xs))
    ∙ ap (λ l. now ++ map f l) (sym rest) ∙ before

pub put_all : {A B : Type 0} (f : A → B) (xs : List A) (place : ℕ) (now all : List B) → length xs ≤ place →
    now ++ map f (drop place xs) ≡ all → now ≡ all
put_all f xs place now all far is = sym (append-nil now) ∙ ap (λ l. now ++ map f l) (sym (drop_all place xs far)) ∙ is

-- ---- one of a list after another

-- of the first ones, and of the next one
pub map_more : {A B C : Type 0} (f : B → C) (g : A → C) (xs : List A) (i : ℕ) (x : A) (ys : List B) (y : B) → i < length xs →
    x ≡ get_or xs i x → map f ys ≡ map g (take i xs) → f y ≡ g x → map f (ys ++ y ∷ []) ≡ map g (take (i + 1) xs)
map_more f g xs i x ys y less is before same =
    map_push f ys y ∙ ap (λ l. l ++ f y ∷ []) before ∙ ap (λ z. map g (take i xs) ++ z ∷ []) (same ∙ ap g is)
    ∙ sym (map_push g (take i xs) (get_or xs i x)) ∙ ap (map g) (sym (take_more xs i x less))

-- those of the first ones that pass, and the next one if it does
pub filter_more : {A B C : Type 0} (f : B → C) (g : A → B) (p : B → Bool) (xs : List A) (i : ℕ) (x : A) → i < length xs →
    x ≡ get_or xs i x →
    map f (filter p (map g (take (i + 1) xs))) ≡ map f (filter p (map g (take i xs))) ++ map f (filter p (g x ∷ []))
filter_more f g p xs i x less is =
    let one : take (i + 1) xs ≡ take i xs ++ x ∷ [] =
    take_more xs i x less ∙ ap (λ z. take i xs ++ z ∷ []) (sym is) in
    ap (λ l. map f (filter p (map g l))) one ∙ ap (λ l. map f (filter p l)) (map_push g (take i xs) x)
    ∙ ap (map f) (filter-append p (map g (take i xs)) (g x ∷ []))
    ∙ map-append f (filter p (map g (take i xs))) (filter p (g x ∷ []))

-- of each item of a list and then of what that gives
pub map-map : {A B C : Type 0} (f : B → C) (g : A → B) (xs : List A) → map (λ x. f (g x)) xs ≡ map f (map g xs)
map-map f g [] = refl
map-map f g (x ∷ xs) = ap (λ l. f (g x) ∷ l) (map-map f g xs)
