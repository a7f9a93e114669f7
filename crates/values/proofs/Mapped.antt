-- Lists of byte strings seen through their bytes.
use Rattle.std.proofs.Common.{◌≡◌, ℕ, ◌+◌, ◌-◌, ◌<◌, List, [], ◌∷◌, ◌++◌, length, map, take, drop, reverse, get_or, refl, sym}
use Rattle.std.proofs.Common.{ap, ◌∙◌, add-one, suc, drop-cons}
use Rattle.std.proofs.lemmas.List.{map-append, map-set, take-map, drop-map, reverse-append, append-nil, length-map}
use Rattle.std.specs.Prelude.{insert, slice_range}

pub map-reverse : {A B : Type 0} (f : A → B) (xs : List A) → map f (reverse xs) ≡ reverse (map f xs)
map-reverse f [] = refl
map-reverse f (x ∷ xs) =
    ap (map f) (reverse-append (x ∷ []) xs) ∙ map-append f (reverse xs) (x ∷ [])
    ∙ ap (λ l. l ++ f x ∷ []) (map-reverse f xs) ∙ sym (reverse-append (f x ∷ []) (map f xs))

pub map-insert : {A B : Type 0} (f : A → B) (xs : List A) (i : ℕ) (x : A) → map f (insert xs i x) ≡ insert (map f xs) i (f x)
map-insert f xs i x =
    map-append f (take i xs) (x ∷ drop i xs) ∙ ap (λ l. l ++ f x ∷ map f (drop i xs)) (sym (take-map f i xs))
    ∙ ap (λ l. take i (map f xs) ++ f x ∷ l) (sym (drop-map f i xs))

pub map-slice_range : {A B : Type 0} (f : A → B) (xs : List A) (s e : ℕ) → map f (slice_range xs s e) ≡ slice_range (map f xs) s e
map-slice_range f xs s e = sym (take-map f (e - s) (drop s xs)) ∙ ap (take (e - s)) (sym (drop-map f s xs))

-- the first n items put behind the others
pub map-turned : {A B : Type 0} (f : A → B) (xs : List A) (n : ℕ) → map f (drop n xs ++ take n xs) ≡ drop n (map f xs) ++ take n (map f xs)
map-turned f xs n =
    map-append f (drop n xs) (take n xs) ∙ ap (λ l. l ++ map f (take n xs)) (sym (drop-map f n xs))
    ∙ ap (λ l. drop n (map f xs) ++ l) (sym (take-map f n xs))

pub reverse-map_pushed : {A B : Type 0} (f : A → B) (xs : List A) (x : A) → reverse (map f (xs ++ x ∷ [])) ≡ f x ∷ reverse (map f xs)
reverse-map_pushed f xs x = ap reverse (map-append f xs (x ∷ [])) ∙ reverse-append (map f xs) (f x ∷ [])

pub reverse-map_cons : {A B : Type 0} (f : A → B) (x : A) (xs : List A) → reverse (map f (x ∷ xs)) ≡ reverse (map f xs) ++ f x ∷ []
reverse-map_cons f x xs = reverse-append (f x ∷ []) (map f xs)

-- what a loop over a list has still to see begins with this turn's item
pub map-drop_turn : {A B : Type 0} (f : A → B) (xs : List A) (i : ℕ) (x : A) → i < length xs → x ≡ get_or xs i x
    → map f (drop i xs) ≡ f x ∷ map f (drop (i + 1) xs)
map-drop_turn f xs i x within is =
    ap (map f) (drop-cons xs i x within) ∙ ap (λ y. f y ∷ map f (drop (suc i) xs)) (sym is)
    ∙ ap (λ n. f x ∷ map f (drop n xs)) (sym (add-one i))

pub ruleset mapped = (map-reverse, map-insert, map-slice_range, map-turned, map-set, append-nil, length-map)
