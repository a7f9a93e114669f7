-- What is told of the items of a list, one after another.
use Rattle.std.proofs.Common.{◌≡◌, ◌∙◌, ◌++◌, ◌∷◌, [], ◌+◌, ◌<◌, ap, sym, ℕ, List, append_assoc, add-one, get_or, length, take}
use Rattle.std.proofs.Math.Seq.{take-suc}
use Rattle.std.proofs.lemmas.List.{append-nil}
use Rattle.std.proofs.lemmas.List.Concat.{flat_map-append}
use Rattle.std.specs.List.{flat_map}

-- of the first items, and of the next one
pub put_one : {A B : Type 0} (code : A → List B) (xs : List A) (i : ℕ) (x : A) → i < length xs → x ≡ get_or xs i x
    → flat_map code (take i xs) ++ code x ≡ flat_map code (take (i + 1) xs)
put_one code xs i x lt is =
    let one : take (i + 1) xs ≡ take i xs ++ (x ∷ []) =
    rw add-one (take-suc xs i x lt ∙ ap (λ y. take i xs ++ (y ∷ [])) (sym is)) in
    sym
    (ap (flat_map code) one ∙ flat_map-append code (take i xs) (x ∷ []) ∙ ap (λ c. flat_map code (take i xs) ++ c)
    (append-nil (code x)))

-- behind what was there before
pub put_more : {A B : Type 0} (code : A → List B) (old now new : List B) (xs : List A) (i : ℕ) (x : A) →
    now ≡ old ++ flat_map code (take i xs) → new ≡ now ++ code x → i < length xs → x ≡ get_or xs i x →
    new ≡ old ++ flat_map code (take (i + 1) xs)
put_more code old now new xs i x before grown lt is =
    grown ∙ ap (λ l. l ++ code x) before ∙ append_assoc old (flat_map code (take i xs)) (code x)
    ∙ ap (λ l. old ++ l) (put_one code xs i x lt is)
