-- Things that lie one behind another, and where each of them ends.
use Rattle.std.proofs.Common.{◌≡◌, ℕ, zero, suc, ◌+◌, ◌-◌, ◌<◌, refl, ap, sym, ◌∙◌}
use Rattle.std.proofs.Common.{List, [], ◌∷◌, ◌++◌, length, take, drop, map, get_or}
use Rattle.std.proofs.Common.{arith, length-append}
use Rattle.std.specs.List.{flat_map}
use Rattle.std.proofs.lemmas.List.{append_assoc, append-nil, take_at, drop_at}
use Rattle.journal.specs.Codes.{cut, ends_from}

pub length-ends_from : {A : Type 0} (code : A → List ℕ) (start : ℕ) (xs : List A) → length (ends_from code start xs) ≡ length xs
length-ends_from code start [] = refl
length-ends_from code start (x ∷ xs) = ap suc (length-ends_from code (start + length (code x)) xs)

pub ends_from-push : {A : Type 0} (code : A → List ℕ) (start : ℕ) (xs : List A) (x : A)
    → ends_from code start (xs ++ x ∷ []) ≡ ends_from code start xs ++ (start + length (flat_map code xs) + length (code x)) ∷ []
ends_from-push code start [] x = ap (λ n. n ∷ []) (omega arith)
ends_from-push code start (y ∷ ys) x =
    ap (λ es. (start + length (code y)) ∷ es)
    (ends_from-push code (start + length (code y)) ys x
    ∙ ap (λ n. ends_from code (start + length (code y)) ys ++ n ∷ [])
    (omega (arith, length-append (code y) (flat_map code ys))))

-- the end at a place is behind all up to it
pub get_or-ends_from : {A : Type 0} (code : A → List ℕ) (start : ℕ) (xs : List A) (i d : ℕ) → i < length xs
    → get_or (ends_from code start xs) i d ≡ start + length (flat_map code (take (suc i) xs))
get_or-ends_from code start [] i d h = absurd (omega arith)
get_or-ends_from code start (x ∷ xs) zero d h = ap (λ n. start + n) (ap length (sym (append-nil (code x))))
get_or-ends_from code start (x ∷ xs) (suc i) d h =
    get_or-ends_from code (start + length (code x)) xs i d (omega arith)
    ∙ omega (arith, length-append (code x) (flat_map code (take (suc i) xs)))

-- cut at their ends they are their codes again
pub cut-ends_from : {A : Type 0} (code : A → List ℕ) (before : List ℕ) (xs : List A)
    → cut (before ++ flat_map code xs) (length before) (ends_from code (length before) xs) ≡ map code xs
cut-ends_from code before [] = refl
cut-ends_from code before (x ∷ xs) =
    let piece = code x in let rest = flat_map code xs in
    let long : length before + length piece ≡ length (before ++ piece) = sym (length-append before piece) in
    let here : take (length before + length piece - length before) (drop (length before) (before ++ (piece ++ rest))) ≡ piece
    = rw (drop_at before (piece ++ rest) (length before) refl) (take_at piece rest _ (omega arith)) in
    let there : cut (before ++ (piece ++ rest)) (length before + length piece)
    (ends_from code (length before + length piece) xs) ≡ map code xs
    = rw (long, ← append_assoc) (cut-ends_from code (before ++ piece) xs) in
    rw (here, there) refl
