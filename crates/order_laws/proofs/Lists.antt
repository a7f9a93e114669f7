-- What stands where in a list that grows.
use Rattle.std.proofs.Common.{◌≡◌, ℕ, zero, suc, ◌<◌, ◌≤◌, List, [], ◌∷◌, ◌++◌, length, Some, slice_get}
use Rattle.std.proofs.Common.{refl, ap, ◌∙◌, arith}
use mathlib.Core.List.{IsPrefix}

pub get_more : {A : Type 0} (xs ys : List A) (k : ℕ) (x : A) → slice_get xs k ≡ Some x → slice_get (xs ++ ys) k ≡ Some x
get_more [] ys k x h = absurd cc
get_more (y ∷ xs) ys zero x h = h
get_more (y ∷ xs) ys (suc k) x h = get_more xs ys k x h

pub get_last : {A : Type 0} (xs : List A) (x : A) → slice_get (xs ++ x ∷ []) (length xs) ≡ Some x
get_last [] x = refl
get_last (y ∷ xs) x = get_last xs x

pub get_inside : {A : Type 0} (xs : List A) (k : ℕ) → k < length xs → (x : A) × (slice_get xs k ≡ Some x)
get_inside [] k less = absurd (omega (arith, less))
get_inside (y ∷ xs) zero less = (y, refl)
get_inside (y ∷ xs) (suc k) less = get_inside xs k (omega (arith, less))

-- what stands in the longer list at a place of the shorter stands there too
pub get_before : {A : Type 0} (xs rest : List A) (k : ℕ) (x : A) → k < length xs → slice_get (xs ++ rest) k ≡ Some x →
    slice_get xs k ≡ Some x
get_before [] rest k x less h = absurd (omega (arith, less))
get_before (y ∷ xs) rest zero x less h = h
get_before (y ∷ xs) rest (suc k) x less h = get_before xs rest k x (omega (arith, less)) h

-- of two lists that begin one, the shorter begins the longer
pub shorter_begins : {A : Type 0} (xs ys zs : List A) → IsPrefix xs zs → IsPrefix ys zs → length xs ≤ length ys → IsPrefix xs ys
shorter_begins [] ys zs p q less = (ys, refl)
shorter_begins (x ∷ xs) [] zs p q less = absurd (omega (arith, less))
shorter_begins (x ∷ xs) (y ∷ ys) [] p q less = absurd (cc (p.1))
shorter_begins (x ∷ xs) (y ∷ ys) (z ∷ zs) p q less =
    let heads : x ≡ y = cc (p.1, q.1) in
    let rest = shorter_begins xs ys zs (p.0, cc (p.1)) (q.0, cc (q.1)) (omega (arith, less)) in
    (rest.0, ap (λ a. a ∷ (xs ++ rest.0)) heads ∙ ap (λ l. y ∷ l) rest.1)
