-- Places of a list.
use Rattle.std.proofs.Common.{◌≡◌, ℕ, zero, suc, ◌≤◌, List, [], ◌∷◌, ◌++◌, length, take, drop, slice_get, Some, arith, refl, ap, subst}
use Rattle.std.specs.List.{AllZip}

pub drop_at : {A : Type 0} (xs : List A) (n : ℕ) (x : A) → slice_get xs n ≡ Some x → drop n xs ≡ x ∷ drop (suc n) xs
drop_at [] n x is = cc
drop_at (y ∷ ys) zero x is = let same : y ≡ x = cc in ap (λ z. z ∷ ys) same
drop_at (y ∷ ys) (suc n) x is = drop_at ys n x is

pub take_next : {A : Type 0} (xs : List A) (n : ℕ) (x : A) (rest : List A) → drop n xs ≡ x ∷ rest → take (suc n) xs ≡ take n xs ++ x ∷ []
take_next [] zero x rest is = cc
take_next [] (suc n) x rest is = cc
take_next (y ∷ ys) zero x rest is = let same : y ≡ x = cc in ap (λ z. z ∷ []) same
take_next (y ∷ ys) (suc n) x rest is = ap (λ zs. y ∷ zs) (take_next ys n x rest is)

pub split_at : {A : Type 0} (xs : List A) (n : ℕ) → xs ≡ take n xs ++ drop n xs
split_at xs zero = refl
split_at [] (suc n) = refl
split_at (y ∷ ys) (suc n) = ap (λ zs. y ∷ zs) (split_at ys n)

pub length-take : {A : Type 0} (xs : List A) (n : ℕ) → n ≤ length xs → length (take n xs) ≡ n
length-take xs zero h = refl
length-take [] (suc n) h = absurd (omega (arith, h))
length-take (y ∷ ys) (suc n) h = ap suc (length-take ys n (omega (arith, h)))

pub zip_length : {A B : Type 0} (R : A → B → Type 0) (xs : List A) (ys : List B) → AllZip R xs ys → length xs ≡ length ys
zip_length R [] [] are = refl
zip_length R [] (y ∷ ys) are = absurd are
zip_length R (x ∷ xs) [] are = absurd are
zip_length R (x ∷ xs) (y ∷ ys) are = ap suc (zip_length R xs ys are.1)

-- what stands beside the one at a place
pub zip_at : {A B : Type 0} (R : A → B → Type 0) (xs : List A) (ys : List B) (n : ℕ) (y : B) → AllZip R xs ys → slice_get ys n ≡ Some y →
    (x : A) × (slice_get xs n ≡ Some x) × R x y
zip_at R [] [] n y are is = cc
zip_at R [] (z ∷ zs) n y are is = absurd are
zip_at R (x ∷ xs) [] n y are is = absurd are
zip_at {B = B} R (x ∷ xs) (z ∷ zs) zero y are is = let same : z ≡ y = cc in (x, refl, subst (R x) same are.0)
zip_at R (x ∷ xs) (z ∷ zs) (suc n) y are is = zip_at R xs zs n y are.1 is

pub zip_beside : {A B : Type 0} (R : A → B → Type 0) (xs : List A) (ys : List B) (n : ℕ) (x : A) →
    AllZip R xs ys → slice_get xs n ≡ Some x →
    (y : B) × (slice_get ys n ≡ Some y) × R x y
zip_beside R [] [] n x are is = cc
zip_beside R [] (z ∷ zs) n x are is = absurd are
zip_beside R (w ∷ xs) [] n x are is = absurd are
zip_beside R (w ∷ xs) (z ∷ zs) zero x are is = let same : w ≡ x = cc in (z, refl, subst (λ v. R v z) same are.0)
zip_beside R (w ∷ xs) (z ∷ zs) (suc n) x are is = zip_beside R xs zs n x are.1 is
