-- Lists: rising ones, and one without one of its elements.
use Rattle.std.proofs.Common.{◌≡◌, ℕ, zero, suc, ◌+◌, List, [], ◌∷◌, ◌++◌, ◌⊎◌, inl, inr, Some, slice_get, length, refl, sym, ◌∙◌, subst}
use Rattle.std.proofs.lemmas.List.Edits.{length-remove}
use Rattle.std.proofs.lemmas.Option.{slice_get_within}
use Rattle.std.specs.List.{remove}
use Rattle.groups.specs.Order.{In}
use Rattle.groups.proofs.Lists.{In-left, In-right, In-append}
use Rattle.world_laws.specs.Good.{Rising}

-- ---- rising lists

pub rising_append : {X : Type 0} (R : X → X → Type 0) (xs ys : List X) → Rising R xs → Rising R ys →
    ((x y : X) → In x xs → In y ys → R x y) → Rising R (xs ++ ys)
rising_append R [] ys up up' cross = up'
rising_append R (x ∷ xs) ys up up' cross = (
  λ y there. elim (In-append y xs ys there) [ inl before ↦ up.0 y before | inr after ↦ cross x y (inl refl) after ],
  rising_append R xs ys up.1 up' (λ a b there here. cross a b (inr there) here),
)

pub rising_left : {X : Type 0} (R : X → X → Type 0) (xs ys : List X) → Rising R (xs ++ ys) → Rising R xs
rising_left R [] ys up = tt
rising_left R (x ∷ xs) ys up = (λ y there. up.0 y (In-left y xs ys there), rising_left R xs ys up.1)

pub rising_right : {X : Type 0} (R : X → X → Type 0) (xs ys : List X) → Rising R (xs ++ ys) → Rising R ys
rising_right R [] ys up = up
rising_right R (x ∷ xs) ys up = rising_right R xs ys up.1

pub rising_cross : {X : Type 0} (R : X → X → Type 0) (xs ys : List X) → Rising R (xs ++ ys) → (x y : X) → In x xs → In y ys → R x y
rising_cross R [] ys up x y there here = absurd there
rising_cross R (z ∷ xs) ys up x y (inl same) here = subst (λ u. R u y) (sym same) (up.0 y (In-right y xs ys here))
rising_cross R (z ∷ xs) ys up x y (inr there) here = rising_cross R xs ys up.1 x y there here

-- ---- the element at a place, and the list without it

pub in_place : {X : Type 0} (xs : List X) (k : ℕ) (x : X) → slice_get xs k ≡ Some x → In x xs
in_place [] zero x e = absurd (cc)
in_place [] (suc k) x e = absurd (cc)
in_place (y ∷ ys) zero x e = let same : y ≡ x = cc in inl (sym same)
in_place (y ∷ ys) (suc k) x e = inr (in_place ys k x e)

pub was_in : {X : Type 0} (xs : List X) (k : ℕ) (y : X) → In y (remove xs k) → In y xs
was_in [] zero y there = absurd there
was_in [] (suc k) y there = absurd there
was_in (x ∷ xs) zero y there = inr there
was_in (x ∷ xs) (suc k) y (inl same) = inl same
was_in (x ∷ xs) (suc k) y (inr there) = inr (was_in xs k y there)

-- what stood in the list stands there still, but for that element
pub still_in : {X : Type 0} (xs : List X) (k : ℕ) (x : X) → slice_get xs k ≡ Some x → (y : X) → In y xs → (y ≡ x) ⊎ In y (remove xs k)
still_in [] k x e y there = absurd there
still_in (z ∷ zs) zero x e y (inl same) = let is : z ≡ x = cc in inl (same ∙ is)
still_in (z ∷ zs) zero x e y (inr there) = inr there
still_in (z ∷ zs) (suc k) x e y (inl same) = inr (inl same)
still_in (z ∷ zs) (suc k) x e y (inr there) = elim (still_in zs k x e y there) [ inl is ↦ inl is | inr still ↦ inr (inr still) ]

pub length_without : {X : Type 0} (xs : List X) (k : ℕ) (x : X) → slice_get xs k ≡ Some x → length (remove xs k) + 1 ≡ length xs
length_without xs k x e = length-remove xs k (slice_get_within xs k x e)
