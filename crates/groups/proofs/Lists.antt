-- What stands in a list that is made from others.
use Rattle.std.proofs.Common.{◌≡◌, ℕ, zero, suc, ◌<◌, Bool, true, false, cond, List, [], ◌∷◌, ◌++◌, ◌⊎◌, inl, inr, length, get_or, filter}
use Rattle.std.proofs.Common.{refl, ap, ◌∙◌, arith}
use Rattle.groups.specs.Order.{In}

pub In-left : {X : Type 0} (x : X) (xs ys : List X) → In x xs → In x (xs ++ ys)
In-left x [] ys h = absurd h
In-left x (y ∷ xs) ys (inl e) = inl e
In-left x (y ∷ xs) ys (inr h) = inr (In-left x xs ys h)

pub In-right : {X : Type 0} (x : X) (xs ys : List X) → In x ys → In x (xs ++ ys)
In-right x [] ys h = h
In-right x (y ∷ xs) ys h = inr (In-right x xs ys h)

pub In-append : {X : Type 0} (x : X) (xs ys : List X) → In x (xs ++ ys) → In x xs ⊎ In x ys
In-append x [] ys h = inr h
In-append x (y ∷ xs) ys (inl e) = inl (inl e)
In-append x (y ∷ xs) ys (inr h) = elim (In-append x xs ys h) [ inl l ↦ inl (inr l) | inr r ↦ inr r ]

pub In-last : {X : Type 0} (x : X) (xs : List X) → In x (xs ++ x ∷ [])
In-last x xs = In-right x xs (x ∷ []) (inl refl)

pub In-end : {X : Type 0} (x y : X) (xs : List X) → In x (xs ++ y ∷ []) → In x xs ⊎ (x ≡ y)
In-end x y xs h = elim (In-append x xs (y ∷ []) h) [ inl l ↦ inl l | inr (inl e) ↦ inr e | inr (inr n) ↦ absurd n ]

pub In-get : {X : Type 0} (xs : List X) (k : ℕ) (d : X) → k < length xs → In (get_or xs k d) xs
In-get [] k d h = absurd (omega arith)
In-get (x ∷ xs) zero d h = inl refl
In-get (x ∷ xs) (suc k) d h = inr (In-get xs k d (omega arith))

pub In-filter : {X : Type 0} (test : X → Bool) (x : X) (xs : List X) → In x (filter test xs) → In x xs × (test x ≡ true)
In-filter test x [] h = absurd h
In-filter {X} test x (y ∷ xs) h = elim (test y) as (λ b. test y ≡ b → In x (cond b (y ∷ filter test xs) (filter test xs)) → In x (y ∷ xs)
    × (test x ≡ true)) [
      | true ↦ λ e. elim [
        | inl same ↦ (inl same, ap test same ∙ e)
        | inr rest ↦ let r = In-filter test x xs rest in (inr r.0, r.1)
      ]
      | false ↦ λ e rest. let r = In-filter test x xs rest in (inr r.0, r.1)
    ] refl h
