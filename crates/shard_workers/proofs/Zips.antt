-- Two lists, place by place.
use Rattle.std.proofs.Common.{◌≡◌, suc, List, [], ◌∷◌, ◌++◌, length, refl, ap}
use Rattle.std.specs.List.{AllZip}

-- nothing is left, and nothing is given for it
pub none_left : {A B : Type 0} (R : A → B → Type 0) (xs : List A) → length xs ≡ 0 → AllZip R xs []
none_left R [] e = tt
none_left R (x ∷ xs) e = (let k = e in cc)

pub zip_push : {A B : Type 0} (R : A → B → Type 0) (xs : List A) (ys : List B) (x : A) (y : B) → AllZip R xs ys → R x y
    → AllZip R (xs ++ x ∷ []) (ys ++ y ∷ [])
zip_push R [] [] x y z r = (r, tt)
zip_push R [] (w ∷ ys) x y z r = absurd z
zip_push R (w ∷ xs) [] x y z r = absurd z
zip_push R (v ∷ xs) (w ∷ ys) x y z r = (z.0, zip_push R xs ys x y z.1 r)

pub zip_length : {A B : Type 0} (R : A → B → Type 0) (xs : List A) (ys : List B) → AllZip R xs ys → length ys ≡ length xs
zip_length R [] [] z = refl
zip_length R [] (w ∷ ys) z = absurd z
zip_length R (w ∷ xs) [] z = absurd z
zip_length R (v ∷ xs) (w ∷ ys) z = ap suc (zip_length R xs ys z.1)

-- one relation after another
pub zip_then : {A B C : Type 0} (R : A → B → Type 0) (S : B → C → Type 0) (U : A → C → Type 0)
    → ((a : A) (b : B) (c : C) → R a b → S b c → U a c)
    → (as_ : List A) (bs : List B) (cs : List C) → AllZip R as_ bs → AllZip S bs cs → AllZip U as_ cs
zip_then R S U f [] [] [] z w = tt
zip_then R S U f [] [] (c ∷ cs) z w = absurd w
zip_then R S U f [] (b ∷ bs) cs z w = absurd z
zip_then R S U f (a ∷ as_) [] cs z w = absurd z
zip_then R S U f (a ∷ as_) (b ∷ bs) [] z w = absurd w
zip_then R S U f (a ∷ as_) (b ∷ bs) (c ∷ cs) z w = (f a b c z.0 w.0, zip_then R S U f as_ bs cs z.1 w.1)
