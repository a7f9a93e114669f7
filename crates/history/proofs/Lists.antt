-- Lists, and their ghost values: which begins which.
use Rattle.std.proofs.Common.{◌≡◌, ◌≤◌, ◌⊎◌, List, [], ◌∷◌, ◌++◌, map, length, inl, inr, refl, sym, ap, ◌∙◌, append-nil, arith}
use mathlib.Core.List.{IsPrefix}
use base.Stored.{Gv, Coded}

pub prefix_refl : {A : Type 0} (xs : List A) → IsPrefix xs xs
prefix_refl xs = ([], append-nil xs)

first_same : {A : Type 0} (x y : A) (xs ys : List A) → x ∷ xs ≡ y ∷ ys → x ≡ y
first_same x y xs ys e = cc e

-- of two beginnings of a list the shorter one begins the longer one
pub prefix_shorter : {A : Type 0} (xs ys zs : List A) → IsPrefix xs zs → IsPrefix ys zs → length xs ≤ length ys → IsPrefix xs ys
prefix_shorter [] ys zs p q less = (ys, refl)
prefix_shorter (x ∷ xs) [] zs p q less = absurd (omega (arith, less))
prefix_shorter (x ∷ xs) (y ∷ ys) [] p q less = absurd (cc (p.1))
prefix_shorter (x ∷ xs) (y ∷ ys) (z ∷ zs) p q less =
    let rest : IsPrefix xs ys = prefix_shorter xs ys zs (p.0, cc (p.1)) (q.0, cc (q.1)) (omega (arith, less)) in
    let heads : x ≡ y = first_same x z (xs ++ p.0) zs p.1 ∙ sym (first_same y z (ys ++ q.0) zs q.1) in (rest.0, cc (heads, rest.1))

module _ {E : Type 0} (cv : Coded E) where
  pub prefix_in : (xs more : List E) → IsPrefix (map cv.code xs) (map cv.code (xs ++ more))
  prefix_in xs more = (map cv.code more, by_head xs)
    where
      by_head : (l : List E) → map cv.code l ++ map cv.code more ≡ map cv.code (l ++ more)
      by_head [] = refl
      by_head (x ∷ l) = ap (λ (gs : List Gv). cv.code x ∷ gs) (by_head l)

  same_head : (x y : E) (xs ys : List E) → cv.code x ≡ cv.code y → IsPrefix xs ys → IsPrefix (x ∷ xs) (y ∷ ys)
  same_head x y xs ys codes p = let e : x ≡ y = cv.inj x y codes in (p.0, cc (e, p.1))

  pub prefix_out : (xs ys : List E) → IsPrefix (map cv.code xs) (map cv.code ys) → IsPrefix xs ys
  prefix_out [] ys p = (ys, refl)
  prefix_out (x ∷ xs) [] p = absurd (cc (p.1))
  prefix_out (x ∷ xs) (y ∷ ys) p = same_head x y xs ys (cc (p.1)) (prefix_out xs ys (p.0, cc (p.1)))

  -- of two beginnings of one list one begins the other
  pub one_begins : (xs ys : List E) (gs : List Gv) → IsPrefix (map cv.code xs) gs → IsPrefix (map cv.code ys) gs
      → IsPrefix xs ys ⊎ IsPrefix ys xs
  one_begins [] ys gs p q = inl (ys, refl)
  one_begins (x ∷ xs) [] gs p q = inr (x ∷ xs, refl)
  one_begins (x ∷ xs) (y ∷ ys) [] p q = absurd (cc (p.1))
  one_begins (x ∷ xs) (y ∷ ys) (g ∷ gs) p q =
      let one : cv.code x ≡ g = cc (p.1) in
      let other : cv.code y ≡ g = cc (q.1) in
      behind (one ∙ sym other) (one_begins xs ys gs (p.0, cc (p.1)) (q.0, cc (q.1)))
    where
      behind : cv.code x ≡ cv.code y → IsPrefix xs ys ⊎ IsPrefix ys xs → IsPrefix (x ∷ xs) (y ∷ ys) ⊎ IsPrefix (y ∷ ys) (x ∷ xs)
      behind e (inl r) = inl (same_head x y xs ys e r)
      behind e (inr r) = inr (same_head y x ys xs (sym e) r)
