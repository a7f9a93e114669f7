-- Packets under way, by their places.
use Rattle.std.proofs.Common.{◌≡◌, ◌∙◌, ℕ, zero, suc, ◌+◌, ◌<◌}
use Rattle.std.proofs.Common.{Bool, true, false, cond, List, [], ◌∷◌, ◌++◌, Some}
use Rattle.std.proofs.Common.{length, map, slice_get, refl, sym, ap, arith}
use Rattle.std.proofs.lemmas.List.{append-nil}
use Rattle.std.proofs.lemmas.List.Elements.{filter-append}
use Rattle.std.specs.List.{AllByRecursion, filter, remove, slice_set}
use Rattle.picture.specs.Flights.{places_from}

-- ---- one more at the end

pub filter-more : {A : Type 0} (f : A → Bool) (xs : List A) (x : A) → f x ≡ true → filter f (xs ++ x ∷ []) ≡ filter f xs ++ x ∷ []
filter-more f xs x is = filter-append f xs (x ∷ []) ∙ ap (λ t. filter f xs ++ cond t (x ∷ []) []) is

pub filter-same : {A : Type 0} (f : A → Bool) (xs : List A) (x : A) → f x ≡ false → filter f (xs ++ x ∷ []) ≡ filter f xs
filter-same f xs x is =
    filter-append f xs (x ∷ []) ∙ ap (λ t. filter f xs ++ cond t (x ∷ []) []) is ∙ append-nil (filter f xs)

pub places-more : {A : Type 0} (f : A → Bool) (n : ℕ) (xs : List A) (x : A) → f x ≡ true →
    places_from f n (xs ++ x ∷ []) ≡ places_from f n xs ++ (n + length xs) ∷ []
places-more f n [] x is = let e : n ≡ n + 0 = omega arith in rw is (ap (λ k. k ∷ []) e)
places-more f n (y ∷ ys) x is =
    let e : suc n + length ys ≡ n + suc (length ys) = omega arith in
    let rest = places-more f (suc n) ys x is ∙ ap (λ k. places_from f (suc n) ys ++ k ∷ []) e in
    elim (f y) as (λ t. cond t (n ∷ places_from f (suc n) (ys ++ x ∷ [])) (places_from f (suc n) (ys ++ x ∷ []))
    ≡ cond t (n ∷ places_from f (suc n) ys) (places_from f (suc n) ys) ++ (n + suc (length ys)) ∷ []) [
      | true ↦ ap (λ zs. n ∷ zs) rest
      | false ↦ rest
    ]

-- ---- one that passes no more

-- the one at place k of those that pass is that at place d of all; where another that doesn't pass is put there, those that
-- pass are all but it
pub record IsPlace {A : Type 0} (f : A → Bool) (n : ℕ) (xs passing : List A) (places : List ℕ) (k j : ℕ) : Type 0 where
  pub d : ℕ
  pub at : j ≡ n + d
  pub x : A
  pub there : slice_get xs d ≡ Some x
  pub passes : f x ≡ true
  pub kept : slice_get passing k ≡ Some x
  pub less : d < length xs
  pub without : (y : A) → f y ≡ false → filter f (slice_set xs d y) ≡ remove passing k
  pub others : (y : A) → f y ≡ false → places_from f n (slice_set xs d y) ≡ remove places k

pub place_of : {A : Type 0} (f : A → Bool) (n : ℕ) (xs : List A) (k j : ℕ) → slice_get (places_from f n xs) k ≡ Some j →
    IsPlace f n xs (filter f xs) (places_from f n xs) k j
place_of f n [] k j is = cc
place_of {A} f n (x ∷ xs) k j is =
    elim (f x) as (λ t. f x ≡ t → slice_get (cond t (n ∷ places_from f (suc n) xs) (places_from f (suc n) xs)) k ≡ Some j →
    IsPlace f n (x ∷ xs) (cond t (x ∷ filter f xs) (filter f xs)) (cond t (n ∷ places_from f (suc n) xs) (places_from f (suc n) xs)) k j) [
      | true ↦ λ e there. here (λ l at. place_of f (suc n) xs l j at) k e there
      | false ↦ λ e there. later (place_of f (suc n) xs k j there) e
    ] refl is
  where
    first : f x ≡ true → n ≡ j → IsPlace f n (x ∷ xs) (x ∷ filter f xs) (n ∷ places_from f (suc n) xs) 0 j
    first e same = record {
      d = 0;
      at = omega (arith, same);
      x = x;
      there = refl;
      passes = e;
      kept = refl;
      less = omega arith;
      without = λ y no. rw no refl;
      others = λ y no. rw no refl;
    }

    here : ((l : ℕ) → slice_get (places_from f (suc n) xs) l ≡ Some j → IsPlace f (suc n) xs (filter f xs) (places_from f (suc n) xs) l j) →
        (k : ℕ) → f x ≡ true → slice_get (n ∷ places_from f (suc n) xs) k ≡ Some j →
        IsPlace f n (x ∷ xs) (x ∷ filter f xs) (n ∷ places_from f (suc n) xs) k j
    here rest zero e there = let same : n ≡ j = cc in first e same
    here rest (suc k) e there =
        let p = rest k there in
        let at = p.at in let less = p.less in record {
          d = suc p.d;
          at = omega arith;
          x = p.x;
          there = p.there;
          passes = p.passes;
          kept = p.kept;
          less = omega arith;
          without = λ y no. rw e (ap (λ zs. x ∷ zs) (p.without y no));
          others = λ y no. rw e (ap (λ zs. n ∷ zs) (p.others y no));
        }

    later : IsPlace f (suc n) xs (filter f xs) (places_from f (suc n) xs) k j → f x ≡ false →
        IsPlace f n (x ∷ xs) (filter f xs) (places_from f (suc n) xs) k j
    later p e =
        let at = p.at in let less = p.less in record {
          d = suc p.d;
          at = omega arith;
          x = p.x;
          there = p.there;
          passes = p.passes;
          kept = p.kept;
          less = omega arith;
          without = λ y no. rw e (p.without y no);
          others = λ y no. rw e (p.others y no);
        }

-- where another is put that is told the same, and passes if it does, the same is told
pub told_same : {A B : Type 0} (f : A → Bool) (h : A → B) (xs : List A) (d : ℕ) (x y : A) → slice_get xs d ≡ Some x →
    f y ≡ f x → h y ≡ h x → map h (filter f (slice_set xs d y)) ≡ map h (filter f xs)
told_same f h [] d x y is same told = cc
told_same f h (z ∷ zs) zero x y is same told =
    let e : z ≡ x = cc in
    let pass : f y ≡ f z = same ∙ ap f (sym e) in
    let say : h y ≡ h z = told ∙ ap h (sym e) in
    let rest = filter f zs in
    elim (f z) as (λ t. f y ≡ t → map h (cond (f y) (y ∷ rest) rest) ≡ map h (cond t (z ∷ rest) rest)) [
      | true ↦ λ p. rw p (ap (λ b. b ∷ map h rest) say)
      | false ↦ λ p. rw p refl
    ] pass
told_same f h (z ∷ zs) (suc d) x y is same told =
    let rest = told_same f h zs d x y is same told in
    let now = filter f (slice_set zs d y) in
    elim (f z) as (λ t. map h (cond t (z ∷ now) now) ≡ map h (cond t (z ∷ filter f zs) (filter f zs))) [
      | true ↦ ap (λ bs. h z ∷ bs) rest
      | false ↦ rest
    ]

-- tests that agree on each keep the same
pub filter_agree : {A : Type 0} (f g : A → Bool) (xs : List A) → AllByRecursion (λ x. f x ≡ g x) xs → filter f xs ≡ filter g xs
filter_agree f g [] agree = refl
filter_agree f g (x ∷ xs) agree = ap (λ t. cond t (x ∷ filter f xs) (filter f xs)) agree.0
    ∙ ap (λ zs. cond (g x) (x ∷ zs) zs) (filter_agree f g xs agree.1)
