-- What the calls of a list do, on lists of anything.
use Rattle.std.proofs.Common.{◌≡◌, ℕ, suc, zero, ◌+◌, ◌-◌, ◌<◌, ◌≤◌, Bool, true, false, cond, ltb, Some, None, List, [], ◌∷◌, ◌++◌, length}
use Rattle.std.proofs.Common.{take, drop, reverse, get_or, refl, sym, ap, ◌∙◌, arith, append_assoc, drop-cons, add-one}
use Rattle.std.proofs.Math.Seq.{drop-append_seam, take-append_seam}
use Rattle.std.proofs.lemmas.List.{take-append-le, take_all, drop_all, append-nil, length-append, length-take, length-drop, length-reverse}
use Rattle.std.proofs.lemmas.List.{reverse-append, reverse-reverse}
use Rattle.std.proofs.lemmas.Slice.{between_is}
use Rattle.std.proofs.lemmas.List.Sums.{position_or_len_is}
use Rattle.std.proofs.lemmas.Bool.{lt-ltb}
use Rattle.std.proofs.lemmas.Bool.Decides.{nat_tests}
use Rattle.std.specs.Prelude.{slice_range, position}
use borrow.Author.Count.{below_more}
use Rattle.values.specs.ListValue.{without_first}

-- cut behind, turned to its start, and cut to its length
pub slice_range-turned : {A : Type 0} (xs : List A) (s e : ℕ) → s ≤ e → e ≤ length xs
    → take (e - s) (drop s (take e xs) ++ take s (take e xs)) ≡ slice_range xs s e
slice_range-turned xs s e le within =
    let long : length (drop s (take e xs)) ≡ e - s = omega (arith, length-drop s (take e xs), length-take e xs) in
    take-append-le (e - s) (drop s (take e xs)) (take s (take e xs)) (omega arith)
    ∙ take_all (e - s) (drop s (take e xs)) (omega arith) ∙ sym (between_is xs s e)

-- a list turned so far: the items from i on, then those before them that stay; with so many removals left, what stays
-- of all is what shall
pub record IsTurned {A : Type 0} (test : A → Bool) (most : ℕ) (xs : List A) (i left : ℕ) (ys : List A) : Type 0 where
  pub stay : List A
  pub there : ys ≡ drop i xs ++ stay
  pub rest : stay ++ without_first test left (drop i xs) ≡ without_first test most xs

pub turned_none : {A : Type 0} (test : A → Bool) (most : ℕ) (xs : List A) → IsTurned test most xs 0 most xs
turned_none test most xs = record { stay = []; there = sym (append-nil xs); rest = refl }

-- the next item in turn is the head of what is there
next_in_turn : {A : Type 0} (xs : List A) (i : ℕ) (stay : List A) (t : A) (ys : List A) → i < length xs → t ∷ ys ≡ drop i xs ++ stay
    → (t ∷ drop (i + 1) xs ≡ drop i xs) × (ys ≡ drop (i + 1) xs ++ stay)
next_in_turn xs i stay t ys within e =
    let cut : drop i xs ≡ get_or xs i t ∷ drop (i + 1) xs = rw add-one (drop-cons xs i t within) in
    let both : t ∷ ys ≡ get_or xs i t ∷ (drop (i + 1) xs ++ stay) = e ∙ ap (λ l. l ++ stay) cut in
    let same : t ≡ get_or xs i t = cc in
    (ap (λ x. x ∷ drop (i + 1) xs) same ∙ sym cut, cc)

-- it is taken out
pub turned_out : {A : Type 0} (test : A → Bool) (most : ℕ) (xs : List A) (i left : ℕ) (t : A) (ys : List A)
    → IsTurned test most xs i left (t ∷ ys) → i < length xs → test t ≡ true → (n : ℕ) → left ≡ suc n → IsTurned test most xs (i + 1) n ys
turned_out test most xs i left t ys h within passes n more =
    let next = next_in_turn xs i h.stay t ys within h.there in
    let gone : without_first test left (drop i xs) ≡ without_first test n (drop (i + 1) xs) =
    ap (λ m. without_first test m (drop i xs)) more ∙ ap (without_first test (suc n)) (sym next.0)
    ∙ ap (λ b. cond b (without_first test n (drop (i + 1) xs)) (t ∷ without_first test (suc n) (drop (i + 1) xs))) passes in
    record { stay = h.stay; there = next.1; rest = ap (λ l. h.stay ++ l) (sym gone) ∙ h.rest }

-- it stays, and goes behind
pub turned_on : {A : Type 0} (test : A → Bool) (most : ℕ) (xs : List A) (i left : ℕ) (t : A) (ys : List A)
    → IsTurned test most xs i left (t ∷ ys) → i < length xs → (0 < left → test t ≡ false)
    → IsTurned test most xs (i + 1) left (ys ++ t ∷ [])
turned_on test most xs i left t ys h within fails =
    let next = next_in_turn xs i h.stay t ys within h.there in
    let kept : (n : ℕ) → (0 < n → test t ≡ false)
    → without_first test n (t ∷ drop (i + 1) xs) ≡ t ∷ without_first test n (drop (i + 1) xs) =
    keeps test t (drop (i + 1) xs) in
    record {
      stay = h.stay ++ t ∷ [];
      there = ap (λ l. l ++ t ∷ []) next.1 ∙ append_assoc (drop (i + 1) xs) h.stay (t ∷ []);
      rest = append_assoc h.stay (t ∷ []) (without_first test left (drop (i + 1) xs)) ∙ ap (λ l. h.stay ++ l) (sym (kept left fails))
          ∙ ap (λ l. h.stay ++ without_first test left l) next.0 ∙ h.rest;
    }
  where
    keeps : {A : Type 0} (test : A → Bool) (t : A) (xs : List A) (n : ℕ) → (0 < n → test t ≡ false)
        → without_first test n (t ∷ xs) ≡ t ∷ without_first test n xs
    keeps test t xs zero fails = refl
    keeps test t xs (suc n) fails = ap (λ b. cond b (without_first test n xs) (t ∷ without_first test (suc n) xs)) (fails (omega arith))

without_first-nil : {A : Type 0} (test : A → Bool) (n : ℕ) → without_first test n [] ≡ []
without_first-nil test zero = refl
without_first-nil test (suc n) = refl

pub turned_all : {A : Type 0} (test : A → Bool) (most : ℕ) (xs : List A) (i left : ℕ) (ys : List A)
    → IsTurned test most xs i left ys → length xs ≤ i → ys ≡ without_first test most xs
turned_all test most xs i left ys h all =
    let none = drop_all i xs all in
    h.there ∙ ap (λ l. l ++ h.stay) none ∙ sym (append-nil h.stay) ∙ ap (λ l. h.stay ++ l) (sym (without_first-nil test left))
    ∙ ap (λ l. h.stay ++ without_first test left l) (sym none) ∙ h.rest

-- where no more is to be removed, the items that were not reached go behind those that stay
pub turned_back : {A : Type 0} (test : A → Bool) (most : ℕ) (xs : List A) (i : ℕ) (ys : List A)
    → IsTurned test most xs i 0 ys → drop (length xs - i) ys ++ take (length xs - i) ys ≡ without_first test most xs
turned_back test most xs i ys h =
    let front = drop i xs in
    ap (λ n. drop n ys ++ take n ys) (sym (length-drop i xs)) ∙ ap (λ l. drop (length front) l ++ take (length front) l) h.there
    ∙ ap (λ l. l ++ take (length front) (front ++ h.stay)) (drop-append_seam front h.stay)
    ∙ ap (λ l. h.stay ++ l) (take-append_seam front h.stay) ∙ h.rest

-- the same of a list that is turned the other way
pub turned_forth : {A : Type 0} (test : A → Bool) (most : ℕ) (xs : List A) (i : ℕ) (ys : List A)
    → IsTurned test most xs i 0 (reverse ys)
    → drop (length ys - (length xs - i)) ys ++ take (length ys - (length xs - i)) ys ≡ reverse (without_first test most xs)
turned_forth test most xs i ys h =
    let front = drop i xs in
    let stay = reverse h.stay in
    let lies : ys ≡ stay ++ reverse front = sym (reverse-reverse ys) ∙ ap reverse h.there ∙ reverse-append front h.stay in
    let many : length ys - (length xs - i) ≡ length stay =
    omega (arith, ap length lies, length-append stay (reverse front), length-reverse front, length-drop i xs) in
    ap (λ n. drop n ys ++ take n ys) many ∙ ap (λ l. drop (length stay) l ++ take (length stay) l) lies
    ∙ ap (λ l. l ++ take (length stay) (stay ++ reverse front)) (drop-append_seam stay (reverse front))
    ∙ ap (λ l. reverse front ++ l) (take-append_seam stay (reverse front)) ∙ sym (reverse-append h.stay front) ∙ ap reverse h.rest

pub nothing_long : {A : Type 0} (xs : List A) → length xs ≡ 0 → xs ≡ []
nothing_long [] e = refl
nothing_long (x ∷ xs) e = absurd (omega arith)

-- the first place at which a test passes
pub position-first : {A : Type 0} (test : A → Bool) (xs : List A) (i : ℕ) (d : A) → i < length xs
    → ((k : ℕ) → k < i → test (get_or xs k d) ≡ false) → test (get_or xs i d) ≡ true → Some i ≡ position test xs
position-first test xs i d within before here =
    let first = position_or_len_is test xs i d (omega arith) before (λ _. here) in
    sym (ap (λ n. cond (ltb n (length xs)) (Some n) None) first ∙ ap (λ b. cond b (Some i) None) (lt-ltb i (length xs) within))

pub position-none : {A : Type 0} (test : A → Bool) (xs : List A) (i : ℕ) (d : A) → length xs ≤ i
    → ((k : ℕ) → k < i → test (get_or xs k d) ≡ false) → None ≡ position test xs
position-none test xs i d all before =
    let first = position_or_len_is test xs (length xs) d (omega arith) (λ k h. before k (omega arith)) (λ h. absurd (omega arith)) in
    sym (ap (λ n. cond (ltb n (length xs)) (Some n) None) first ∙ ap (λ b. cond b (Some (length xs)) None) (not_below (length xs)))
  where
    not_below : (n : ℕ) → ltb n n ≡ false
    not_below n = grind (arith, nat_tests)

-- one more item that fails
pub fails_more : {A : Type 0} (test : A → Bool) (xs : List A) (i : ℕ) (d : A)
    → ((k : ℕ) → k < i → test (get_or xs k d) ≡ false) → test (get_or xs i d) ≡ false → (k : ℕ) → k < i + 1 → test (get_or xs k d) ≡ false
fails_more test xs i d before here = below_more (λ k. test (get_or xs k d) ≡ false) i before here

pub ruleset lists = (slice_range-turned)
