-- Sets of groups: what is in a set, and that its members say which set it is.
use Rattle.std.proofs.Common.{◌≡◌, ℕ, zero, suc, ◌+◌, ◌<◌, ◌≤◌, ◌==◌, ◌||◌, ◌&&◌, nat_lt, Bool, true, false, cond, List, [], ◌∷◌, inl, inr}
use Rattle.std.proofs.Common.{refl, sym, ap, ◌∙◌, subst, arith, eqb-true, eq-eqb, ltb-true, lt-ltb, ltb-false, le-ltb, ne_eqb, lt_irrefl}
use Rattle.std.proofs.lemmas.Bool.{cases_order, cases_lt, or_cases, both_ways, cases_Bool}
use Rattle.groups.specs.GroupSet.{has, IsAscending, with_group, chosen}

-- ---- a group put in

or_swap : (a b c : Bool) → (a || (b || c)) ≡ (b || (a || c))
or_swap true true c = refl
or_swap true false c = refl
or_swap false b c = refl

or_twice : (a c : Bool) → (a || c) ≡ (a || (a || c))
or_twice true c = refl
or_twice false c = refl

pub has-with : (gs : List ℕ) (g h : ℕ) → has (with_group gs g) h ≡ (g == h || has gs h)
has-with [] g h = refl
has-with (x ∷ xs) g h = elim (nat_lt x g) as (λ t. nat_lt x g ≡ t
    → has (cond t (x ∷ with_group xs g) (cond (x == g) (x ∷ xs) (g ∷ x ∷ xs))) h ≡ (g == h || (x == h || has xs h))) [
      | true ↦ λ e. ap (λ b. x == h || b) (has-with xs g h) ∙ or_swap (x == h) (g == h) (has xs h)
      | false ↦ λ e. elim (x == g) as (λ t. (x == g) ≡ t → has (cond t (x ∷ xs) (g ∷ x ∷ xs)) h ≡ (g == h || (x == h || has xs h))) [
        | true ↦ λ d. let same = eqb-true x g d in
            subst (λ y. (x == h || has xs h) ≡ (y == h || (x == h || has xs h))) same (or_twice (x == h) (has xs h))
        | false ↦ λ d. refl
      ] refl
    ] refl

-- ---- the members of a chosen set

has-cond : (b : Bool) (a g : ℕ) (gs : List ℕ) → has (cond b (a ∷ gs) gs) g ≡ ((b && a == g) || has gs g)
has-cond true a g gs = refl
has-cond false a g gs = refl

pub and_false : (b : Bool) → (b && false) ≡ false
and_false true = refl
and_false false = refl

and_true : (b : Bool) → (b && true) ≡ b
and_true true = refl
and_true false = refl

or_false : (b : Bool) → (b || false) ≡ b
or_false true = refl
or_false false = refl

pub has-chosen_below : (test : ℕ → Bool) (a m g : ℕ) → g < a → has (chosen test a m) g ≡ false
unfolding chosen
has-chosen_below test a zero g h = refl
has-chosen_below test a (suc m) g h =
    has-cond (test a) a g (chosen test (suc a) m)
    ∙ ap (λ b. (test a && b) || has (chosen test (suc a) m) g) (ne_eqb a g (λ e. omega arith))
    ∙ ap (λ b. b || has (chosen test (suc a) m) g) (and_false (test a))
    ∙ has-chosen_below test (suc a) m g (omega arith)

pub has-chosen_above : (test : ℕ → Bool) (a m g : ℕ) → a + m ≤ g → has (chosen test a m) g ≡ false
unfolding chosen
has-chosen_above test a zero g h = refl
has-chosen_above test a (suc m) g h =
    has-cond (test a) a g (chosen test (suc a) m)
    ∙ ap (λ b. (test a && b) || has (chosen test (suc a) m) g) (ne_eqb a g (λ e. omega arith))
    ∙ ap (λ b. b || has (chosen test (suc a) m) g) (and_false (test a))
    ∙ has-chosen_above test (suc a) m g (omega arith)

pub has-chosen_in : (test : ℕ → Bool) (a m g : ℕ) → a ≤ g → g < a + m → has (chosen test a m) g ≡ test g
unfolding chosen
has-chosen_in test a zero g h l = absurd (omega arith)
has-chosen_in test a (suc m) g h l =
    has-cond (test a) a g (chosen test (suc a) m) ∙ elim (cases_order a g) [
      | inl e ↦ ap (λ b. (test a && b) || has (chosen test (suc a) m) g) (eq-eqb a g e)
          ∙ ap (λ b. (test a && true) || b) (has-chosen_below test (suc a) m g (omega arith))
          ∙ or_false (test a && true) ∙ and_true (test a) ∙ ap test e
      | inr (inl less) ↦ ap (λ b. (test a && b) || has (chosen test (suc a) m) g) (ne_eqb a g (λ e. omega arith))
          ∙ ap (λ b. b || has (chosen test (suc a) m) g) (and_false (test a))
          ∙ has-chosen_in test (suc a) m g (omega arith) (omega arith)
      | inr (inr more) ↦ absurd (omega arith)
    ]

-- a group stands in the set chosen from the first m where it is one of these and passes the test
pub has-chosen : (test : ℕ → Bool) (m g : ℕ) → has (chosen test 0 m) g ≡ (nat_lt g m && test g)
has-chosen test m g = elim (cases_lt g m) [
  | inl less ↦ has-chosen_in test 0 m g (omega arith) (omega arith) ∙ ap (λ b. b && test g) (sym (lt-ltb g m less))
  | inr more ↦ has-chosen_above test 0 m g (omega arith) ∙ ap (λ b. b && test g) (sym (le-ltb g m more))
]

above_chosen : (test : ℕ → Bool) (a m h : ℕ) → has (chosen test (suc a) m) h ≡ true → a < h
above_chosen test a m h e = elim (cases_lt a h) [
  | inl less ↦ less
  | inr more ↦ absurd (both_ways _ (has-chosen_below test (suc a) m h (omega arith)) e)
]

pub IsAscending-chosen : (test : ℕ → Bool) (a m : ℕ) → IsAscending (chosen test a m)
unfolding chosen
IsAscending-chosen test a zero = tt
IsAscending-chosen test a (suc m) = elim (test a) as (λ t. IsAscending (cond t (a ∷ chosen test (suc a) m) (chosen test (suc a) m))) [
  | true ↦ (λ h e. above_chosen test a m h e, IsAscending-chosen test (suc a) m)
  | false ↦ IsAscending-chosen test (suc a) m
]

-- ---- a set is known by its members

has_first : (x : ℕ) (xs : List ℕ) → has (x ∷ xs) x ≡ true
has_first x xs = ap (λ b. b || has xs x) (eq-eqb x x refl)

-- the least of the one set isn't below the least of the other
least_within : (x y : ℕ) (ys : List ℕ) → IsAscending (y ∷ ys) → has (y ∷ ys) x ≡ true → y ≤ x
least_within x y ys up h = elim (or_cases (y == x) (has ys x) h) [
  | inl e ↦ let same = eqb-true y x e in omega arith
  | inr there ↦ let less = up.0 x there in omega arith
]

-- the first of an ascending set doesn't stand again in it
not_again : (x : ℕ) (xs : List ℕ) → IsAscending (x ∷ xs) → has xs x ≡ false
not_again x xs up = elim (cases_Bool (has xs x)) [ inl e ↦ absurd (lt_irrefl x (up.0 x e)) | inr e ↦ e ]

rest_same : (x : ℕ) (xs ys : List ℕ) → IsAscending (x ∷ xs) → IsAscending (x ∷ ys) → ((g : ℕ) → has (x ∷ xs) g ≡ has (x ∷ ys) g) → (g : ℕ)
    → has xs g ≡ has ys g
rest_same x xs ys up up' same g = elim (x == g) as (λ t. (x == g) ≡ t → has xs g ≡ has ys g) [
  | true ↦ λ e. let it = eqb-true x g e in subst (λ h. has xs h ≡ has ys h) it (not_again x xs up ∙ sym (not_again x ys up'))
  | false ↦ λ e. sym (ap (λ b. b || has xs g) e) ∙ same g ∙ ap (λ b. b || has ys g) e
] refl

pub same_sets : (xs ys : List ℕ) → IsAscending xs → IsAscending ys → ((g : ℕ) → has xs g ≡ has ys g) → xs ≡ ys
same_sets [] [] up up' same = refl
same_sets [] (y ∷ ys) up up' same = absurd (both_ways _ (sym (same y)) (has_first y ys))
same_sets (x ∷ xs) [] up up' same = absurd (both_ways _ (same x) (has_first x xs))
same_sets (x ∷ xs) (y ∷ ys) up up' same =
    let low : y ≤ x = least_within x y ys up' (sym (same x) ∙ has_first x xs) in
    let high : x ≤ y = least_within y x xs up (same y ∙ has_first y ys) in
    let e : x ≡ y = omega arith in
    let up'' : IsAscending (x ∷ ys) = subst (λ (z : ℕ). IsAscending (z ∷ ys)) (sym e) up' in
    let same' : (g : ℕ) → has (x ∷ xs) g ≡ has (x ∷ ys) g = subst (λ (z : ℕ). (g : ℕ) → has (x ∷ xs) g ≡ has (z ∷ ys) g) (sym e) same in
    ap (λ t. x ∷ t) (same_sets xs ys up.1 up''.1 (rest_same x xs ys up up'' same')) ∙ ap (λ z. z ∷ ys) e

-- ---- sets made by choosing

-- tests that agree on the first m choose the same set
pub chosen_same : (s t : ℕ → Bool) (m : ℕ) → ((g : ℕ) → g < m → s g ≡ t g) → chosen s 0 m ≡ chosen t 0 m
chosen_same s t m same = same_sets _ _ (IsAscending-chosen s 0 m) (IsAscending-chosen t 0 m) (λ g. has-chosen s m g ∙ alike g
    ∙ sym (has-chosen t m g))
  where
    alike : (g : ℕ) → (nat_lt g m && s g) ≡ (nat_lt g m && t g)
    alike g = elim (nat_lt g m) as (λ b. nat_lt g m ≡ b → (b && s g) ≡ (b && t g)) [
      | true ↦ λ e. same g (ltb-true g m e)
      | false ↦ λ e. refl
    ] refl

above_with : (x g : ℕ) (xs : List ℕ) → x < g → ((h : ℕ) → has xs h ≡ true → x < h) → (h : ℕ) → has (with_group xs g) h ≡ true → x < h
above_with x g xs less up h e = elim (or_cases (g == h) (has xs h) (sym (has-with xs g h) ∙ e)) [
  | inl at ↦ let same = eqb-true g h at in omega arith
  | inr there ↦ up h there
]

pub IsAscending-with : (gs : List ℕ) (g : ℕ) → IsAscending gs → IsAscending (with_group gs g)
IsAscending-with [] g up = (λ h e. absurd (both_ways _ refl e), tt)
IsAscending-with (x ∷ xs) g up =
    elim (nat_lt x g) as (λ t. nat_lt x g ≡ t → IsAscending (cond t (x ∷ with_group xs g) (cond (x == g) (x ∷ xs) (g ∷ x ∷ xs)))) [
      | true ↦ λ e. (above_with x g xs (ltb-true x g e) up.0, IsAscending-with xs g up.1)
      | false ↦ λ e. elim (x == g) as (λ t. (x == g) ≡ t → IsAscending (cond t (x ∷ xs) (g ∷ x ∷ xs))) [
        | true ↦ λ d. up
        | false ↦ λ d. (
          λ h there. let low = least_within h x xs up there in let not_less = ltb-false x g e in
              let ne : x ≡ g → ⊥ = (λ s. both_ways _ d (eq-eqb x g s)) in omega arith,
          up,
        )
      ] refl
    ] refl

-- to put a group into a chosen set is to choose it too
pub with-chosen : (test : ℕ → Bool) (m g : ℕ) → g < m → with_group (chosen test 0 m) g ≡ chosen (λ h. g == h || test h) 0 m
with-chosen test m g less = same_sets _ _ (IsAscending-with _ g (IsAscending-chosen test 0 m)) (IsAscending-chosen _ 0 m)
    (λ h. has-with (chosen test 0 m) g h ∙ ap (λ b. g == h || b) (has-chosen test m h) ∙ alike h
    ∙ sym (has-chosen (λ h. g == h || test h) m h))
  where
    alike : (h : ℕ) → (g == h || (nat_lt h m && test h)) ≡ (nat_lt h m && (g == h || test h))
    alike h = elim (nat_lt h m) as (λ b. nat_lt h m ≡ b → (g == h || (b && test h)) ≡ (b && (g == h || test h))) [
      | true ↦ λ e. refl
      | false ↦ λ e. let more = ltb-false h m e in ap (λ b. b || false) (ne_eqb g h (λ s. omega arith))
    ] refl
