-- The units of a layer: each is one, and each place of the layer stands in one of them, once.
use Rattle.std.proofs.Common.{◌≡◌, ℕ, zero, suc, ◌+◌, ◌<◌, ◌≤◌, ◌==◌, ◌||◌, ◌&&◌, Bool, true, false, not, cond, nat_lt, List, [], ◌∷◌, map}
use Rattle.std.proofs.Common.{length, refl, sym, ap, ◌∙◌, subst, arith, inl, inr, eqb-true, eq-eqb, ne_eqb, lt-ltb, le-ltb}
use Rattle.std.specs.List.{concat}
use Rattle.std.proofs.lemmas.Bool.{both_ways, cases_Bool, cases_eq, cases_lt, and_parts, and_from, or_cases, or_left, or_right}
use Rattle.std.proofs.lemmas.List.{length-map}
use Rattle.groups.specs.GroupSet.{has, IsAscending, chosen}
use Rattle.groups.specs.GroupSetLaws.{has-chosen, IsAscending-chosen}
use Rattle.groups.specs.Order.{In}
use Rattle.groups.specs.Stamp.{stamp_lt}
use Rattle.layer_planner.specs.declared.job.Job.{Job}
use Rattle.layer_planner.specs.Layers.{StandTogether}
use Rattle.layer_planner.specs.Units.{groups_each, groups_at, stamp_at, line_up, is_in_unit, unit_at, has_begun, is_first, put_by_stamp}
use Rattle.layer_planner.specs.Units.{by_stamps}
use Rattle.layer_planner.specs.Units.{firsts, units, IsUnit, EachPlaceOnce, AreUnitsOf}
use Rattle.layer_planner.proofs.FirstPlaces.{firsts_inside}
use Rattle.layer_planner.proofs.PartLaws.{times, times-append}

-- ---- sums over a list

unfoldable pub total : (ℕ → ℕ) → List ℕ → ℕ
total h [] = 0
total h (x ∷ xs) = h x + total h xs

pub times-concat : (i : ℕ) (u : ℕ → List ℕ) (xs : List ℕ) → times i (concat (map u xs)) ≡ total (λ k. times i (u k)) xs
unfolding total
times-concat i u [] = refl
times-concat i u (x ∷ xs) = times-append i (u x) (concat (map u xs)) ∙ ap (λ n. times i (u x) + n) (times-concat i u xs)

total_same : (h k : ℕ → ℕ) (xs : List ℕ) → ((x : ℕ) → h x ≡ k x) → total h xs ≡ total k xs
unfolding total
total_same h k [] same = refl
total_same h k (x ∷ xs) same = ap (λ n. n + total h xs) (same x) ∙ ap (λ n. k x + n) (total_same h k xs same)

-- the order doesn't count
total-put : (h : ℕ → ℕ) (jobs : List Job) (i : ℕ) (ks : List ℕ) → total h (put_by_stamp jobs i ks) ≡ h i + total h ks
unfolding total
total-put h jobs i [] = refl
total-put h jobs i (k ∷ ks) = elim (stamp_lt (stamp_at jobs i) (stamp_at jobs k))
    as (λ b. total h (cond b (i ∷ k ∷ ks) (k ∷ put_by_stamp jobs i ks)) ≡ h i + (h k + total h ks)) [
      | true ↦ refl
      | false ↦ let rest = total-put h jobs i ks in ap (λ n. h k + n) rest ∙ omega arith
    ]

total-by_stamps : (h : ℕ → ℕ) (jobs : List Job) (sorted is : List ℕ) → total h (by_stamps jobs sorted is) ≡ total h sorted + total h is
unfolding total
total-by_stamps h jobs sorted [] = omega arith
total-by_stamps h jobs sorted (i ∷ is) =
    let rest = total-by_stamps h jobs (put_by_stamp jobs i sorted) is in
    let one = total-put h jobs i sorted in
    rest ∙ ap (λ n. n + total h is) one ∙ omega arith

-- ---- how often something is passed

passes : (ℕ → Bool) → ℕ → ℕ → ℕ
passes r a zero = 0
passes r a (suc m) = cond (r a) 1 0 + passes r (suc a) m

total-chosen : (p q : ℕ → Bool) (a m : ℕ) → total (λ f. cond (q f) 1 0) (chosen p a m) ≡ passes (λ f. p f && q f) a m
unfolding total chosen passes
total-chosen p q a zero = refl
total-chosen p q a (suc m) = elim (p a)
    as (λ b. total (λ f. cond (q f) 1 0) (cond b (a ∷ chosen p (suc a) m) (chosen p (suc a) m)) ≡ cond (b && q a) 1 0 + passes
    (λ f. p f && q f) (suc a) m) [
      | true ↦ ap (λ n. cond (q a) 1 0 + n) (total-chosen p q (suc a) m)
      | false ↦ total-chosen p q (suc a) m ∙ omega arith
    ]

passes_none : (r : ℕ → Bool) (a m : ℕ) → ((f : ℕ) → a ≤ f → r f ≡ false) → passes r a m ≡ 0
unfolding passes
passes_none r a zero none = refl
passes_none r a (suc m) none =
    let rest = passes_none r (suc a) m (λ f low. none f (omega (arith, low))) in
    let here : cond {A = ℕ} (r a) 1 0 ≡ 0 = ap (λ b. cond {A = ℕ} b 1 0) (none a (omega arith)) in
    omega (arith, rest, here)

passes_once : (r : ℕ → Bool) (a m at : ℕ) → a ≤ at → at < a + m → r at ≡ true → ((f : ℕ) → r f ≡ true → f ≡ at) → passes r a m ≡ 1
unfolding passes
passes_once r a zero at low high here only = absurd (omega (arith, low, high))
passes_once r a (suc m) at low high here only = elim (cases_eq a at) [
  | inl e ↦
      let one : cond {A = ℕ} (r a) 1 0 ≡ 1 = ap (λ b. cond {A = ℕ} b 1 0) (subst (λ n. r n ≡ true) (sym e) here) in
      let rest = passes_none r (suc a) m (λ f above. elim (cases_Bool (r f)) [
        | inl passed ↦ let same = only f passed in absurd (omega (arith, same, above, e))
        | inr fails ↦ fails
      ]) in
      omega (arith, one, rest)
  | inr apart ↦
      let none : cond {A = ℕ} (r a) 1 0 ≡ 0 = ap (λ b. cond {A = ℕ} b 1 0) (elim (cases_Bool (r a)) as (λ _. r a ≡ false) [
        | inl passed ↦ absurd (apart (only a passed))
        | inr fails ↦ fails
      ]) in
      let rest = passes_once r (suc a) m at (above a at low apart) (omega (arith, high)) here only in
      omega (arith, none, rest)
]
  where
    above : (x y : ℕ) → x ≤ y → (x ≡ y → ⊥) → suc x ≤ y
    above x y le ne = elim (cases_lt x y) [ inl h ↦ omega (arith, h) | inr h ↦ absurd (ne (omega (arith, h, le))) ]

-- in an ascending list each number stands once or not at all
times_has : (i : ℕ) (xs : List ℕ) → IsAscending xs → times i xs ≡ cond (has xs i) 1 0
times_has i [] up = refl
times_has i (x ∷ xs) up =
    let more = times-append i (x ∷ []) xs in
    let ih = times_has i xs up.1 in
    elim (cases_eq x i) [
      | inl e ↦
          let one : cond {A = ℕ} (x == i) 1 0 ≡ 1 = ap (λ b. cond {A = ℕ} b 1 0) (eq-eqb x i e) in
          let all : cond {A = ℕ} (x == i || has xs i) 1 0 ≡ 1 = ap (λ b. cond {A = ℕ} (b || has xs i) 1 0) (eq-eqb x i e) in
          let none : cond {A = ℕ} (has xs i) 1 0 ≡ 0 = ap (λ b. cond {A = ℕ} b 1 0)
          (elim (cases_Bool (has xs i)) as (λ _. has xs i ≡ false) [
            | inl there ↦ let low = up.0 i there in absurd (omega (arith, low, e))
            | inr none ↦ none
          ]) in
          omega (arith, more, ih, one, all, none)
      | inr apart ↦
          let one : cond {A = ℕ} (x == i) 1 0 ≡ 0 = ap (λ b. cond {A = ℕ} b 1 0) (ne_eqb x i apart) in
          let all : cond {A = ℕ} (x == i || has xs i) 1 0 ≡ cond {A = ℕ} (has xs i) 1 0 = ap (λ b. cond {A = ℕ} (b || has xs i) 1 0)
          (ne_eqb x i apart) in
          omega (arith, more, ih, one, all)
    ]

-- ---- lining up

-- one group alone, the same
record SameOne (gs hs : List ℕ) : Type 0 where
  group : ℕ
  first : gs ≡ group ∷ []
  second : hs ≡ group ∷ []

same_one : (gs hs : List ℕ) → line_up gs hs ≡ true → SameOne gs hs
same_one [] hs e = absurd (both_ways _ refl e)
same_one (g ∷ []) [] e = absurd (both_ways _ refl e)
same_one (g ∷ []) (h ∷ []) e = record { group = g; first = refl; second = ap (λ n. n ∷ []) (sym (eqb-true g h e)) }
same_one (g ∷ []) (h ∷ k ∷ hs) e = absurd (both_ways _ refl e)
same_one (g ∷ k ∷ gs) hs e = absurd (both_ways _ refl e)

pub lines_up : (gs hs : List ℕ) (g : ℕ) → gs ≡ g ∷ [] → hs ≡ g ∷ [] → line_up gs hs ≡ true
lines_up gs hs g e f = ap (λ l. line_up l hs) e ∙ ap (line_up (g ∷ [])) f ∙ eq-eqb g g refl

-- a place is itself or lines up: its groups are the same
pub same_groups : (sets : List (List ℕ)) (f i : ℕ) → is_in_unit sets f i ≡ true → groups_at sets f ≡ groups_at sets i
same_groups sets f i e = elim (or_cases (i == f) (line_up (groups_at sets f) (groups_at sets i)) e) [
  | inl here ↦ ap (groups_at sets) (sym (eqb-true i f here))
  | inr line ↦ let s = same_one (groups_at sets f) (groups_at sets i) line in s.first ∙ sym s.second
]

-- ---- a unit

has-unit : (sets : List (List ℕ)) (f i : ℕ) → has (unit_at sets f) i ≡ (nat_lt i (length sets) && is_in_unit sets f i)
has-unit sets f i = has-chosen (is_in_unit sets f) (length sets) i

in_unit : (sets : List (List ℕ)) (f i : ℕ) → has (unit_at sets f) i ≡ true → is_in_unit sets f i ≡ true
in_unit sets f i h = (and_parts (nat_lt i (length sets)) (is_in_unit sets f i) (sym (has-unit sets f i) ∙ h)).1

some_there : (xs : List ℕ) (g : ℕ) → has xs g ≡ true → 0 < length xs
some_there [] g h = absurd (both_ways _ refl h)
some_there (x ∷ xs) g h = omega arith

place_within : (sets : List (List ℕ)) (k g : ℕ) → has (groups_at sets k) g ≡ true → k < length sets
place_within [] k g h = absurd (both_ways _ refl h)
place_within (s ∷ sets) zero g h = omega arith
place_within (s ∷ sets) (suc k) g h = let low = place_within sets k g h in omega (arith, low)

-- whoever shares a group with another has just that one, and so has the other
record Alone (sets : List (List ℕ)) (a b g : ℕ) : Type 0 where
  first : groups_at sets a ≡ g ∷ []
  second : groups_at sets b ≡ g ∷ []

-- the job at a place
record JobAt (js : List Job) (b : ℕ) : Type 0 where
  job : Job
  stands : In job js
  groups : job.groups ≡ groups_at (groups_each js) b

get_job : (js : List Job) (b : ℕ) → b < length js → JobAt js b
get_job [] b h = absurd (omega (arith, h))
get_job (j ∷ js) zero h = record { job = j; stands = inl refl; groups = refl }
get_job (j ∷ js) (suc b) h =
    let r = get_job js b (omega (arith, h)) in record { job = r.job; stands = inr r.stands; groups = r.groups }

behind : (jobs : List Job) → StandTogether jobs → (a b g : ℕ) → a < b → has (groups_at (groups_each jobs) a) g ≡ true
    → has (groups_at (groups_each jobs) b) g ≡ true → Alone (groups_each jobs) a b g
behind [] stand a b g low here there = absurd (both_ways _ refl here)
behind (j ∷ js) stand a zero g low here there = absurd (omega (arith, low))
behind (j ∷ js) stand zero (suc b) g low here there =
    let inside = place_within (groups_each js) b g there in
    let long = length-map js (λ (k : Job). k.groups) in
    let k = get_job js b (subst (λ n. b < n) long inside) in
    let follow = stand.0 k.job k.stands g here (ap (λ l. has l g) k.groups ∙ there) in
    record { first = follow.0; second = sym k.groups ∙ follow.1 }
behind (j ∷ js) stand (suc a) (suc b) g low here there =
    let r = behind js stand.1 a b g (omega (arith, low)) here there in record { first = r.first; second = r.second }

module _ (jobs : List Job) (stand : StandTogether jobs) where
  abbrev sets : List (List ℕ)
  sets = groups_each jobs

  is_unit : (f : ℕ) → f < length sets → IsUnit sets (unit_at sets f)
  is_unit f low = record {
    some = some_there (unit_at sets f) f
        (has-unit sets f f ∙ and_from _ _ (lt-ltb f (length sets) low) (or_left (f == f) _ (eq-eqb f f refl)));
    ascending = IsAscending-chosen (is_in_unit sets f) 0 (length sets);
    alike = λ i k here there. sym (same_groups sets f i (in_unit sets f i here)) ∙ same_groups sets f k (in_unit sets f k there);
    whole = λ i k g here groups others.
        has-unit sets f k ∙ and_from _ _ (lt-ltb k (length sets) (place_within sets k g others))
        (whole i k g (in_unit sets f i here) groups others);
  }
    where
      whole : (i k g : ℕ) → is_in_unit sets f i ≡ true → has (groups_at sets i) g ≡ true → has (groups_at sets k) g ≡ true
          → is_in_unit sets f k ≡ true
      whole i k g here groups others = elim (cases_eq i k) [
        | inl e ↦ subst (λ n. is_in_unit sets f n ≡ true) e here
        | inr apart ↦ or_right (k == f) _ (lines_up (groups_at sets f) (groups_at sets k) g
            (same_groups sets f i here ∙ (alone i k apart groups others).first) (alone i k apart groups others).second)
      ]
        where
          alone : (i k : ℕ) → (i ≡ k → ⊥) → has (groups_at sets i) g ≡ true → has (groups_at sets k) g ≡ true → Alone sets i k g
          alone i k apart a b = elim (cases_lt i k) [
            | inl less ↦ behind jobs stand i k g less a b
            | inr more ↦ elim (cases_lt k i) [
              | inl less ↦ let r = behind jobs stand k i g less b a in record { first = r.second; second = r.first }
              | inr same ↦ absurd (apart (omega (arith, more, same)))
            ]
          ]

-- ---- the first place of a unit

pub begun_by : (sets : List (List ℕ)) (gs : List ℕ) (n k : ℕ) → k < n → line_up gs (groups_at sets k) ≡ true → has_begun sets gs n ≡ true
begun_by sets gs zero k low line = absurd (omega (arith, low))
begun_by sets gs (suc n) k low line = elim (cases_lt k n) [
  | inl before ↦ or_right (line_up gs (groups_at sets n)) (has_begun sets gs n) (begun_by sets gs n k before line)
  | inr last ↦ or_left (line_up gs (groups_at sets n)) (has_begun sets gs n)
      (subst (λ m. line_up gs (groups_at sets m) ≡ true) (let e : k ≡ n = omega (arith, low, last) in e) line)
]

-- the first one that lines up
record Begins (sets : List (List ℕ)) (gs : List ℕ) (n : ℕ) : Type 0 where
  at : ℕ
  low : at < n
  line : line_up gs (groups_at sets at) ≡ true
  first : has_begun sets gs at ≡ false

begins : (sets : List (List ℕ)) (gs : List ℕ) (n : ℕ) → has_begun sets gs n ≡ true → Begins sets gs n
begins sets gs zero e = absurd (both_ways _ refl e)
begins sets gs (suc n) e = elim (cases_Bool (has_begun sets gs n)) [
  | inl before ↦ let b = begins sets gs n before in let low = b.low in
      record { at = b.at; low = omega (arith, low); line = b.line; first = b.first }
  | inr none ↦ elim (or_cases (line_up gs (groups_at sets n)) (has_begun sets gs n) e) [
    | inl here ↦ record { at = n; low = omega arith; line = here; first = none }
    | inr there ↦ absurd (both_ways _ none there)
  ]
]

record FirstOf (sets : List (List ℕ)) (i : ℕ) : Type 0 where
  at : ℕ
  low : at ≤ i
  unit : is_in_unit sets at i ≡ true
  first : is_first sets at ≡ true

first_of : (sets : List (List ℕ)) (i : ℕ) → FirstOf sets i
first_of sets i = elim (cases_Bool (has_begun sets (groups_at sets i) i)) [
  | inr none ↦ record { at = i; low = omega arith; unit = or_left (i == i) _ (eq-eqb i i refl); first = ap not none }
  | inl some ↦
      let b = begins sets (groups_at sets i) i some in
      let s = same_one (groups_at sets i) (groups_at sets b.at) b.line in
      let low = b.low in
      record {
        at = b.at;
        low = omega (arith, low);
        unit = or_right (i == b.at) _ (lines_up (groups_at sets b.at) (groups_at sets i) s.group s.second s.first);
        first = ap not (ap (λ l. has_begun sets l b.at) (s.second ∙ sym s.first) ∙ b.first);
      }
]

-- of two places of a unit only one is the first
not_later : (sets : List (List ℕ)) (f k i : ℕ) → is_first sets k ≡ true → is_in_unit sets f i ≡ true → is_in_unit sets k i ≡ true → f < k
    → ⊥
not_later sets f k i first a b low =
    both_ways _ (ap not (begun_by sets (groups_at sets k) k f low line)) first
  where
    line : line_up (groups_at sets k) (groups_at sets f) ≡ true
    line = elim (or_cases (i == k) (line_up (groups_at sets k) (groups_at sets i)) b) [
      | inr up ↦ let s = same_one (groups_at sets k) (groups_at sets i) up in
          lines_up (groups_at sets k) (groups_at sets f) s.group s.first (same_groups sets f i a ∙ s.second)
      | inl here ↦ elim (or_cases (i == f) (line_up (groups_at sets f) (groups_at sets i)) a) [
        | inr up ↦ let s = same_one (groups_at sets f) (groups_at sets i) up in
            lines_up (groups_at sets k) (groups_at sets f) s.group
            (ap (groups_at sets) (sym (eqb-true i k here)) ∙ s.second) s.first
        | inl there ↦ let x = eqb-true i k here in let y = eqb-true i f there in absurd (omega (arith, low, x, y))
      ]
    ]

one_first : (sets : List (List ℕ)) (f k i : ℕ) → is_first sets f ≡ true → is_first sets k ≡ true
    → is_in_unit sets f i ≡ true → is_in_unit sets k i ≡ true → f ≡ k
one_first sets f k i ff fk a b = elim (cases_lt f k) [
  | inl less ↦ absurd (not_later sets f k i fk a b less)
  | inr more ↦ elim (cases_lt k f) [
    | inl less ↦ absurd (not_later sets k f i ff b a less)
    | inr same ↦ omega (arith, more, same)
  ]
]

-- ---- each place once

no_sum : (h : ℕ → ℕ) (m : ℕ) → total h [] + m ≡ m
unfolding total
no_sum h m = omega arith

module _ (jobs : List Job) where
  abbrev all : List (List ℕ)
  all = groups_each jobs

  abbrev n : ℕ
  n = length all

  each_once : EachPlaceOnce (length (groups_each jobs)) (units jobs)
  each_once i =
      times-concat i (unit_at all) (firsts jobs)
      ∙ total_same (λ f. times i (unit_at all f)) (λ f. cond (nat_lt i n && is_in_unit all f i) 1 0) (firsts jobs)
      (λ f. times_has i (unit_at all f) (IsAscending-chosen (is_in_unit all f) 0 n) ∙ ap (λ b. cond {A = ℕ} b 1 0) (has-unit all f i))
      ∙ total-by_stamps (λ f. cond (nat_lt i n && is_in_unit all f i) 1 0) jobs [] (chosen (is_first all) 0 (length jobs))
      ∙ no_sum (λ f. cond (nat_lt i n && is_in_unit all f i) 1 0)
      (total (λ f. cond (nat_lt i n && is_in_unit all f i) 1 0) (chosen (is_first all) 0 (length jobs)))
      ∙ total-chosen (is_first all) (λ f. nat_lt i n && is_in_unit all f i) 0 (length jobs)
      ∙ elim (cases_lt i n) [
        | inl inside ↦
            let b = first_of all i in
            let long = length-map jobs (λ (j : Job). j.groups) in
            let low = b.low in
            passes_once (λ f. is_first all f && (nat_lt i n && is_in_unit all f i)) 0 (length jobs) b.at (omega arith)
            (omega (arith, low, inside, long))
            (and_from _ _ b.first (and_from _ _ (lt-ltb i n inside) b.unit))
            (λ f h. let p = and_parts (is_first all f) (nat_lt i n && is_in_unit all f i) h in
            one_first all f b.at i p.0 b.first (and_parts (nat_lt i n) (is_in_unit all f i) p.1).1 b.unit)
            ∙ ap (λ t. cond {A = ℕ} t 1 0) (sym (lt-ltb i n inside))
        | inr past ↦
            passes_none (λ f. is_first all f && (nat_lt i n && is_in_unit all f i)) 0 (length jobs)
            (λ f low. elim (cases_Bool (is_first all f && (nat_lt i n && is_in_unit all f i))) [
              | inl h ↦ absurd (both_ways _ (le-ltb i n past)
                  (and_parts (nat_lt i n) (is_in_unit all f i) (and_parts (is_first all f) (nat_lt i n && is_in_unit all f i) h).1).0)
              | inr e ↦ e
            ])
            ∙ ap (λ t. cond {A = ℕ} t 1 0) (sym (le-ltb i n past))
      ]

pub in_map : {X Y : Type 0} (f : X → Y) (xs : List X) (y : Y) → In y (map f xs) → (x : X) × In x xs × (y ≡ f x)
in_map f [] y h = absurd h
in_map f (x ∷ xs) y (inl e) = (x, inl refl, e)
in_map f (x ∷ xs) y (inr h) = let r = in_map f xs y h in (r.0, inr r.1, r.2)

pub units_are_units : (jobs : List Job) → StandTogether jobs → AreUnitsOf (groups_each jobs) (units jobs)
units_are_units jobs stand = record {
  each = λ unit there.
      let r = in_map (unit_at (groups_each jobs)) (firsts jobs) unit there in
      let low = firsts_inside jobs r.0 r.1 in
      let long = length-map jobs (λ (j : Job). j.groups) in
      subst (IsUnit (groups_each jobs)) (sym r.2) (is_unit jobs stand r.0 (omega (arith, low, long)));
  once = each_once jobs;
}
