-- The units of a layer share no group, and where each was run over its own shards, the layer was.
use Rattle.std.proofs.Common.{◌≡◌, ℕ, zero, suc, ◌+◌, ◌<◌, ◌≤◌, ◌==◌, ◌||◌, ◌&&◌, nat_lt, nat_eq, Bool, true, false, cond, List, [], ◌∷◌}
use Rattle.std.proofs.Common.{map, length}
use Rattle.std.proofs.Common.{Option, Some, slice_get, refl, sym, ap, ◌∙◌, subst, arith, inl, inr, eqb-true, eq-eqb}
use Rattle.std.proofs.Common.{lt-ltb}
use Rattle.std.proofs.lemmas.Bool.{cases_Bool, both_ways, and_parts, and_from, or_cases}
use Rattle.std.proofs.lemmas.List.{length-map}
use Rattle.std.specs.Cmp.Lexicographic.{pointwise, same_text}
use Rattle.std.specs.List.{concat}
use Rattle.groups.specs.GroupSet.{has, IsAscending, chosen}
use Rattle.groups.specs.GroupSetLaws.{has-chosen, IsAscending-chosen, same_sets}
use Rattle.groups.specs.Order.{In}
use Rattle.keyspace.specs.Map.{Map}
use Rattle.layer_planner.proofs.PartLaws.{times, times-append}
use Rattle.layer_planner.proofs.PartUnits.{one_more}
use Rattle.layer_planner.proofs.UnitLaws.{in_map}
use Rattle.layer_planner.specs.Units.{groups_at, IsUnit}
use Rattle.placement.specs.Layout.{Layout}
use Rattle.resp.specs.Content.{Content}
use Rattle.tasks.specs.Tasks.{Task, task_groups}
use Rattle.tasks.proofs.Groups.{IsAscending-task_groups}
use Rattle.shards.proofs.Layers.{groups_same}
use Rattle.shards.proofs.Spans.{numbers-SpanRan}
use Rattle.shards.specs.Joined.{map_of_shard, Span, numbers, span_at, SpanRan}
use Rattle.shards.specs.Layer.{MeetAlike, UnitRan, tasks_with, outcomes_with, LayerRan, Work, StandAt, AreWorksOf}

-- ---- places of a list

some_same : {X : Type 0} (x y : X) → Some x ≡ Some y → x ≡ y
some_same x y e = cc

pub record At {X : Type 0} (xs : List X) (x : X) : Type 0 where
  pub place : ℕ
  pub is : slice_get xs place ≡ Some x

pub at : {X : Type 0} (x : X) (xs : List X) → In x xs → At xs x
at x [] i = absurd i
at x (y ∷ xs) (inl e) = record { place = 0; is = ap (λ z. Some z) (sym e) }
at x (y ∷ xs) (inr i) = let r = at x xs i in record { place = suc r.place; is = r.is }

pub in_at : {X : Type 0} (xs : List X) (x : X) (i : ℕ) → slice_get xs i ≡ Some x → In x xs
in_at [] x i e = absurd (cc)
in_at (y ∷ xs) x zero e = inl (sym (some_same y x e))
in_at (y ∷ xs) x (suc i) e = inr (in_at xs x i e)

within : {X : Type 0} (xs : List X) (x : X) (i : ℕ) → slice_get xs i ≡ Some x → i < length xs
within [] x i e = absurd (cc)
within (y ∷ xs) x zero e = omega arith
within (y ∷ xs) x (suc i) e = let low = within xs x i e in omega (arith, low)

pub record Got {X : Type 0} (xs : List X) (i : ℕ) : Type 0 where
  pub thing : X
  pub is : slice_get xs i ≡ Some thing

got : {X : Type 0} (xs : List X) (i : ℕ) → i < length xs → Got xs i
got [] i h = absurd (omega (arith, h))
got (x ∷ xs) zero h = record { thing = x; is = refl }
got (x ∷ xs) (suc i) h = let r = got xs i (omega (arith, h)) in record { thing = r.thing; is = r.is }

groups_there : (table : Layout) (layer : List Task) (c : Task) (i : ℕ) → slice_get layer i ≡ Some c
    → groups_at (map (task_groups table) layer) i ≡ task_groups table c
groups_there table [] c i e = absurd (cc)
groups_there table (d ∷ ds) c zero e = ap (task_groups table) (some_same d c e)
groups_there table (d ∷ ds) c (suc i) e = groups_there table ds c i e

-- what stands at a place of a unit is one of its things
heads : {X : Type 0} (a b : Option X) (xs ys : List (Option X)) → a ∷ xs ≡ b ∷ ys → a ≡ b
heads a b xs ys e = cc

tails : {X : Type 0} (a b : Option X) (xs ys : List (Option X)) → a ∷ xs ≡ b ∷ ys → xs ≡ ys
tails a b xs ys e = cc

stand_in : {X : Type 0} (xs : List X) (places : List ℕ) (ys : List X) (i : ℕ) (x : X) → StandAt xs places ys → has places i ≡ true
    → slice_get xs i ≡ Some x → In x ys
stand_in xs [] ys i x s there e = absurd (both_ways _ refl there)
stand_in xs (p ∷ places) [] i x s there e = absurd (cc)
stand_in xs (p ∷ places) (y ∷ ys) i x s there e = elim (or_cases (p == i) (has places i) there) [
  | inl here ↦ inl (some_same x y (sym e ∙ ap (slice_get xs) (sym (eqb-true p i here)) ∙ heads (slice_get xs p) (Some y) _ _ s))
  | inr later ↦ inr (stand_in xs places ys i x (tails (slice_get xs p) (Some y) _ _ s) later e)
]

stand_got : {X : Type 0} (xs : List X) (places : List ℕ) (ys : List X) (i : ℕ) → StandAt xs places ys → has places i ≡ true → Got xs i
stand_got xs [] ys i s there = absurd (both_ways _ refl there)
stand_got xs (p ∷ places) [] i s there = absurd (cc)
stand_got xs (p ∷ places) (y ∷ ys) i s there = elim (or_cases (p == i) (has places i) there) [
  | inl here ↦ record { thing = y; is = ap (slice_get xs) (sym (eqb-true p i here)) ∙ heads (slice_get xs p) (Some y) _ _ s }
  | inr later ↦ stand_got xs places ys i (tails (slice_get xs p) (Some y) _ _ s) later
]

-- ---- how often a place stands in some units

has_times : (xs : List ℕ) (i : ℕ) → has xs i ≡ true → 0 < times i xs
has_times [] i h = absurd (both_ways _ refl h)
has_times (x ∷ xs) i h =
    let more = one_more i x xs in
    elim (or_cases (x == i) (has xs i) h) [
      | inl here ↦ let one : cond {A = ℕ} (x == i) 1 0 ≡ 1 = ap (λ b. cond {A = ℕ} b 1 0) here in omega (arith, more, one)
      | inr there ↦ let rest = has_times xs i there in omega (arith, more, rest)
    ]

times_has : (xs : List ℕ) (i : ℕ) → 0 < times i xs → has xs i ≡ true
times_has [] i h = absurd (omega (arith, h))
times_has (x ∷ xs) i h = elim (cases_Bool (x == i)) [
  | inl here ↦ ap (λ b. b || has xs i) here
  | inr away ↦
      let more = one_more i x xs in
      let none : cond {A = ℕ} (x == i) 1 0 ≡ 0 = ap (λ b. cond {A = ℕ} b 1 0) away in
      ap (λ b. b || has xs i) away ∙ times_has xs i (omega (arith, more, none, h))
]

pub record Holds (units : List (List ℕ)) (i : ℕ) : Type 0 where
  pub unit : List ℕ
  pub stands : In unit units
  pub there : has unit i ≡ true

holds : (units : List (List ℕ)) (i : ℕ) → 0 < times i (concat units) → Holds units i
holds [] i h = absurd (omega (arith, h))
holds (u ∷ us) i h = elim (cases_Bool (has u i)) [
  | inl here ↦ record { unit = u; stands = inl refl; there = here }
  | inr away ↦
      let both = times-append i u (concat us) in
      let none : times i u ≡ 0 = zero_of (times i u) (λ some. both_ways _ away (times_has u i some)) in
      let r = holds us i (omega (arith, both, none, h)) in
      record { unit = r.unit; stands = inr r.stands; there = r.there }
]
  where
    zero_of : (n : ℕ) → (0 < n → ⊥) → n ≡ 0
    zero_of zero f = refl
    zero_of (suc n) f = absurd (f (omega arith))

in_times : (units : List (List ℕ)) (unit : List ℕ) (i : ℕ) → In unit units → has unit i ≡ true → 0 < times i (concat units)
in_times [] unit i h there = absurd h
in_times (u ∷ us) unit i (inl e) there =
    let both = times-append i u (concat us) in
    let some = has_times u i (subst (λ v. has v i ≡ true) e there) in
    omega (arith, both, some)
in_times (u ∷ us) unit i (inr h) there =
    let both = times-append i u (concat us) in
    let some = in_times us unit i h there in
    omega (arith, both, some)

-- ---- the units share no group

-- no group is in the sets of two of them
abbrev pub PairsApart : {X : Type 0} → (X → List ℕ) → List X → Type 0
PairsApart groups [] = Unit {0}
PairsApart {X} groups (x ∷ xs) =
    ((y : X) → In y xs → (g : ℕ) → has (groups x) g ≡ true → has (groups y) g ≡ false) × PairsApart groups xs

In-map : {X Y : Type 0} (f : X → Y) (xs : List X) (x : X) → In x xs → In (f x) (map f xs)
In-map f [] x i = absurd i
In-map f (y ∷ xs) x (inl e) = inl (ap f e)
In-map f (y ∷ xs) x (inr i) = inr (In-map f xs x i)

abbrev places_each : List Work → List (List ℕ)
places_each works = map (λ w. w.places) works

module _ (table : Layout) (layer : List Task) where
  abbrev sets : List (List ℕ)
  sets = map (task_groups table) layer

  -- units of the layer, of which no place stands in two
  pub record SomeUnits (works : List Work) : Type 0 where
    pub each : (w : Work) → In w works → IsUnit sets w.places
    pub stand : (w : Work) → In w works → StandAt layer w.places w.tasks
    pub groups : (w : Work) (c : Task) → In w works → In c w.tasks → task_groups table c ≡ w.groups
    pub once : (i : ℕ) → times i (concat (places_each works)) ≤ 1

  pub all_units : (works : List Work) → AreWorksOf table layer works → SomeUnits works
  all_units works are = record {
    each = λ w i. are.units.each w.places (In-map (λ v. v.places) works w i);
    stand = are.stand;
    groups = are.groups;
    once = λ i. at_most (nat_lt i (length sets)) (times i (concat (places_each works))) (are.units.once i);
  }
    where
      at_most : (b : Bool) (n : ℕ) → n ≡ cond b 1 0 → n ≤ 1
      at_most true n e = omega (arith, e)
      at_most false n e = omega (arith, e)

  pub fewer : (w : Work) (ws : List Work) → SomeUnits (w ∷ ws) → SomeUnits ws
  fewer w ws some = record {
    each = λ v i. some.each v (inr i);
    stand = λ v i. some.stand v (inr i);
    groups = λ v c i. some.groups v c (inr i);
    once = λ i. let both = times-append i w.places (concat (places_each ws)) in let all = some.once i in omega (arith, both, all);
  }

  -- a task of a unit, and where it stands
  pub record OneOf (w : Work) : Type 0 where
    pub place : ℕ
    pub task : Task
    pub there : has w.places place ≡ true
    pub is : slice_get layer place ≡ Some task
    pub groups : task_groups table task ≡ w.groups

  first_place : (places : List ℕ) → 0 < length places → (i : ℕ) × (has places i ≡ true)
  first_place [] h = absurd (omega (arith, h))
  first_place (p ∷ places) h = (p, ap (λ b. b || has places p) (eq-eqb p p refl))

  one_at : (works : List Work) → SomeUnits works → (w : Work) → In w works → (i : ℕ) → has w.places i ≡ true → OneOf w
  one_at works some w m i there =
      let r = stand_got layer w.places w.tasks i (some.stand w m) there in
      record {
        place = i;
        task = r.thing;
        there = there;
        is = r.is;
        groups = some.groups w r.thing m (stand_in layer w.places w.tasks i r.thing (some.stand w m) there r.is);
      }

  pub one_of : (works : List Work) → SomeUnits works → (w : Work) → In w works → OneOf w
  one_of works some w m = let p = first_place w.places (some.each w m).some in one_at works some w m p.0 p.1

  its_groups : (works : List Work) (some : SomeUnits works) (w : Work) (m : In w works) (i : ℕ) → has w.places i ≡ true
      → groups_at sets i ≡ w.groups
  unfolding one_at
  its_groups works some w m i there = let r = one_at works some w m i there in groups_there table layer r.task i r.is ∙ r.groups

  pub works_apart : (works : List Work) → SomeUnits works → PairsApart (λ w. w.groups) works
  works_apart [] some = tt
  works_apart (w ∷ ws) some = (
    (λ v m g here. elim (cases_Bool (has v.groups g)) as (λ _. has v.groups g ≡ false) [
      | inl there ↦
          let a = one_of (w ∷ ws) some w (inl refl) in
          let b = one_of (w ∷ ws) some v (inr m) in
          let both = (some.each w (inl refl)).whole a.place b.place g a.there
          (ap (λ l. has l g) (its_groups (w ∷ ws) some w (inl refl) a.place a.there) ∙ here)
          (ap (λ l. has l g) (its_groups (w ∷ ws) some v (inr m) b.place b.there) ∙ there) in
          let first = has_times w.places b.place both in
          let second = in_times (places_each ws) v.places b.place (In-map (λ (x : Work). x.places) ws v m) b.there in
          let sum = times-append b.place w.places (concat (places_each ws)) in
          let all = some.once b.place in
          absurd (omega (arith, first, second, sum, all))
      | inr none ↦ none
    ]),
    works_apart ws (fewer w ws some),
  )

  pub ascending : (works : List Work) → SomeUnits works → (w : Work) → In w works → IsAscending w.groups
  ascending works some w m = let r = one_of works some w m in subst IsAscending r.groups (IsAscending-task_groups table r.task)

-- ---- what each unit did is what the layer's tasks with the same groups did

map_some : {X : Type 0} (xs ys : List X) → map (λ x. Some x) xs ≡ map Some ys → xs ≡ ys
map_some [] [] e = refl
map_some [] (y ∷ ys) e = absurd (cc)
map_some (x ∷ xs) [] e = absurd (cc)
map_some (x ∷ xs) (y ∷ ys) e =
    ap (λ z. z ∷ xs) (some_same x y (heads (Some x) (Some y) _ _ e)) ∙ ap (λ l. y ∷ l) (map_some xs ys (tails (Some x) (Some y) _ _ e))

same_tests : (a b : Bool) → (a ≡ true → b ≡ true) → (b ≡ true → a ≡ true) → a ≡ b
same_tests true b f g = sym (f refl)
same_tests false true f g = g refl
same_tests false false f g = refl

module _ (table : Layout) (gs : List ℕ) where
  -- the places from a on of those with just these groups
  abbrev has_just : Task → Bool
  has_just c = pointwise nat_eq (task_groups table c) gs

  commands_at : (f : ℕ → Option Task) (test : ℕ → Bool) (a : ℕ) (cs : List Task)
      → ((j : ℕ) → f (a + j) ≡ slice_get cs j) → ((j : ℕ) (c : Task) → slice_get cs j ≡ Some c → test (a + j) ≡ has_just c)
      → map f (chosen test a (length cs)) ≡ map (λ c. Some c) (tasks_with table gs cs)
  unfolding chosen
  commands_at f test a [] at tests = refl
  commands_at f test a (c ∷ cs) at tests =
      let z : a + 0 ≡ a = omega arith in
      let rest = commands_at f test (suc a) cs (λ j. let e : suc a + j ≡ a + suc j = omega arith in ap f e ∙ at (suc j))
      (λ j d is. let e : suc a + j ≡ a + suc j = omega arith in ap test e ∙ tests (suc j) d is) in
      let first : f a ≡ Some c = ap f (sym z) ∙ at 0 in
      ap (λ b. map f (cond b (a ∷ chosen test (suc a) (length cs)) (chosen test (suc a) (length cs)))) (ap test (sym z) ∙ tests 0 c refl)
      ∙ elim (has_just c) as (λ b. map f (cond b (a ∷ chosen test (suc a) (length cs)) (chosen test (suc a) (length cs)))
      ≡ map (λ c. Some c) (cond b (c ∷ tasks_with table gs cs) (tasks_with table gs cs))) [
        | true ↦ ap (λ o. o ∷ map f (chosen test (suc a) (length cs))) first ∙ ap (λ l. Some c ∷ l) rest
        | false ↦ rest
      ]

  outcomes_at : (f : ℕ → Option (Option Content)) (test : ℕ → Bool) (a : ℕ) (cs : List Task) (os : List (Option Content))
      → length os ≡ length cs
      → ((j : ℕ) → f (a + j) ≡ slice_get os j) → ((j : ℕ) (c : Task) → slice_get cs j ≡ Some c → test (a + j) ≡ has_just c)
      → map f (chosen test a (length cs)) ≡ map (λ o. Some o) (outcomes_with table gs cs os)
  unfolding chosen
  outcomes_at f test a [] [] long at tests = refl
  outcomes_at f test a [] (o ∷ os) long at tests = absurd (omega (arith, long))
  outcomes_at f test a (c ∷ cs) [] long at tests = absurd (omega (arith, long))
  outcomes_at f test a (c ∷ cs) (o ∷ os) long at tests =
      let z : a + 0 ≡ a = omega arith in
      let rest = outcomes_at f test (suc a) cs os (omega (arith, long))
      (λ j. let e : suc a + j ≡ a + suc j = omega arith in ap f e ∙ at (suc j))
      (λ j d is. let e : suc a + j ≡ a + suc j = omega arith in ap test e ∙ tests (suc j) d is) in
      let first : f a ≡ Some o = ap f (sym z) ∙ at 0 in
      ap (λ b. map f (cond b (a ∷ chosen test (suc a) (length cs)) (chosen test (suc a) (length cs)))) (ap test (sym z) ∙ tests 0 c refl)
      ∙ elim (has_just c) as (λ b. map f (cond b (a ∷ chosen test (suc a) (length cs)) (chosen test (suc a) (length cs)))
      ≡ map (λ o. Some o) (cond b (o ∷ outcomes_with table gs cs os) (outcomes_with table gs cs os))) [
        | true ↦ ap (λ p. p ∷ map f (chosen test (suc a) (length cs))) first ∙ ap (λ l. Some o ∷ l) rest
        | false ↦ rest
      ]

-- those that address no group, each over no shard
numbers_none : (span : Span) → numbers span ≡ [] → span ≡ []
numbers_none [] e = refl
numbers_none (s ∷ ss) e = absurd (cc)

none_of : (table : Layout) (layer : List Task) (outcomes : List (Option Content)) (places : List ℕ) (cs : List Task)
    (os : List (Option Content)) (after : Span) (k : ℕ) (c : Task) (o : Option Content) → StandAt layer places cs
    → StandAt outcomes places os
    → UnitRan table cs [] os after → has places k ≡ true → slice_get layer k ≡ Some c → slice_get outcomes k ≡ Some o
    → SpanRan table c [] o []
none_of table layer outcomes [] cs os after k c o s t ran there is_c is_o = absurd (both_ways _ refl there)
none_of table layer outcomes (p ∷ ps) [] os after k c o s t ran there is_c is_o = absurd (cc)
none_of table layer outcomes (p ∷ ps) (d ∷ ds) [] after k c o s t ran there is_c is_o = absurd ran
none_of table layer outcomes (p ∷ ps) (d ∷ ds) (q ∷ qs) after k c o s t ran there is_c is_o =
    let still = numbers_none ran.0 (numbers-SpanRan table d [] ran.0 q ran.1) in
    elim (or_cases (p == k) (has ps k) there) [
      | inl here ↦
          let e = eqb-true p k here in
          let same_c = some_same d c (sym (heads (slice_get layer p) (Some d) _ _ s) ∙ ap (slice_get layer) e ∙ is_c) in
          let same_o = some_same q o (sym (heads (slice_get outcomes p) (Some q) _ _ t) ∙ ap (slice_get outcomes) e ∙ is_o) in
          subst (λ x. SpanRan table x [] o []) same_c (subst (λ x. SpanRan table d [] x []) same_o
          (subst (SpanRan table d [] q) still ran.1))
      | inr later ↦ none_of table layer outcomes ps ds qs after k c o (tails (slice_get layer p) (Some d) _ _ s)
          (tails (slice_get outcomes p) (Some q) _ _ t) (subst (λ m. UnitRan table ds m qs after) still ran.2) later is_c is_o
    ]

none_ran : (table : Layout) (cs : List Task) (os : List (Option Content)) → length os ≡ length cs
    → ((k : ℕ) (c : Task) (o : Option Content) → slice_get cs k ≡ Some c → slice_get os k ≡ Some o → task_groups table c ≡ []
    → SpanRan table c [] o [])
    → UnitRan table (tasks_with table [] cs) [] (outcomes_with table [] cs os) []
none_ran table [] [] long each = refl
none_ran table [] (o ∷ os) long each = absurd (omega (arith, long))
none_ran table (c ∷ cs) [] long each = absurd (omega (arith, long))
none_ran table (c ∷ cs) (o ∷ os) long each =
    let rest = none_ran table cs os (omega (arith, long)) (λ k. each (suc k)) in
    elim (pointwise nat_eq (task_groups table c) []) as (λ b. pointwise nat_eq (task_groups table c) [] ≡ b
    → UnitRan table (cond b (c ∷ tasks_with table [] cs) (tasks_with table [] cs)) []
    (cond b (o ∷ outcomes_with table [] cs os) (outcomes_with table [] cs os)) []) [
      | true ↦ λ e. ([], each 0 c o refl refl (same_text (task_groups table c) [] (sym e)), rest)
      | false ↦ λ e. rest
    ] refl

-- between these rows the unit was run
pub record RanBetween (table : Layout) (outcomes : List (Option Content)) (old new : List Map) (w : Work) : Type 0 where
  pub answered : List (Option Content)
  pub ran : UnitRan table w.tasks (span_at old w.groups) answered (span_at new w.groups)
  pub stand : StandAt outcomes w.places answered

module _ (table : Layout) (layer : List Task) (outcomes : List (Option Content)) (old new : List Map) (works : List Work)
    (are : AreWorksOf table layer works) (long : length outcomes ≡ length layer)
    (ran : (w : Work) → In w works → RanBetween table outcomes old new w)
    (others : (shard : ℕ) → ((w : Work) → In w works → has w.groups shard ≡ false) → map_of_shard new shard ≡ map_of_shard old shard) where
  some : SomeUnits table layer works
  some = all_units table layer works are

  -- the unit in which a place stands
  record UnitOf (k : ℕ) : Type 0 where
    work : Work
    stands : In work works
    there : has work.places k ≡ true

  unit_of : (k : ℕ) → k < length layer → UnitOf k
  unit_of k low =
      let count = length-map layer (task_groups table) in
      let sum : times k (concat (places_each works)) ≡ 1 = are.units.once k
      ∙ ap (λ b. cond {A = ℕ} b 1 0) (lt-ltb k (length (map (task_groups table) layer)) (omega (arith, count, low))) in
      let h = holds (places_each works) k (omega (arith, sum)) in
      let r = in_map (λ w. w.places) works h.unit h.stands in
      record { work = r.0; stands = r.1; there = subst (λ u. has u k ≡ true) r.2 h.there }

  of_unit : (k : ℕ) (c : Task) → slice_get layer k ≡ Some c → UnitOf k
  of_unit k c is = unit_of k (within layer c k is)

  groups_are : (k : ℕ) (c : Task) → slice_get layer k ≡ Some c → (u : UnitOf k) → u.work.groups ≡ task_groups table c
  groups_are k c is u = sym (its_groups table layer works some u.work u.stands k u.there) ∙ groups_there table layer c k is

  -- where a group is addressed, its unit is all those with the same groups
  module _ (k : ℕ) (c : Task) (is : slice_get layer k ≡ Some c) (g : ℕ) (there : has (task_groups table c) g ≡ true) where
    gs : List ℕ
    gs = task_groups table c

    u : UnitOf k
    u = of_unit k c is

    test : ℕ → Bool
    test j = pointwise nat_eq (groups_at (map (task_groups table) layer) j) gs

    has_place : (j : ℕ) → has u.work.places j ≡ (nat_lt j (length layer) && test j)
    unfolding test gs
    has_place j = same_tests (has u.work.places j) (nat_lt j (length layer) && test j)
        (λ h. let r = one_at table layer works some u.work u.stands j h in
        and_from (nat_lt j (length layer)) (test j)
        (lt-ltb j (length layer) (let s = stand_got layer u.work.places u.work.tasks j (some.stand u.work u.stands) h in
        within layer s.thing j s.is))
        (subst (λ l. pointwise nat_eq l gs ≡ true)
        (sym (its_groups table layer works some u.work u.stands j h ∙ groups_are k c is u)) (groups_same gs)))
        (λ h. let same = same_text (groups_at (map (task_groups table) layer) j) gs
        (sym (and_parts (nat_lt j (length layer)) (test j) h).1) in
        (some.each u.work u.stands).whole k j g u.there
        (ap (λ l. has l g) (groups_there table layer c k is) ∙ there)
        (ap (λ l. has l g) same ∙ there))

    places_are : u.work.places ≡ chosen test 0 (length layer)
    places_are = same_sets u.work.places (chosen test 0 (length layer)) (some.each u.work u.stands).ascending
        (IsAscending-chosen test 0 (length layer)) (λ j. has_place j ∙ sym (has-chosen test (length layer) j))

    tests : (j : ℕ) (d : Task) → slice_get layer j ≡ Some d → test (0 + j) ≡ pointwise nat_eq (task_groups table d) gs
    unfolding test gs
    tests j d e = let z : 0 + j ≡ j = omega arith in
        ap test z ∙ ap (λ l. pointwise nat_eq l gs) (groups_there table layer d j e)

    commands_are : u.work.tasks ≡ tasks_with table gs layer
    commands_are = sym (map_some (tasks_with table gs layer) u.work.tasks
        (sym (commands_at table gs (slice_get layer) test 0 layer (λ j. let z : 0 + j ≡ j = omega arith in ap (slice_get layer) z) tests)
        ∙ ap (map (slice_get layer)) (sym places_are) ∙ some.stand u.work u.stands))

    outcomes_are : (ran u.work u.stands).answered ≡ outcomes_with table gs layer outcomes
    outcomes_are = sym (map_some (outcomes_with table gs layer outcomes) (ran u.work u.stands).answered
        (sym (outcomes_at table gs (slice_get outcomes) test 0 layer outcomes long
        (λ j. let z : 0 + j ≡ j = omega arith in ap (slice_get outcomes) z) tests)
        ∙ ap (map (slice_get outcomes)) (sym places_are) ∙ (ran u.work u.stands).stand))

    its_ran : UnitRan table (tasks_with table gs layer) (span_at old gs) (outcomes_with table gs layer outcomes) (span_at new gs)
    unfolding gs
    its_ran = subst (λ os. UnitRan table (tasks_with table gs layer) (span_at old gs) os (span_at new gs)) outcomes_are
        (subst (λ cs. UnitRan table cs (span_at old gs) (ran u.work u.stands).answered (span_at new gs)) commands_are
        (subst (λ hs. UnitRan table u.work.tasks (span_at old hs) (ran u.work u.stands).answered (span_at new hs)) (groups_are k c is u)
        (ran u.work u.stands).ran))

  each_none : UnitRan table (tasks_with table [] layer) [] (outcomes_with table [] layer outcomes) []
  each_none = none_ran table layer outcomes long (λ k c o is_c is_o none.
      let u = of_unit k c is_c in
      let r = ran u.work u.stands in
      none_of table layer outcomes u.work.places u.work.tasks r.answered (span_at new u.work.groups) k c o
      (some.stand u.work u.stands) r.stand
      (subst (λ hs. UnitRan table u.work.tasks (span_at old hs) r.answered (span_at new u.work.groups))
      (groups_are k c is_c u ∙ none) r.ran)
      u.there is_c is_o)

  pub layer_ran : LayerRan table old layer outcomes new
  unfolding gs
  layer_ran = record {
    as_many = long;
    each = λ c i. by_groups (task_groups table c) c i refl;
    others = λ shard away. others shard (λ w m.
        let r = one_of table layer works some w m in
        ap (λ l. has l shard) (sym r.groups) ∙ away r.task (in_at layer r.task r.place r.is));
  }
    where
      by_groups : (hs : List ℕ) (c : Task) → In c layer → task_groups table c ≡ hs
          → UnitRan table (tasks_with table (task_groups table c) layer) (span_at old (task_groups table c))
          (outcomes_with table (task_groups table c) layer outcomes) (span_at new (task_groups table c))
      by_groups [] c i e = subst (λ hs. UnitRan table (tasks_with table hs layer) (span_at old hs)
          (outcomes_with table hs layer outcomes) (span_at new hs)) (sym e) each_none
      by_groups (h ∷ hs) c i e =
          let p = at c layer i in
          its_ran p.place c p.is h (ap (λ l. has l h) e ∙ ap (λ b. b || has hs h) (eq-eqb h h refl))

  -- and so whoever shares a group has the same ones
  pub meet_alike : MeetAlike table layer
  meet_alike c d g i j here there =
      let p = at c layer i in
      let q = at d layer j in
      let u = of_unit p.place c p.is in
      let both = (some.each u.work u.stands).whole p.place q.place g u.there
      (ap (λ l. has l g) (groups_there table layer c p.place p.is) ∙ here)
      (ap (λ l. has l g) (groups_there table layer d q.place q.is) ∙ there) in
      sym (groups_are p.place c p.is u) ∙ sym (its_groups table layer works some u.work u.stands q.place both)
      ∙ groups_there table layer d q.place q.is
