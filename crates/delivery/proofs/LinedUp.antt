-- What is taken with the ready requests: those that are ready or lined up, each once; in order it is the layer.
use Rattle.std.proofs.Common.{◌≡◌, ◌≢◌, ℕ, suc, ◌+◌, ◌==◌, Bool, true, false, cond, List, [], ◌∷◌, ◌++◌, ◌⊎◌, length}
use Rattle.std.proofs.Common.{◌≤◌, length-append, slice_index_or, refl, sym, ap, ◌∙◌, subst, inl, inr, arith, eqb-true, eq-eqb}
use Rattle.std.proofs.Common.{append_assoc}
use Rattle.std.proofs.lemmas.Bool.{or_cases, both_ways, cases_Bool}
use Rattle.std.proofs.lemmas.List.Sums.{take_while-cons}
use Rattle.std.proofs.lemmas.List.Elements.{All-head, All-tail}
use Rattle.std.proofs.lemmas.List.Sorted.{All-permutation, IsPermutation-sym}
use Rattle.std.proofs.lemmas.Map.Keys.{IsDistinct-IsPermutation}
use Rattle.std.specs.List.{All, AllByRecursion, IsDistinct}
use Rattle.std.specs.List.Sorted.{IsPermutation, IsSortedByKey}
use Rattle.std.specs.Ordering.{is_lt}
use Rattle.groups.specs.GroupSet.{has}
use Rattle.groups.specs.Order.{In}
use Rattle.groups.specs.Request.{same_id}
use Rattle.groups.specs.Stamp.{stamp_lt}
use Rattle.skeen_core.specs.Group.{Ascending}
use Rattle.skeen_core.specs.Pending.{stamp_cmp}
use Rattle.groups.specs.declared.request.RequestId.{RequestId}
use Rattle.groups.specs.declared.stamp.Stamp.{Stamp}
use Rattle.skeen_core.specs.declared.packet.Delivered.{Delivered}
use Rattle.groups.proofs.Ids.{ne-same_id, same_id-sym, same_id-refl}
use Rattle.groups.proofs.Lists.{In-left, In-right, In-append, In-get}
use Rattle.groups.proofs.Stamps.{lt_irrefl, lt_trans, le_antisym}
use Rattle.skeen_core.proofs.Places.{lt_less}
use Rattle.delivery.specs.Ready.{QueueOf, IsReady, IsLinedUp, AreReady, IsLayer}
use Rattle.delivery.specs.Queues.{IsSound}
use Rattle.delivery.specs.Heads.{AreApart}
use Rattle.delivery.specs.Runs.{is_alone, run, run_at, run_of, runs_of}
use Rattle.delivery.proofs.Layers.{first_same, has_one, taken_somewhere, leads}

-- ---- the run of a queue

alone_at : (gs : List ℕ) (g : ℕ) → (length gs == 1) ≡ true → has gs g ≡ true → gs ≡ g ∷ []
alone_at [] g one h = absurd (both_ways _ refl h)
alone_at (x ∷ []) g one h = elim (or_cases (x == g) false h) [
  | inl same ↦ ap (λ k. k ∷ []) (eqb-true x g same)
  | inr none ↦ absurd (both_ways _ refl none)
]
alone_at (x ∷ y ∷ ys) g one h = let many = eqb-true (length (x ∷ y ∷ ys)) 1 one in absurd (omega arith)

one_alone : (gs : List ℕ) (g : ℕ) → gs ≡ g ∷ [] → (length gs == 1) ≡ true
one_alone gs g e = ap (λ l. length l == 1) e

pub record InRun (q : List Delivered) (x : Delivered) : Type 0 where
  pub front : List Delivered
  pub rest : List Delivered
  pub is : q ≡ front ++ x ∷ rest
  pub alone : is_alone x ≡ true
  pub before : (e : Delivered) → In e front → is_alone e ≡ true

in_run : (q : List Delivered) (x : Delivered) → In x (run q) → InRun q x
in_run [] x i = absurd i
in_run (y ∷ ys) x i = elim (is_alone y) as (λ b. is_alone y ≡ b → In x (cond b (y ∷ run ys) []) → InRun (y ∷ ys) x) [
  | true ↦ λ e. elim [
    | inl same ↦ record {
      front = [];
      rest = ys;
      is = ap (λ z. z ∷ ys) (sym same);
      alone = ap (λ (z : Delivered). is_alone z) same ∙ e;
      before = λ z none. absurd none;
    }
    | inr k ↦ let r = in_run ys x k in record {
      front = y ∷ r.front;
      rest = r.rest;
      is = ap (λ l. y ∷ l) r.is;
      alone = r.alone;
      before = λ z. elim [ inl same ↦ ap (λ (w : Delivered). is_alone w) same ∙ e | inr j ↦ r.before z j ];
    }
  ]
  | false ↦ λ e none. absurd none
] refl (subst (λ l. In x l) (take_while-cons is_alone y ys) i)

run_starts : (x : Delivered) (rest : List Delivered) → is_alone x ≡ true → run (x ∷ rest) ≡ x ∷ run rest
run_starts x rest e = take_while-cons is_alone x rest ∙ ap (λ b. cond b (x ∷ run rest) []) e

-- one more of a run is put behind
pub run_more : (done rest rest' all : List Delivered) (x : Delivered) → rest ≡ x ∷ rest' → length x.groups ≡ 1 → done ++ run rest ≡ all
    → (done ++ x ∷ []) ++ run rest' ≡ all
run_more done rest rest' all x is one before =
    append_assoc done (x ∷ []) (run rest')
    ∙ ap (λ l. done ++ l) (sym (run_starts x rest' (eq-eqb (length x.groups) 1 one)) ∙ ap run (sym is)) ∙ before

run_has : (front rest : List Delivered) (x : Delivered) → is_alone x ≡ true → ((e : Delivered) → In e front → is_alone e ≡ true)
    → In x (run (front ++ x ∷ rest))
run_has [] rest x alone before = subst (λ l. In x l) (sym (run_starts x rest alone)) (inl refl)
run_has (f ∷ fs) rest x alone before =
    subst (λ l. In x l) (sym (run_starts f (fs ++ x ∷ rest) (before f (inl refl))))
    (inr (run_has fs rest x alone (λ e i. before e (inr i))))

run_up : (q : List Delivered) → Ascending q → Ascending (run q)
run_up [] up = tt
run_up (x ∷ xs) up = subst (λ l. Ascending l) (sym (take_while-cons is_alone x xs))
    (elim (is_alone x) as (λ b. Ascending (cond b (x ∷ run xs) [])) [
      | true ↦ ((λ e i. up.0 e (run_in xs e i)), run_up xs up.1)
      | false ↦ tt
    ])
  where
    run_in : (ys : List Delivered) (e : Delivered) → In e (run ys) → In e ys
    run_in ys e i = let r = in_run ys e i in subst (λ l. In e l) (sym r.is) (In-right e r.front (e ∷ r.rest) (inl refl))

-- ---- what is taken with one

lone_or_not : (gs : List ℕ) → ((g : ℕ) × (gs ≡ g ∷ [])) ⊎ (length gs ≢ 1)
lone_or_not [] = inr (λ e. absurd (omega arith))
lone_or_not (g ∷ []) = inl (g, refl)
lone_or_not (g ∷ h ∷ gs) = inr (λ e. absurd (omega arith))

pub run_of_one : (queue : QueueOf) (d : Delivered) (g : ℕ) → d.groups ≡ g ∷ [] → run_of queue d ≡ run (queue g)
run_of_one queue d g e = ap (λ gs. run_at queue d gs) e

pub run_of_many : (queue : QueueOf) (d : Delivered) → length d.groups ≢ 1 → run_of queue d ≡ d ∷ []
run_of_many queue d = by_groups d.groups
  where
    by_groups : (gs : List ℕ) → length gs ≢ 1 → run_at queue d gs ≡ d ∷ []
    by_groups [] ne = refl
    by_groups (g ∷ []) ne = absurd (ne refl)
    by_groups (g ∷ h ∷ gs) ne = refl

-- a ready request is the first of what is taken with it
pub run_first : (queue : QueueOf) (d : Delivered) → IsReady queue d → (rest : List Delivered) × (run_of queue d ≡ d ∷ rest)
run_first queue d ready = elim (lone_or_not d.groups) [
  | inl one ↦
      let a = ready.heads one.0 (has_one d.groups one.0 one.1) in
      (run a.0, run_of_one queue d one.0 one.1 ∙ ap run a.1 ∙ run_starts d a.0 (one_alone d.groups one.0 one.1))
  | inr many ↦ ([], run_of_many queue d many)
]

-- what is taken with a ready request is it, or addresses the same group alone
pub record IsTaken (queue : QueueOf) (g : ℕ) (x : Delivered) : Type 0 where
  pub there : In x (queue g)
  pub alone : x.groups ≡ g ∷ []

module _ (queue : QueueOf) (sound : IsSound queue) where
  in_its_run : (g : ℕ) (x : Delivered) → In x (run (queue g)) → IsTaken queue g x
  in_its_run g x i =
      let r = in_run (queue g) x i in
      let there = subst (λ l. In x l) (sym r.is) (In-right x r.front (x ∷ r.rest) (inl refl)) in
      record { there = there; alone = alone_at x.groups g r.alone (sound.member g x there) }

  lined_up : (g : ℕ) (x : Delivered) → In x (run (queue g)) → IsLinedUp queue x
  lined_up g x i =
      let r = in_run (queue g) x i in
      record {
        group = g;
        alone = (in_its_run g x i).alone;
        front = r.front;
        rest = r.rest;
        stands = r.is;
        before = λ e j. alone_at e.groups g (r.before e j)
            (sound.member g e (subst (λ l. In e l) (sym r.is) (In-left e r.front (x ∷ r.rest) j)));
      }

  taken : (d x : Delivered) → IsReady queue d → In x (run_of queue d) → IsReady queue x ⊎ IsLinedUp queue x
  taken d x ready i = elim (lone_or_not d.groups) [
    | inl one ↦ inr (lined_up one.0 x (subst (λ l. In x l) (run_of_one queue d one.0 one.1) i))
    | inr many ↦ elim (subst (λ l. In x l) (run_of_many queue d many) i) [
      | inl same ↦ inl (subst (λ (y : Delivered). IsReady queue y) (sym same) ready)
      | inr none ↦ absurd none
    ]
  ]

  -- ---- all that are taken, and no others

  pub only_taken : (ds : List Delivered) (x : Delivered) → ((d : Delivered) → In d ds → IsReady queue d) → In x (runs_of queue ds)
      → IsReady queue x ⊎ IsLinedUp queue x
  only_taken [] x ready i = absurd i
  only_taken (d ∷ ds) x ready i = elim (In-append x (run_of queue d) (runs_of queue ds) i) [
    | inl here ↦ taken d x (ready d (inl refl)) here
    | inr there ↦ only_taken ds x (λ e j. ready e (inr j)) there
  ]

  in_runs : (ds : List Delivered) (d x : Delivered) → In d ds → In x (run_of queue d) → In x (runs_of queue ds)
  in_runs [] d x i j = absurd i
  in_runs (e ∷ es) d x (inl same) j =
      In-left x (run_of queue e) (runs_of queue es) (subst (λ (y : Delivered). In x (run_of queue y)) same j)
  in_runs (e ∷ es) d x (inr i) j = In-right x (run_of queue e) (runs_of queue es) (in_runs es d x i j)

  pub all_taken : (ds : List Delivered) (x : Delivered) → AreReady queue ds → IsReady queue x ⊎ IsLinedUp queue x → In x (runs_of queue ds)
  all_taken ds x are (inl ready) =
      let a = run_first queue x ready in in_runs ds x x (are.all x ready) (subst (λ l. In x l) (sym a.1) (inl refl))
  all_taken ds x are (inr l) =
      let first = leads queue l.group x l.front l.rest l.alone l.stands l.before in
      in_runs ds first.head x (are.all first.head first.ready)
      (subst (λ k. In x k) (sym (run_of_one queue first.head l.group first.alone ∙ ap run l.stands))
      (run_has l.front l.rest x (one_alone x.groups l.group l.alone) (λ e i. one_alone e.groups l.group (l.before e i))))

  -- ---- each once

  abbrev id_of : Delivered → RequestId
  id_of d = d.id

  apart_up : (xs : List Delivered) (g : ℕ) → Ascending xs → ((x : Delivered) → In x xs → In x (queue g)) → AreApart id_of xs
  apart_up [] g up inside = tt
  apart_up (x ∷ xs) g up inside = (
    (λ y i same.
        let it : y ≡ x = sound.one_id g g y x (inside y (inr i)) (inside x (inl refl)) same in
        both_ways _ (lt_irrefl x.stamp) (subst (λ (z : Delivered). stamp_lt x.stamp z.stamp ≡ true) it (up.0 y i))),
    apart_up xs g up.1 (λ y i. inside y (inr i)),
  )

  apart_append : (xs ys : List Delivered) → AreApart id_of xs → AreApart id_of ys
      → ((x y : Delivered) → In x xs → In y ys → y.id ≢ x.id) → AreApart id_of (xs ++ ys)
  apart_append [] ys a b other = b
  apart_append (x ∷ xs) ys a b other = (
    (λ y i. elim (In-append y xs ys i) [ inl j ↦ a.0 y j | inr j ↦ other x y (inl refl) j ]),
    apart_append xs ys a.1 b (λ z y i j. other z y (inr i) j),
  )

  apart_run : (d : Delivered) → AreApart id_of (run_of queue d)
  apart_run d = elim (lone_or_not d.groups) [
    | inl one ↦ subst (λ l. AreApart id_of l) (sym (run_of_one queue d one.0 one.1))
        (apart_up (run (queue one.0)) one.0 (run_up (queue one.0) (sound.ascending one.0)) (λ x i. (in_its_run one.0 x i).there))
    | inr many ↦ subst (λ l. AreApart id_of l) (sym (run_of_many queue d many)) ((λ y none. absurd none), tt)
  ]

  by_one : (x : Delivered) (gs : List ℕ) (g : ℕ) → x.groups ≡ g ∷ [] → x.groups ≡ gs → length gs ≢ 1 → ⊥
  by_one x gs g one same ne = ne (ap (λ l. length l) (sym same ∙ one))

  -- with one of the ready requests alone
  with_one : (d e x : Delivered) → IsReady queue d → IsReady queue e → In x (run_of queue d) → In x (run_of queue e) → d ≡ e
  with_one d e x r s i j = elim (lone_or_not d.groups) [
    | inl one ↦
        let a : IsTaken queue one.0 x = in_its_run one.0 x (subst (λ l. In x l) (run_of_one queue d one.0 one.1) i) in
        elim (lone_or_not e.groups) [
          | inl two ↦
              let b : IsTaken queue two.0 x = in_its_run two.0 x (subst (λ l. In x l) (run_of_one queue e two.0 two.1) j) in
              let same : e.groups ≡ one.0 ∷ [] = two.1 ∙ sym b.alone ∙ a.alone in
              let u = r.heads one.0 (has_one d.groups one.0 one.1) in
              let v = s.heads one.0 (has_one e.groups one.0 same) in
              first_same (queue one.0) u.0 v.0 d e u.1 v.1
          | inr many ↦ elim (subst (λ l. In x l) (run_of_many queue e many) j) [
            | inl is ↦ absurd (by_one x e.groups one.0 a.alone (ap (λ (y : Delivered). y.groups) is) many)
            | inr none ↦ absurd none
          ]
        ]
    | inr many ↦ elim (subst (λ l. In x l) (run_of_many queue d many) i) [
      | inl is ↦ elim (lone_or_not e.groups) [
        | inl two ↦
            let b : IsTaken queue two.0 x = in_its_run two.0 x (subst (λ l. In x l) (run_of_one queue e two.0 two.1) j) in
            absurd (by_one x d.groups two.0 b.alone (ap (λ (y : Delivered). y.groups) is) many)
        | inr many' ↦ elim (subst (λ l. In x l) (run_of_many queue e many') j) [
          | inl is' ↦ sym is ∙ is'
          | inr none ↦ absurd none
        ]
      ]
      | inr none ↦ absurd none
    ]
  ]

  from_runs : (ds : List Delivered) (x : Delivered) → In x (runs_of queue ds) → (d : Delivered) × In d ds × In x (run_of queue d)
  from_runs [] x i = absurd i
  from_runs (d ∷ ds) x i = elim (In-append x (run_of queue d) (runs_of queue ds) i) [
    | inl here ↦ (d, inl refl, here)
    | inr there ↦ let w = from_runs ds x there in (w.0, inr w.1, w.2)
  ]

  each_once : (ds : List Delivered) → Ascending ds → ((d : Delivered) → In d ds → IsReady queue d) → AreApart id_of (runs_of queue ds)
  each_once [] up ready = tt
  each_once (d ∷ ds) up ready =
      apart_append (run_of queue d) (runs_of queue ds) (apart_run d) (each_once ds up.1 (λ e i. ready e (inr i))) (λ x y i j same.
      let w = from_runs ds y j in
      let a = taken_somewhere queue x (taken d x (ready d (inl refl)) i) in
      let b = taken_somewhere queue y (taken w.0 y (ready w.0 (inr w.1)) w.2) in
      let it : y ≡ x = sound.one_id b.0 a.0 y x b.2 a.2 same in
      let one : d ≡ w.0 = with_one d w.0 x (ready d (inl refl)) (ready w.0 (inr w.1)) i
      (subst (λ (z : Delivered). In z (run_of queue w.0)) it w.2) in
      both_ways _ (lt_irrefl d.stamp) (up.0 d (subst (λ (z : Delivered). In z ds) (sym one) w.1)))

-- ---- in order

abbrev same_request : Delivered → Delivered → Bool
same_request d e = same_id d.id e.id

all_differ : (x : Delivered) (xs : List Delivered) → ((y : Delivered) → In y xs → y.id ≢ x.id)
    → AllByRecursion (λ y. same_request x y ≡ false) xs
all_differ x [] other = tt
all_differ x (y ∷ ys) other = (ne-same_id x.id y.id (λ e. other y (inl refl) (sym e)), all_differ x ys (λ z i. other z (inr i)))

distinct : (xs : List Delivered) → AreApart (λ (d : Delivered). d.id) xs → IsDistinct same_request xs
unfolding IsDistinct
distinct [] apart = tt
distinct (x ∷ xs) apart = (all_differ x xs apart.0, distinct xs apart.1)

first_differ : (x y : Delivered) (ys : List Delivered) → IsDistinct same_request (x ∷ y ∷ ys) → same_request x y ≡ false
unfolding IsDistinct
first_differ x y ys d = d.0.0

rest_distinct : (x : Delivered) (xs : List Delivered) → IsDistinct same_request (x ∷ xs) → IsDistinct same_request xs
unfolding IsDistinct
rest_distinct x xs d = d.1

in_all : (P : Delivered → Type 0) (xs : List Delivered) (x : Delivered) → All P xs → In x xs → P x
in_all P [] x all i = absurd i
in_all P (y ∷ ys) x all (inl same) = subst P (sym same) (All-head P y ys all)
in_all P (y ∷ ys) x all (inr i) = in_all P ys x (All-tail P y ys all) i

In-permutation : (xs ys : List Delivered) (x : Delivered) → IsPermutation xs ys → In x ys → In x xs
In-permutation xs ys x moved i =
    in_all (λ y. In y xs) ys x (All-permutation (λ y. In y xs) xs ys moved (λ k d low. In-get xs k d low)) i

abbrev Sorted : List Delivered → Type 0
Sorted xs = IsSortedByKey (λ (d : Delivered). d.stamp) stamp_cmp xs

rest_sorted : (x : Delivered) (xs : List Delivered) → Sorted (x ∷ xs) → Sorted xs
rest_sorted x xs up k d low high =
    let next : suc k + 1 ≡ suc (k + 1) = omega arith in
    subst (λ n. is_lt (stamp_cmp (slice_index_or (x ∷ xs) n d).stamp (slice_index_or xs k d).stamp) ≡ false) next
    (up (suc k) d (omega arith) (omega arith))

not_above : (s t : Stamp) → is_lt (stamp_cmp t s) ≡ false → stamp_lt t s ≡ false
not_above s t e = elim (cases_Bool (stamp_lt t s)) [
  | inl less ↦ absurd (both_ways _ e (ap is_lt (lt_less t s less)))
  | inr not_less ↦ not_less
]

first_sorted : (x y : Delivered) (ys : List Delivered) → Sorted (x ∷ y ∷ ys) → stamp_lt y.stamp x.stamp ≡ false
first_sorted x y ys up = not_above x.stamp y.stamp (up 0 x (omega arith) (omega arith))

up_sorted : (xs : List Delivered) → IsDistinct same_request xs → Sorted xs
    → ((x y : Delivered) → In x xs → In y xs → x.stamp ≡ y.stamp → x ≡ y) → Ascending xs
up_sorted [] once up single = tt
up_sorted (x ∷ []) once up single = ((λ e i. absurd i), tt)
up_sorted (x ∷ y ∷ ys) once up single =
    let rest : Ascending (y ∷ ys) =
    up_sorted (y ∷ ys) (rest_distinct x (y ∷ ys) once) (rest_sorted x (y ∷ ys) up) (λ a b i j. single a b (inr i) (inr j)) in
    let not_later = first_sorted x y ys up in
    let below : stamp_lt x.stamp y.stamp ≡ true = elim (cases_Bool (stamp_lt x.stamp y.stamp)) [
      | inl less ↦ less
      | inr not_less ↦
          let it : x ≡ y = single x y (inl refl) (inr (inl refl)) (le_antisym x.stamp y.stamp not_less not_later) in
          absurd (both_ways _ (first_differ x y ys once) (subst (λ (z : Delivered). same_request x z ≡ true) it (same_id-refl x.id)))
    ] in (
      λ e. elim [
        | inl same ↦ subst (λ (z : Delivered). stamp_lt x.stamp z.stamp ≡ true) (sym same) below
        | inr i ↦ lt_trans x.stamp y.stamp e.stamp below (rest.0 e i)
      ],
      rest,
    )

-- sorted, what is taken with the ready requests is the layer
pub sorted_layer : (queue : QueueOf) (ds layer : List Delivered) → IsSound queue → AreReady queue ds
    → IsPermutation (runs_of queue ds) layer → Sorted layer → IsLayer queue layer
sorted_layer queue ds layer sound are moved up = record { ascending = ascending; only = only; all = all }
  where
    only : (d : Delivered) → In d layer → IsReady queue d ⊎ IsLinedUp queue d
    only d i = only_taken queue sound ds d are.only (In-permutation (runs_of queue ds) layer d moved i)

    all : (d : Delivered) → IsReady queue d ⊎ IsLinedUp queue d → In d layer
    all d w =
        In-permutation layer (runs_of queue ds) d (IsPermutation-sym (runs_of queue ds) layer moved) (all_taken queue sound ds d are w)

    ascending : Ascending layer
    ascending =
        up_sorted layer
        (IsDistinct-IsPermutation same_request (λ x y. same_id-sym x.id y.id) (runs_of queue ds) layer moved
        (distinct (runs_of queue ds) (each_once queue sound ds are.ascending are.only))) up (λ x y i j same.
        let a = taken_somewhere queue x (only x i) in
        let b = taken_somewhere queue y (only y j) in
        sound.one_stamp a.0 b.0 x y a.2 b.2 same)

-- ---- where nothing is lined up behind a ready request

run_some : (queue : QueueOf) (d : Delivered) → IsReady queue d → 1 ≤ length (run_of queue d)
run_some queue d ready = let a = run_first queue d ready in let long = ap (λ l. length l) a.1 in omega arith

at_least : (queue : QueueOf) (ds : List Delivered) → ((d : Delivered) → In d ds → IsReady queue d) → length ds ≤ length (runs_of queue ds)
at_least queue [] ready = omega arith
at_least queue (d ∷ ds) ready =
    let one = run_some queue d (ready d (inl refl)) in
    let others = at_least queue ds (λ e i. ready e (inr i)) in
    let both = length-append (run_of queue d) (runs_of queue ds) in
    omega arith

one_only : (d : Delivered) (rest xs : List Delivered) → xs ≡ d ∷ rest → length xs ≤ 1 → xs ≡ d ∷ []
one_only d [] xs is few = is
one_only d (e ∷ es) xs is few = let long = ap (λ l. length l) is in absurd (omega arith)

no_more : (queue : QueueOf) (ds : List Delivered) → ((d : Delivered) → In d ds → IsReady queue d) → length (runs_of queue ds) ≡ length ds
    → runs_of queue ds ≡ ds
no_more queue [] ready same = refl
no_more queue (d ∷ ds) ready same =
    let a = run_first queue d (ready d (inl refl)) in
    let others = at_least queue ds (λ e i. ready e (inr i)) in
    let some = run_some queue d (ready d (inl refl)) in
    let both = length-append (run_of queue d) (runs_of queue ds) in
    let one : run_of queue d ≡ d ∷ [] = one_only d a.0 (run_of queue d) a.1 (omega arith) in
    ap (λ l. l ++ runs_of queue ds) one ∙ ap (λ l. d ∷ l) (no_more queue ds (λ e i. ready e (inr i)) (omega arith))

-- where no more are taken than are ready the ready ones are the layer
pub ready_layer : (queue : QueueOf) (ds : List Delivered) → IsSound queue → AreReady queue ds → length (runs_of queue ds) ≡ length ds
    → IsLayer queue ds
ready_layer queue ds sound are same =
    let is = no_more queue ds are.only same in record {
      ascending = are.ascending;
      only = λ d i. inl (are.only d i);
      all = λ d w. subst (λ l. In d l) is (all_taken queue sound ds d are w);
    }
