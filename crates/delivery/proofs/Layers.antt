-- Layers: popped in their order each request is ready when its turn comes, what that leaves, and their units.
use Rattle.std.proofs.Common.{◌≡◌, ℕ, true, false, cond, drop, List, [], ◌∷◌, ◌++◌, ◌⊎◌, ◌==◌, ◌||◌, refl, sym, ap, ◌∙◌, subst, inl, inr}
use Rattle.std.proofs.Common.{eqb-true, eq-eqb, append_assoc}
use Rattle.std.proofs.lemmas.Bool.{or_cases, both_ways, cases_Bool}
use Rattle.groups.specs.GroupSet.{has}
use Rattle.groups.specs.Order.{In}
use Rattle.groups.specs.Request.{same_id}
use Rattle.groups.specs.Stamp.{stamp_lt}
use Rattle.groups.specs.Units.{AreUnits}
use Rattle.skeen_core.specs.Group.{Ascending, has_id}
use Rattle.groups.specs.declared.request.RequestId.{RequestId}
use Rattle.groups.specs.declared.stamp.Stamp.{Stamp}
use Rattle.skeen_core.specs.declared.packet.Delivered.{Delivered}
use Rattle.groups.proofs.Ids.{same_id-true}
use Rattle.groups.proofs.Lists.{In-left, In-right}
use Rattle.groups.proofs.Stamps.{lt_irrefl, lt_asym}
use Rattle.skeen_core.proofs.Lawful.{id_there}
use Rattle.delivery.specs.Ready.{QueueOf, IsReady, IsLinedUp, IsLayer, left_in}
use Rattle.delivery.specs.Taking.{popped, popped_all, Poppable, LayersCanBePopped, PoppedIsLeft, LayersAreUnits}

never : (s : Stamp) → stamp_lt s s ≡ true → ⊥
never s h = both_ways _ (lt_irrefl s) h

asym : (s t : Stamp) → stamp_lt s t ≡ true → stamp_lt t s ≡ true → ⊥
asym s t h k = both_ways _ (lt_asym s t h) k

-- ---- lists

pub first_same : (q rest rest' : List Delivered) (d e : Delivered) → q ≡ d ∷ rest → q ≡ e ∷ rest' → d ≡ e
first_same q rest rest' d e h k = cc

-- a list cut at one of its elements
pub record Cut (xs : List Delivered) (x : Delivered) : Type 0 where
  pub front : List Delivered
  pub rest : List Delivered
  pub is : xs ≡ front ++ x ∷ rest
  pub before : (y : Delivered) → In y front → In y xs

pub cut : (xs : List Delivered) (x : Delivered) → In x xs → Cut xs x
cut [] x i = absurd i
cut (y ∷ ys) x (inl e) = record { front = []; rest = ys; is = ap (λ z. z ∷ ys) (sym e); before = λ z i. absurd i }
cut (y ∷ ys) x (inr i) =
    let c = cut ys x i in record {
      front = y ∷ c.front;
      rest = c.rest;
      is = ap (λ l. y ∷ l) c.is;
      before = λ z j. elim j [ inl e ↦ inl e | inr k ↦ inr (c.before z k) ];
    }

not_below_itself : (d : Delivered) (ds : List Delivered) → Ascending (d ∷ ds) → In d ds → ⊥
not_below_itself d ds up i = never d.stamp (up.0 d i)

one_group : (gs : List ℕ) (h g : ℕ) → gs ≡ h ∷ [] → has gs g ≡ true → h ≡ g
one_group gs h g e k = elim (or_cases (h == g) false (subst (λ l. has l g ≡ true) e k)) [
  | inl same ↦ eqb-true h g same
  | inr none ↦ absurd (both_ways _ refl none)
]

pub has_one : (gs : List ℕ) (g : ℕ) → gs ≡ g ∷ [] → has gs g ≡ true
has_one gs g e = subst (λ l. has l g ≡ true) (sym e) (ap (λ b. b || false) (eq-eqb g g refl))

pub in_queue : (queue : QueueOf) (g : ℕ) (d : Delivered) → IsReady queue d → has d.groups g ≡ true → In d (queue g)
in_queue queue g d r h = let a = r.heads g h in subst (λ l. In d l) (sym a.1) (inl refl)

-- ---- a request of a layer, in its queue

-- it stands in a queue
pub taken_somewhere : (queue : QueueOf) (d : Delivered) → IsReady queue d ⊎ IsLinedUp queue d
    → (g : ℕ) × (has d.groups g ≡ true) × In d (queue g)
taken_somewhere queue d (inl ready) =
    (ready.somewhere.0, ready.somewhere.1, in_queue queue ready.somewhere.0 d ready ready.somewhere.1)
taken_somewhere queue d (inr l) =
    (l.group, has_one d.groups l.group l.alone, subst (λ k. In d k) (sym l.stands) (In-right d l.front (d ∷ l.rest) (inl refl)))

abbrev Fits : QueueOf → List Delivered → Delivered → Type 0
Fits queue ds d = IsReady queue d ⊎ ((l : IsLinedUp queue d) × ((e : Delivered) → In e l.front → In e ds))

abbrev AllFit : QueueOf → List Delivered → Type 0
AllFit queue ds = (d : Delivered) → In d ds → Fits queue ds d

abbrev Rises : QueueOf → Type 0
Rises queue = (g : ℕ) → Ascending (queue g)

-- each that stands before a lined-up one is lined up too
lined_before : (queue : QueueOf) (d e : Delivered) (l : IsLinedUp queue d) → In e l.front → IsLinedUp queue e
lined_before queue d e l i =
    let c = cut l.front e i in record {
      group = l.group;
      alone = l.before e i;
      front = c.front;
      rest = c.rest ++ d ∷ l.rest;
      stands = l.stands ∙ ap (λ k. k ++ d ∷ l.rest) c.is ∙ append_assoc c.front (e ∷ c.rest) (d ∷ l.rest);
      before = λ x j. l.before x (c.before x j);
    }

layer_fits : (queue : QueueOf) (layer : List Delivered) → IsLayer queue layer → AllFit queue layer
layer_fits queue layer is d i = elim (is.only d i) [
  | inl ready ↦ inl ready
  | inr lined ↦ inr (lined, λ e j. is.all e (inr (lined_before queue d e lined j)))
]

-- in the queue of each of its groups only such stand before it as are in the layer too
pub record StandsAt (queue : QueueOf) (layer : List Delivered) (g : ℕ) (d : Delivered) : Type 0 where
  pub front : List Delivered
  pub rest : List Delivered
  pub stands : queue g ≡ front ++ d ∷ rest
  pub before : (e : Delivered) → In e front → In e layer

pub layer_stands : (queue : QueueOf) (layer : List Delivered) → IsLayer queue layer → (d : Delivered) → In d layer → (g : ℕ)
    → has d.groups g ≡ true → StandsAt queue layer g d
layer_stands queue layer is d i g h = elim (layer_fits queue layer is d i) [
  | inl ready ↦ let a = ready.heads g h in record { front = []; rest = a.0; stands = a.1; before = λ e none. absurd none }
  | inr (l, inside) ↦
      record {
        front = l.front;
        rest = l.rest;
        stands = ap queue (sym (one_group d.groups l.group g l.alone h)) ∙ l.stands;
        before = inside;
      }
]

-- ---- the first of them is ready

-- lined up with nothing before it
ready_in_front : (queue : QueueOf) (d : Delivered) (g : ℕ) (rest : List Delivered) → d.groups ≡ g ∷ [] → queue g ≡ d ∷ rest
    → IsReady queue d
ready_in_front queue d g rest alone stands = record {
  somewhere = (g, has_one d.groups g alone);
  heads = λ h inside. (rest, ap queue (sym (one_group d.groups g h alone inside)) ∙ stands);
}

-- the head of a queue where a request is lined up
pub record Leads (queue : QueueOf) (g : ℕ) : Type 0 where
  pub head : Delivered
  pub alone : head.groups ≡ g ∷ []
  pub ready : IsReady queue head

pub leads : (queue : QueueOf) (g : ℕ) (d : Delivered) (front rest : List Delivered) → d.groups ≡ g ∷ [] → queue g ≡ front ++ d ∷ rest
    → ((e : Delivered) → In e front → e.groups ≡ g ∷ []) → Leads queue g
leads queue g d [] rest alone stands before = record { head = d; alone = alone; ready = ready_in_front queue d g rest alone stands }
leads queue g d (f ∷ fs) rest alone stands before =
    let first = before f (inl refl) in
    record { head = f; alone = first; ready = ready_in_front queue f g (fs ++ d ∷ rest) first stands }

-- where one is lined up one is ready
pub one_is_ready : (queue : QueueOf) (d : Delivered) → IsReady queue d ⊎ IsLinedUp queue d → (e : Delivered) × IsReady queue e
one_is_ready queue d (inl ready) = (d, ready)
one_is_ready queue d (inr l) = let first = leads queue l.group d l.front l.rest l.alone l.stands l.before in (first.head, first.ready)

-- the first of a rising row is below each later one
row_first : (queue : QueueOf) (g : ℕ) (f x : Delivered) (fs : List Delivered) → Rises queue → queue g ≡ f ∷ fs → In x fs
    → stamp_lt f.stamp x.stamp ≡ true
row_first queue g f x fs rises is i = (subst (λ l. Ascending l) is (rises g)).0 x i

by_front : (queue : QueueOf) (d : Delivered) (ds : List Delivered) (g : ℕ) (front rest : List Delivered) → Rises queue → Ascending (d ∷ ds)
    → d.groups ≡ g ∷ [] → queue g ≡ front ++ d ∷ rest → ((e : Delivered) → In e front → In e (d ∷ ds)) → IsReady queue d
by_front queue d ds g [] rest rises up alone stands inside = ready_in_front queue d g rest alone stands
by_front queue d ds g (f ∷ fs) rest rises up alone stands inside =
    let below = row_first queue g f d (fs ++ d ∷ rest) rises stands (In-right d fs (d ∷ rest) (inl refl)) in
    absurd (elim (inside f (inl refl)) [
      | inl same ↦ never d.stamp (subst (λ (x : Delivered). stamp_lt x.stamp d.stamp ≡ true) same below)
      | inr there ↦ asym d.stamp f.stamp (up.0 f there) below
    ])

first_ready : (queue : QueueOf) (d : Delivered) (ds : List Delivered) → Rises queue → Ascending (d ∷ ds) → Fits queue (d ∷ ds) d
    → IsReady queue d
first_ready queue d ds rises up (inl ready) = ready
first_ready queue d ds rises up (inr (l, inside)) = by_front queue d ds l.group l.front l.rest rises up l.alone l.stands inside

-- ---- the others fit the queues that are left

popped_here : (queue : QueueOf) (d : Delivered) (g : ℕ) → has d.groups g ≡ true → popped d queue g ≡ drop 1 (queue g)
popped_here queue d g e = ap (λ b. cond b (drop 1 (queue g)) (queue g)) e

popped_elsewhere : (queue : QueueOf) (d : Delivered) (g : ℕ) → has d.groups g ≡ false → popped d queue g ≡ queue g
popped_elsewhere queue d g e = ap (λ b. cond b (drop 1 (queue g)) (queue g)) e

up_drop : (q : List Delivered) → Ascending q → Ascending (drop 1 q)
up_drop [] up = tt
up_drop (d ∷ ds) up = up.1

rises_popped : (queue : QueueOf) (d : Delivered) → Rises queue → Rises (popped d queue)
rises_popped queue d rises g = elim (cases_Bool (has d.groups g)) [
  | inl h ↦ subst (λ l. Ascending l) (sym (popped_here queue d g h)) (up_drop (queue g) (rises g))
  | inr h ↦ subst (λ l. Ascending l) (sym (popped_elsewhere queue d g h)) (rises g)
]

-- one that was among d and these, and isn't d
other : (d e : Delivered) (ds : List Delivered) → In e (d ∷ ds) → (d ≡ e → ⊥) → In e ds
other d e ds (inl same) differ = absurd (differ (sym same))
other d e ds (inr there) differ = there

in_front : (queue : QueueOf) (d e : Delivered) (ds : List Delivered) (g : ℕ) (front rest back : List Delivered) → Rises queue
    → (d ≡ e → ⊥) → e.groups ≡ g ∷ [] → queue g ≡ d ∷ back → has d.groups g ≡ true → queue g ≡ front ++ e ∷ rest
    → ((x : Delivered) → In x front → x.groups ≡ g ∷ []) → ((x : Delivered) → In x front → In x (d ∷ ds)) → Fits (popped d queue) ds e
in_front queue d e ds g [] rest back rises differ alone head here stands before inside =
    absurd (differ (first_same (queue g) back rest d e head stands))
in_front queue d e ds g (f ∷ fs) rest back rises differ alone head here stands before inside =
    let same : d ≡ f = first_same (queue g) back (fs ++ e ∷ rest) d f head stands in
    inr (
      record {
        group = g;
        alone = alone;
        front = fs;
        rest = rest;
        stands = popped_here queue d g here ∙ ap (drop 1) stands;
        before = λ x i. before x (inr i);
      },
      λ x i. other d x ds (inside x (inr i)) (λ it.
          let below = row_first queue g f x (fs ++ e ∷ rest) rises stands (In-left x fs (e ∷ rest) i) in
          never x.stamp (subst (λ (y : Delivered). stamp_lt y.stamp x.stamp ≡ true) (sym same ∙ it) below)),
    )

still_fits : (queue : QueueOf) (d e : Delivered) (ds : List Delivered) → Rises queue → IsReady queue d → (d ≡ e → ⊥) → Fits queue (d ∷ ds) e
    → Fits (popped d queue) ds e
still_fits queue d e ds rises first differ (inl ready) = inl (record {
  somewhere = ready.somewhere;
  heads = λ g inside. elim (cases_Bool (has d.groups g)) [
    | inl h ↦
        let a = first.heads g h in
        let b = ready.heads g inside in
        absurd (differ (first_same (queue g) a.0 b.0 d e a.1 b.1))
    | inr h ↦ let b = ready.heads g inside in (b.0, popped_elsewhere queue d g h ∙ b.1)
  ];
})
still_fits queue d e ds rises first differ (inr (l, inside)) = elim (cases_Bool (has d.groups l.group)) [
  | inl h ↦
      let a = first.heads l.group h in
      in_front queue d e ds l.group l.front l.rest a.0 rises differ l.alone a.1 h l.stands l.before inside
  | inr h ↦ inr (
    record {
      group = l.group;
      alone = l.alone;
      front = l.front;
      rest = l.rest;
      stands = popped_elsewhere queue d l.group h ∙ l.stands;
      before = l.before;
    },
    λ x i. other d x ds (inside x i) (λ it.
        both_ways (has x.groups l.group) (ap (λ (y : Delivered). has y.groups l.group) (sym it) ∙ h)
        (has_one x.groups l.group (l.before x i))),
  )
]

poppable : (ds : List Delivered) (queue : QueueOf) → Rises queue → Ascending ds → AllFit queue ds → Poppable queue ds
poppable [] queue rises up fit = tt
poppable (d ∷ ds) queue rises up fit =
    let ready = first_ready queue d ds rises up (fit d (inl refl)) in (
      ready,
      poppable ds (popped d queue) (rises_popped queue d rises) up.1 (λ e i.
          still_fits queue d e ds rises ready (λ same. not_below_itself d ds up (subst (λ x. In x ds) (sym same) i)) (fit e (inr i))),
    )

pub layers_can_be_popped : LayersCanBePopped
layers_can_be_popped queue layer sound is = poppable layer queue sound.ascending is.ascending (layer_fits queue layer is)

-- ---- what popping leaves

-- those that address the group
abbrev at_group : ℕ → List Delivered → List Delivered
at_group g [] = []
at_group g (d ∷ ds) = cond (has d.groups g) (d ∷ at_group g ds) (at_group g ds)

-- a queue is what is popped of it, and then what is left
popped_and_left : (ds : List Delivered) (queue : QueueOf) (g : ℕ) → Poppable queue ds → queue g ≡ at_group g ds ++ popped_all ds queue g
popped_and_left [] queue g p = refl
popped_and_left (d ∷ ds) queue g p = elim (has d.groups g)
    as (λ b. has d.groups g ≡ b → queue g ≡ cond b (d ∷ at_group g ds) (at_group g ds) ++ popped_all ds (popped d queue) g) [
      | true ↦ λ h.
          let a = p.0.heads g h in
          a.1 ∙ ap (λ l. d ∷ l) (sym (popped_here queue d g h ∙ ap (drop 1) a.1) ∙ popped_and_left ds (popped d queue) g p.1)
      | false ↦ λ h. sym (popped_elsewhere queue d g h) ∙ popped_and_left ds (popped d queue) g p.1
    ] refl

in_at_group : (ds : List Delivered) (g : ℕ) (d : Delivered) → In d ds → has d.groups g ≡ true → In d (at_group g ds)
in_at_group [] g d i h = absurd i
in_at_group (x ∷ xs) g d (inl same) h =
    subst (λ b. In d (cond b (x ∷ at_group g xs) (at_group g xs)))
    (sym (subst (λ (y : Delivered). has y.groups g ≡ true) same h)) (inl same)
in_at_group (x ∷ xs) g d (inr i) h = elim (has x.groups g) as (λ b. In d (cond b (x ∷ at_group g xs) (at_group g xs))) [
  | true ↦ inr (in_at_group xs g d i h)
  | false ↦ in_at_group xs g d i h
]

-- all of these are in the layer: nothing of them is left
none_left : (layer xs rest : List Delivered) → ((d : Delivered) → In d xs → has_id layer d.id ≡ true)
    → left_in layer (xs ++ rest) ≡ left_in layer rest
none_left layer [] rest all = refl
none_left layer (x ∷ xs) rest all =
    ap (λ b. cond b (left_in layer (xs ++ rest)) (x ∷ xs ++ rest)) (all x (inl refl)) ∙ none_left layer xs rest (λ d i. all d (inr i))

at_group_in : (ds : List Delivered) (g : ℕ) (d : Delivered) → In d (at_group g ds) → In d ds
at_group_in [] g d i = absurd i
at_group_in (x ∷ xs) g d i = elim (has x.groups g) as (λ b. In d (cond b (x ∷ at_group g xs) (at_group g xs)) → In d (x ∷ xs)) [
  | true ↦ λ j. elim j [ inl same ↦ inl same | inr k ↦ inr (at_group_in xs g d k) ]
  | false ↦ λ j. inr (at_group_in xs g d j)
] i

pub record Named (ds : List Delivered) (i : RequestId) : Type 0 where
  pub one : Delivered
  pub there : In one ds
  pub id : one.id ≡ i

named : (ds : List Delivered) (i : RequestId) → has_id ds i ≡ true → Named ds i
named [] i h = absurd (both_ways _ refl h)
named (d ∷ ds) i h = elim (or_cases (same_id d.id i) (has_id ds i) h) [
  | inl here ↦ record { one = d; there = inl refl; id = same_id-true d.id i here }
  | inr there ↦ let n = named ds i there in record { one = n.one; there = inr n.there; id = n.id }
]

-- no element stands in both parts of a rising row
once : (xs ys : List Delivered) (d : Delivered) → Ascending (xs ++ ys) → In d xs → In d ys → ⊥
once [] ys d up i j = absurd i
once (x ∷ xs) ys d up (inl same) j =
    never d.stamp (subst (λ (y : Delivered). stamp_lt y.stamp d.stamp ≡ true) (sym same) (up.0 d (In-right d xs ys j)))
once (x ∷ xs) ys d up (inr i) j = once xs ys d up.1 i j

pub popped_is_left : PoppedIsLeft
popped_is_left queue layer sound is g =
    sym (ap (left_in layer) split ∙ none_left layer (at_group g layer) left gone ∙ kept left refl)
  where
    left : List Delivered
    left = popped_all layer queue g

    split : queue g ≡ at_group g layer ++ left
    split = popped_and_left layer queue g (layers_can_be_popped queue layer sound is)

    gone : (d : Delivered) → In d (at_group g layer) → has_id layer d.id ≡ true
    gone d i = id_there layer d (at_group_in layer g d i)

    not_named : (x : Delivered) (xs : List Delivered) → left ≡ x ∷ xs → has_id layer x.id ≡ false
    not_named x xs e = elim (cases_Bool (has_id layer x.id)) [
      | inl h ↦
          let n = named layer x.id h in
          let behind : In x left = subst (λ l. In x l) (sym e) (inl refl) in
          let there : In x (queue g) = subst (λ l. In x l) (sym split) (In-right x (at_group g layer) left behind) in
          let home = taken_somewhere queue n.one (is.only n.one n.there) in
          let same : n.one ≡ x = sound.one_id home.0 g n.one x home.2 there n.id in
          let inside : In x (at_group g layer) =
          in_at_group layer g x (subst (λ y. In y layer) same n.there) (sound.member g x there) in
          absurd (once (at_group g layer) left x (subst (λ l. Ascending l) split (sound.ascending g)) inside behind)
      | inr h ↦ h
    ]

    kept : (l : List Delivered) → left ≡ l → left_in layer l ≡ l
    kept [] e = refl
    kept (x ∷ xs) e = ap (λ b. cond b (left_in layer xs) (x ∷ xs)) (not_named x xs e)

-- ---- units

-- what fits at a group heads its queue, or addresses it alone
abbrev Stands : QueueOf → ℕ → Delivered → Type 0
Stands queue g d = ((rest : List Delivered) × (queue g ≡ d ∷ rest))
    ⊎ ((front : List Delivered) × (rest : List Delivered) × (queue g ≡ front ++ d ∷ rest) × (d.groups ≡ g ∷ [])
    × ((e : Delivered) → In e front → e.groups ≡ g ∷ []))

stands : (queue : QueueOf) (d : Delivered) (g : ℕ) → IsReady queue d ⊎ IsLinedUp queue d → has d.groups g ≡ true → Stands queue g d
stands queue d g (inl ready) h = inl (ready.heads g h)
stands queue d g (inr l) h =
    let same : l.group ≡ g = one_group d.groups l.group g l.alone h in
    inr (
      l.front,
      l.rest,
      ap queue (sym same) ∙ l.stands,
      l.alone ∙ ap (λ k. k ∷ []) same,
      λ e i. l.before e i ∙ ap (λ k. k ∷ []) same,
    )

-- behind the head of a queue only one stands that addresses it alone, and so does the head
head_alone : (queue : QueueOf) (g : ℕ) (d e : Delivered) (back front rest : List Delivered) → (d ≡ e → ⊥) → queue g ≡ d ∷ back
    → queue g ≡ front ++ e ∷ rest → ((x : Delivered) → In x front → x.groups ≡ g ∷ []) → d.groups ≡ g ∷ []
head_alone queue g d e back [] rest differ head there before = absurd (differ (first_same (queue g) back rest d e head there))
head_alone queue g d e back (f ∷ fs) rest differ head there before =
    let same : d ≡ f = first_same (queue g) back (fs ++ e ∷ rest) d f head there in
    subst (λ (x : Delivered). x.groups ≡ g ∷ []) (sym same) (before f (inl refl))

both_alone : (queue : QueueOf) (g : ℕ) (d e : Delivered) → (d ≡ e → ⊥) → Stands queue g d → Stands queue g e
    → (d.groups ≡ g ∷ []) × (e.groups ≡ g ∷ [])
both_alone queue g d e differ (inl a) (inl b) = absurd (differ (first_same (queue g) a.0 b.0 d e a.1 b.1))
both_alone queue g d e differ (inl a) (inr b) = (head_alone queue g d e a.0 b.0 b.1 differ a.1 b.2 b.4, b.3)
both_alone queue g d e differ (inr a) (inl b) = (a.3, head_alone queue g e d b.0 a.0 a.1 (λ s. differ (sym s)) b.1 a.2 a.4)
both_alone queue g d e differ (inr a) (inr b) = (a.3, b.3)

are_units : (queue : QueueOf) (ds : List Delivered) → Ascending ds → ((d : Delivered) → In d ds → IsReady queue d ⊎ IsLinedUp queue d)
    → AreUnits (λ (d : Delivered). d.groups) (λ d. d.stamp) ds
are_units queue [] up only = tt
are_units queue (d ∷ ds) up only = (
  λ e i g h k.
      let differ : d ≡ e → ⊥ = λ same. not_below_itself d ds up (subst (λ x. In x ds) (sym same) i) in
      let both = both_alone queue g d e differ (stands queue d g (only d (inl refl)) h) (stands queue e g (only e (inr i)) k) in
      (both.0, both.1, up.0 e i),
  are_units queue ds up.1 (λ e i. only e (inr i)),
)

pub layers_are_units : LayersAreUnits
layers_are_units queue layer is = are_units queue layer is.ascending is.only
