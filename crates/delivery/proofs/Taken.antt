-- A ready request is taken out of the lists, and then its queues are counted anew, one after another.
use Rattle.std.proofs.Common.{◌≡◌, ◌≢◌, ℕ, ◌<◌, ◌||◌, Bool, true, false, cond, List, [], ◌∷◌, Some, None, drop, length, slice_index_or}
use Rattle.std.proofs.Common.{refl, sym, ap, ◌∙◌, subst, arith, inl, inr, eq-eqb, ne_eqb}
use Rattle.std.proofs.lemmas.Bool.{both_ways, cases_Bool, cases_eq, cases_lt}
use Rattle.std.proofs.lemmas.List.{get_or_past, length-map}
use Rattle.groups.specs.GroupSet.{has, IsAscending, IsGroupSet}
use Rattle.groups.specs.Order.{In}
use Rattle.groups.specs.Request.{same_id}
use Rattle.skeen_core.specs.Group.{Ascending}
use Rattle.groups.specs.declared.request.RequestId.{RequestId}
use Rattle.skeen_core.specs.declared.packet.Delivered.{Delivered}
use Rattle.groups.proofs.Ids.{ne-same_id}
use Rattle.groups.proofs.Stamps.{lt_irrefl}
use Rattle.delivery.specs.Ready.{QueueOf, IsReady, AreReady}
use Rattle.delivery.specs.Queues.{QueueView, queue_of, requests_of, IsSound}
use Rattle.delivery.specs.Taking.{popped}
use Rattle.delivery.specs.Heads.{head_of, is_named, headed, AreApart, ArePartly, AreCounted, but, without, counted}
use Rattle.delivery.specs.Heads.{ready_after, partly_after}
use Rattle.delivery.specs.declared.heads.Heading.{Heading}
use Rattle.delivery.proofs.Apart.{within, in_without, without_in}
use Rattle.delivery.proofs.Counting.{Comes, few_ready, few_partly, may_count, counted_after}
use Rattle.delivery.proofs.Headed.{has_once, has_rest, head_in, headed_same, ready_heads_all}
use Rattle.delivery.proofs.Layers.{first_same, in_queue}
use Rattle.delivery.proofs.Rows.{queue_at}
use Rattle.delivery.proofs.Sound.{sound_fewer}

abbrev id_of : Delivered → RequestId
id_of d = d.id

ascending_without : (i : RequestId) (ds : List Delivered) → Ascending ds → Ascending (without id_of i ds)
ascending_without i [] up = tt
ascending_without i (d ∷ ds) up = elim (same_id d.id i) as (λ b. Ascending (cond b ds (d ∷ without id_of i ds))) [
  | true ↦ up.1
  | false ↦ ((λ e k. up.0 e (within id_of i ds e k)), ascending_without i ds up.1)
]

-- ---- some queues are seen as empty

pub record Standing (queue : QueueOf) (groups : List ℕ) (m : ℕ) (e : Delivered) (rest : List Delivered) : Type 0 where
  pub outside : has groups m ≡ false
  pub is : queue m ≡ e ∷ rest

still_there : (queue : QueueOf) (groups : List ℕ) (m : ℕ) (e : Delivered) (rest : List Delivered) → but groups queue m ≡ e ∷ rest
    → Standing queue groups m e rest
still_there queue groups m e rest is = elim (has groups m) as (λ b. has groups m ≡ b → cond b [] (queue m) ≡ e ∷ rest
    → Standing queue groups m e rest) [
      | true ↦ λ h k. absurd (cc)
      | false ↦ λ h k. record { outside = h; is = k }
    ] refl is

but_inside : (queue : QueueOf) (groups : List ℕ) (m : ℕ) → has groups m ≡ true → but groups queue m ≡ []
but_inside queue groups m h = ap (λ b. cond b [] (queue m)) h

but_outside : (queue : QueueOf) (groups : List ℕ) (m : ℕ) → has groups m ≡ false → but groups queue m ≡ queue m
but_outside queue groups m h = ap (λ b. cond b [] (queue m)) h

-- ---- a request is taken out

module _ (queue : QueueOf) (d : Delivered) (sound : IsSound queue) (ready : IsReady queue d) (ds : List Delivered) (hs : List Heading)
    (a : AreCounted queue ds hs) where
  at_head : (m : ℕ) (e : Delivered) (rest : List Delivered) → has d.groups m ≡ true → queue m ≡ e ∷ rest → e ≡ d
  at_head m e rest h is = let w = ready.heads m h in first_same (queue m) rest w.0 e d is w.1

  the_same : (m : ℕ) (e : Delivered) → In e (queue m) → e.id ≡ d.id → e ≡ d
  the_same m e there same = sound.one_id m ready.somewhere.0 e d there (in_queue queue ready.somewhere.0 d ready ready.somewhere.1) same

  not_inside : (m : ℕ) (e : Delivered) (rest : List Delivered) → queue m ≡ e ∷ rest → e.id ≢ d.id → has d.groups m ≡ false
  not_inside m e rest is ne = elim (cases_Bool (has d.groups m)) [
    | inl h ↦ absurd (ne (ap id_of (at_head m e rest h is)))
    | inr h ↦ h
  ]

  others_heads : (e : Delivered) → e.id ≢ d.id → headed (but d.groups queue) e ≡ headed queue e
  others_heads e ne = headed_same queue (but d.groups queue) e.id e.groups (λ m k. elim (cases_Bool (has d.groups m)) [
    | inl h ↦ let w = ready.heads m h in
        ap (λ l. is_named (head_of l) e.id) (but_inside queue d.groups m h)
        ∙ sym (ap (λ l. is_named (head_of l) e.id) w.1 ∙ ne-same_id d.id e.id (λ s. ne (sym s)))
    | inr h ↦ ap (λ l. is_named (head_of l) e.id) (but_outside queue d.groups m h)
  ])

  apart_ready : (es : List Delivered) → Ascending es → ((e : Delivered) → In e es → IsReady queue e) → AreApart id_of es
  apart_ready [] up only = tt
  apart_ready (x ∷ xs) up only = (
    (λ y i same.
        let r = only y (inr i) in
        let s = only x (inl refl) in
        let it : y ≡ x = sound.one_id r.somewhere.0 s.somewhere.0 y x (in_queue queue r.somewhere.0 y r r.somewhere.1)
        (in_queue queue s.somewhere.0 x s s.somewhere.1) same in
        both_ways _ (lt_irrefl x.stamp) (up.0 x (subst (λ (z : Delivered). In z xs) it i))),
    apart_ready xs up.1 (λ e i. only e (inr i)),
  )

  others_ready : AreReady (but d.groups queue) (without id_of d.id ds)
  others_ready = record {
    ascending = ascending_without d.id ds a.ready.ascending;
    only = λ e i.
        let l = in_without id_of d.id ds e (apart_ready ds a.ready.ascending a.ready.only) i in
        let r = a.ready.only e l.there in
        record {
          somewhere = r.somewhere;
          heads = λ h inside.
              let w = r.heads h inside in
              (w.0, but_outside queue d.groups h (not_inside h e w.0 w.1 l.other) ∙ w.1);
        };
    all = λ e r.
        let before : IsReady queue e = record {
          somewhere = r.somewhere;
          heads = λ h inside. let w = r.heads h inside in (w.0, (still_there queue d.groups h e w.0 w.1).is);
        } in
        without_in id_of d.id ds e (a.ready.all e before) (λ same.
        let g = r.somewhere.0 in
        let it = the_same g e (in_queue queue g e before r.somewhere.1) same in
        let w = r.heads g r.somewhere.1 in
        both_ways _ (still_there queue d.groups g e w.0 w.1).outside
        (subst (λ (y : Delivered). has y.groups g ≡ true) it r.somewhere.1));
  }

  others_partly : ArePartly (but d.groups queue) hs
  others_partly = record {
    once = a.partly.once;
    only = λ h i.
        let w = a.partly.only h i in
        let p = w.1.somewhere in
        let ne : w.0.id ≢ d.id = λ s.
        let it = the_same p.0 w.0 (head_in (queue p.0) p.1 w.0 p.2) s in
        let less : headed queue d < length d.groups = subst (λ (y : Delivered). headed queue y < length y.groups) it w.1.not_all in
        let all = ready_heads_all queue d ready in
        absurd (omega arith) in
        let same = others_heads w.0 ne in (
          w.0,
          record {
            somewhere = (p.0, p.1, but_outside queue d.groups p.0 (not_inside p.0 w.0 p.1 p.2 ne) ∙ p.2);
            not_all = subst (λ k. k < length w.0.groups) (sym same) w.1.not_all;
          },
          w.2 ∙ ap (λ k. record { id = w.0.id; count = k }) (sym same),
        );
    all = λ e p.
        let s = p.somewhere in
        let t = still_there queue d.groups s.0 e s.1 s.2 in
        let there : In e (queue s.0) = head_in (queue s.0) s.1 e t.is in
        let ne : e.id ≢ d.id = λ same.
        both_ways _ t.outside (subst (λ (y : Delivered). has y.groups s.0 ≡ true) (the_same s.0 e there same)
        (sound.member s.0 e there)) in
        let same = others_heads e ne in
        subst (λ k. In (record { id = e.id; count = k }) hs) (sym same) (a.partly.all e (record {
          somewhere = (s.0, s.1, t.is);
          not_all = subst (λ k. k < length e.groups) same p.not_all;
        }));
  }

  pub taken_out : AreCounted (but d.groups queue) (without id_of d.id ds) hs
  taken_out = record { ready = others_ready; partly = others_partly }

-- ---- popped queues, seen as empty, are as they were, seen so
pub but_popped : (queue queue' : QueueOf) (d : Delivered) → ((g : ℕ) → queue' g ≡ popped d queue g)
    → but d.groups queue ≡ but d.groups queue'
but_popped queue queue' d is = λ k g. at g k
  where
    at : (g : ℕ) → but d.groups queue g ≡ but d.groups queue' g
    at g = elim (has d.groups g) as (λ b. queue' g ≡ cond b (drop 1 (queue g)) (queue g) → cond b [] (queue g) ≡ cond b [] (queue' g)) [
      | true ↦ λ e. refl
      | false ↦ λ e. sym e
    ] (is g)

-- ---- one queue after another is counted

module _ (queue : QueueOf) (it rest : List ℕ) (g : ℕ) (is : it ≡ g ∷ rest) where
  elsewhere : (h : ℕ) → h ≢ g → but rest queue h ≡ but it queue h
  elsewhere h ne = ap (λ b. cond b [] (queue h)) (sym (ap (λ l. has l h) is ∙ ap (λ b. b || has rest h) (ne_eqb g h (λ e. ne (sym e)))))

  first : has it g ≡ true
  first = ap (λ l. has l g) is ∙ ap (λ b. b || has rest g) (eq-eqb g g refl)

  -- an empty queue has nothing to count
  pub none_to_count : queue g ≡ [] → but it queue ≡ but rest queue
  none_to_count none = λ k h. at h k
    where
      here : but rest queue g ≡ []
      here = elim (has rest g) as (λ b. cond b [] (queue g) ≡ []) [ true ↦ refl | false ↦ none ]

      at : (h : ℕ) → but it queue h ≡ but rest queue h
      at h = elim (cases_eq h g) [
        | inl same ↦ subst (λ (j : ℕ). but it queue j ≡ but rest queue j) (sym same) (but_inside queue it g first ∙ sym here)
        | inr ne ↦ sym (elsewhere h ne)
      ]

  pub one_to_count : (n : ℕ) (e : Delivered) (behind : List Delivered) → IsAscending it → IsSound queue → g < n
      → ((h : ℕ) (x : Delivered) (r : List Delivered) → queue h ≡ x ∷ r → h < n)
      → queue g ≡ e ∷ behind → Comes n (but it queue) (but rest queue) g e
  one_to_count n e behind up sound low bound here = record {
    low = low;
    bound = λ h x r k. bound h x r (still_there queue it h x r k).is;
    was = but_inside queue it g first;
    rest = behind;
    now = but_outside queue rest g (has_once g rest (subst (λ l. IsAscending l) is up)) ∙ here;
    other = elsewhere;
    sound = sound_fewer queue (but rest queue) sound
        (λ h. elim (has rest h) as (λ b. Ascending (cond b [] (queue h))) [ true ↦ tt | false ↦ sound.ascending h ])
        (λ h x i. fewer h x (has rest h) i);
  }
    where
      fewer : (h : ℕ) (x : Delivered) (b : Bool) → In x (cond b [] (queue h)) → In x (queue h)
      fewer h x true i = absurd i
      fewer h x false i = i

-- beyond the last queue there is nothing
pub bounded : (qs : List (List Delivered)) (h : ℕ) (x : Delivered) (r : List Delivered) → queue_of qs h ≡ x ∷ r → h < length qs
bounded qs h x r e = elim (cases_lt h (length qs)) [
  | inl l ↦ l
  | inr m ↦ let none = get_or_past qs h [] m in absurd (cc)
]

-- ---- the next group's queue, as it is read

pub record Next (qs : List QueueView) (it rest : List ℕ) (g n : ℕ) (q : QueueView) : Type 0 where
  pub ascending : IsAscending it
  pub is : it ≡ g ∷ rest
  pub at : n ≡ g
  pub low : n < length qs
  pub was : q ≡ slice_index_or qs n q

pub headed_by : (q : List Delivered) (d : Delivered) → head_of q ≡ Some d → (rest : List Delivered) × (q ≡ d ∷ rest)
headed_by [] d h = absurd (cc)
headed_by (x ∷ xs) d h = let same : x ≡ d = cc in (xs, ap (λ y. y ∷ xs) same)

pub headless : (q : List Delivered) → head_of q ≡ None → q ≡ []
headless [] h = refl
headless (x ∷ xs) h = absurd (cc)

module _ (qs : List QueueView) (it rest : List ℕ) (g n : ℕ) (q : QueueView) (x : Next qs it rest g n q) where
  here : queue_of (requests_of qs) g ≡ q.requests
  here = ap (λ k. queue_of (requests_of qs) k) (sym x.at) ∙ queue_at qs n q x.low x.was

  pub next_up : IsAscending rest
  next_up = (subst (λ l. IsAscending l) x.is x.ascending).1

  pub next_within : (h : ℕ) → has rest h ≡ true → has it h ≡ true
  next_within h k = ap (λ l. has l h) x.is ∙ has_rest g h rest k

  pub next_comes : (d : Delivered) → IsSound (queue_of (requests_of qs)) → head_of q.requests ≡ Some d
      → Comes (length qs) (but it (queue_of (requests_of qs))) (but rest (queue_of (requests_of qs))) g d
  next_comes d sound head =
      let w = headed_by q.requests d head in
      one_to_count (queue_of (requests_of qs)) it rest g x.is (length qs) d w.0 x.ascending sound
      (subst (λ k. k < length qs) x.at x.low)
      (λ h e r k. let low = bounded (requests_of qs) h e r k in let long = length-map qs (λ (v : QueueView). v.requests) in omega arith)
      (here ∙ w.1)

  pub next_none : head_of q.requests ≡ None → but it (queue_of (requests_of qs)) ≡ but rest (queue_of (requests_of qs))
  next_none none = none_to_count (queue_of (requests_of qs)) it rest g x.is (here ∙ headless q.requests none)

  module _ (d : Delivered) (sound : IsSound (queue_of (requests_of qs))) (head : head_of q.requests ≡ Some d)
      (ds : List Delivered) (hs : List Heading) (a : AreCounted (but it (queue_of (requests_of qs))) ds hs) where
    pub next_ready_room : length ds < length qs
    next_ready_room = few_ready (length qs) (but it (queue_of (requests_of qs))) (but rest (queue_of (requests_of qs))) g d
        (next_comes d sound head) ds hs a

    pub next_partly_room : length hs < length qs
    next_partly_room = few_partly (length qs) (but it (queue_of (requests_of qs))) (but rest (queue_of (requests_of qs))) g d
        (next_comes d sound head) ds hs a

    pub next_not_all : counted hs d.id < length d.groups
    next_not_all = may_count (length qs) (but it (queue_of (requests_of qs))) (but rest (queue_of (requests_of qs))) g d
        (next_comes d sound head) ds hs a

    pub next_counted : IsGroupSet d.groups → AreCounted (but rest (queue_of (requests_of qs))) (ready_after hs d ds) (partly_after hs d)
    next_counted set = counted_after (length qs) (but it (queue_of (requests_of qs))) (but rest (queue_of (requests_of qs))) g d
        (next_comes d sound head) ds hs a set
