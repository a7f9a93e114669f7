-- One queue more has a request at its head: what both lists are then.
use Rattle.std.proofs.Common.{◌≡◌, ◌≢◌, ℕ, suc, ◌+◌, ◌<◌, ◌≤◌, ◌⊎◌, true, false, cond, List, [], ◌∷◌, ◌++◌, length}
use Rattle.std.proofs.Common.{refl, sym, ap, ◌∙◌, subst, arith, inl, inr, eqb-true, eq-eqb}
use Rattle.std.proofs.lemmas.Bool.{both_ways, cases_Bool, cases_eq, cases_lt}
use Rattle.std.proofs.lemmas.List.{get_or_past}
use Rattle.groups.specs.GroupSet.{has, IsGroupSet}
use Rattle.groups.specs.Order.{In}
use Rattle.groups.specs.Request.{same_id}
use Rattle.skeen_core.specs.Group.{Ascending}
use Rattle.groups.specs.declared.request.RequestId.{RequestId}
use Rattle.skeen_core.specs.declared.packet.Delivered.{Delivered}
use Rattle.groups.proofs.Ids.{same_id-true, same_id-refl, ne-same_id}
use Rattle.groups.proofs.Lists.{In-left, In-last, In-end}
use Rattle.groups.proofs.Stamps.{lt_irrefl}
use Rattle.delivery.specs.Ready.{QueueOf, IsReady, AreReady}
use Rattle.delivery.specs.Queues.{queue_of, IsSound}
use Rattle.delivery.specs.Heads.{head_of, is_named, headed, IsPartly, AreApart, heading_of, ArePartly, AreCounted}
use Rattle.delivery.specs.Heads.{placed, without, counted, has_all, ready_after, partly_after}
use Rattle.delivery.specs.declared.heads.Heading.{Heading}
use Rattle.delivery.proofs.Apart.{in_without, without_in, apart_without, apart_end, counted_none, counted_there}
use Rattle.delivery.proofs.Few.{NoneTwice, fewer}
use Rattle.delivery.proofs.Headed.{starts_with, named_head, head_in, unnamed, headed_le, headed_lt, headed_pos, heads_one}
use Rattle.delivery.proofs.Headed.{headed_same, headed_more, ready_heads_all, heads_all_ready}
use Rattle.delivery.proofs.Layers.{first_same}
use Rattle.delivery.proofs.Placed.{in_placed, placed_in, placed_up}

-- the request is at the head of a queue that was empty; the others are as they were, and the last of them is below n
pub record Comes (n : ℕ) (queue queue' : QueueOf) (g : ℕ) (d : Delivered) : Type 0 where
  pub low : g < n
  pub bound : (h : ℕ) (e : Delivered) (rest : List Delivered) → queue h ≡ e ∷ rest → h < n
  pub was : queue g ≡ []
  pub rest : List Delivered
  pub now : queue' g ≡ d ∷ rest
  pub other : (h : ℕ) → h ≢ g → queue' h ≡ queue h
  pub sound : IsSound queue'

once_ascending : (ds : List Delivered) → Ascending ds → NoneTwice ds
once_ascending [] up = tt
once_ascending (d ∷ ds) up = ((λ i. both_ways _ (lt_irrefl d.stamp) (up.0 d i)), once_ascending ds up.1)

once_apart : (hs : List Heading) → AreApart (λ (h : Heading). h.id) hs → NoneTwice hs
once_apart [] apart = tt
once_apart (h ∷ hs) apart = ((λ i. apart.0 h i refl), once_apart hs apart.1)

none_first : (q rest : List Delivered) (d : Delivered) → q ≡ [] → q ≡ d ∷ rest → ⊥
none_first q rest d h k = absurd (cc)

abbrev HeadsAt : QueueOf → ℕ → Delivered → Type 0
HeadsAt queue m e = (rest : List Delivered) × (queue m ≡ e ∷ rest)

-- the entry of the request at the head there
abbrev CountedAt : QueueOf → ℕ → Heading → Type 0
CountedAt queue m h = (e : Delivered) × (rest : List Delivered) × (queue m ≡ e ∷ rest) × (h ≡ heading_of queue e)

module _ (n : ℕ) (queue queue' : QueueOf) (g : ℕ) (d : Delivered) (c : Comes n queue queue' g d)
    (ds : List Delivered) (hs : List Heading) (a : AreCounted queue ds hs) where
  -- ---- there is room

  elsewhere : (m : ℕ) (e : Delivered) (rest : List Delivered) → queue m ≡ e ∷ rest → m ≢ g
  elsewhere m e rest is at = none_first (queue g) rest e c.was (subst (λ (k : ℕ). queue k ≡ e ∷ rest) at is)

  pub few_ready : length ds < n
  few_ready = fewer (HeadsAt queue) (λ m x y i j. first_same (queue m) i.0 j.0 x y i.1 j.1) ds n g
      (once_ascending ds a.ready.ascending) c.low
      (λ e i. let r = a.ready.only e i in (r.somewhere.0, r.heads r.somewhere.0 r.somewhere.1))
      (λ m e at. (c.bound m e at.0 at.1, elsewhere m e at.0 at.1))

  pub few_partly : length hs < n
  few_partly = fewer (CountedAt queue)
      (λ m x y i j. i.3 ∙ ap (heading_of queue) (first_same (queue m) i.1 j.1 i.0 j.0 i.2 j.2) ∙ sym j.3)
      hs n g (once_apart hs a.partly.once) c.low
      (λ h i. let w = a.partly.only h i in let s = w.1.somewhere in (s.0, (w.0, s.1, s.2, w.2)))
      (λ m h at. (c.bound m at.0 at.1 at.2, elsewhere m at.0 at.1 at.2))

  -- ---- the other requests

  kept : (m : ℕ) (e : Delivered) (rest : List Delivered) → queue m ≡ e ∷ rest → queue' m ≡ e ∷ rest
  kept m e rest is = c.other m (elsewhere m e rest is) ∙ is

  there : In d (queue' g)
  there = head_in (queue' g) c.rest d c.now

  -- a head of that id is the request
  the_same : (m : ℕ) (e : Delivered) (rest : List Delivered) → queue' m ≡ e ∷ rest → e.id ≡ d.id → e ≡ d
  the_same m e rest is same = c.sound.one_id m g e d (head_in (queue' m) rest e is) there same

  member : has d.groups g ≡ true
  member = c.sound.member g d there

  others_heads : (e : Delivered) → e.id ≢ d.id → headed queue' e ≡ headed queue e
  others_heads e ne = headed_same queue queue' e.id e.groups (λ h inside. elim (cases_eq h g) [
    | inl at ↦ subst (λ (k : ℕ). is_named (head_of (queue' k)) e.id ≡ is_named (head_of (queue k)) e.id) (sym at)
        (ap (λ l. is_named (head_of l) e.id) c.now ∙ ne-same_id d.id e.id (λ s. ne (sym s)) ∙ sym (unnamed (queue g) e.id c.was))
    | inr other ↦ ap (λ l. is_named (head_of l) e.id) (c.other h other)
  ])

  stays_ready : (e : Delivered) → IsReady queue e → IsReady queue' e
  stays_ready e r = record { somewhere = r.somewhere; heads = λ h inside. let w = r.heads h inside in (w.0, kept h e w.0 w.1) }

  was_ready : (e : Delivered) → IsReady queue' e → (e ≡ d) ⊎ IsReady queue e
  was_ready e r = elim (cases_Bool (has e.groups g)) [
    | inl inside ↦ let w = r.heads g inside in inl (first_same (queue' g) w.0 c.rest e d w.1 c.now)
    | inr outside ↦ inr (record {
      somewhere = r.somewhere;
      heads = λ h inside.
          let ne : h ≢ g = λ at. both_ways _ outside (subst (λ (k : ℕ). has e.groups k ≡ true) at inside) in
          let w = r.heads h inside in (w.0, sym (c.other h ne) ∙ w.1);
    })
  ]

  -- the request was not ready
  not_ready : IsReady queue d → ⊥
  not_ready r = let w = r.heads g member in none_first (queue g) w.0 d c.was w.1

  -- ---- its count

  pub not_all : headed queue d < length d.groups
  not_all = headed_lt queue d.id d.groups g member (unnamed (queue g) d.id c.was)

  -- in a list of those that head some and not all
  pub count_is : counted hs d.id ≡ headed queue d
  count_is = elim (cases_lt 0 (headed queue d)) [
    | inl some ↦
        let one = heads_one queue d.id d.groups some in
        let s = starts_with (queue one.group) d.id one.head in
        let same : s.one ≡ d = the_same one.group s.one s.rest (kept one.group s.one s.rest s.is) s.id in
        let entry : In (heading_of queue d) hs = a.partly.all d (record {
          somewhere = (one.group, s.rest, s.is ∙ ap (λ y. y ∷ s.rest) same);
          not_all = not_all;
        }) in
        counted_there hs (heading_of queue d) a.partly.once entry
    | inr none ↦ counted_none hs d.id (λ h i same.
        let w = a.partly.only h i in
        let p = w.1.somewhere in
        let it : w.0 ≡ d = the_same p.0 w.0 p.1 (kept p.0 w.0 p.1 p.2) (sym (ap (λ (k : Heading). k.id) w.2) ∙ same) in
        let here : queue p.0 ≡ d ∷ p.1 = p.2 ∙ ap (λ y. y ∷ p.1) it in
        let inside : has d.groups p.0 ≡ true = c.sound.member p.0 d (head_in (queue' p.0) p.1 d (kept p.0 d p.1 here)) in
        let some = headed_pos queue d.id d.groups p.0 inside (named_head (queue p.0) p.1 d here) in
        absurd (omega arith)) ∙ zero_is none
  ]
    where
      zero_is : headed queue d ≤ 0 → 0 ≡ headed queue d
      zero_is h = omega arith

  pub may_count : counted hs d.id < length d.groups
  may_count = let less = not_all in let is = count_is in omega arith

  module _ (set : IsGroupSet d.groups) where
    one_more : headed queue' d ≡ counted hs d.id + 1
    one_more =
        let up = headed_more queue queue' d.id d.groups g set.ascending member (unnamed (queue g) d.id c.was)
        (named_head (queue' g) c.rest d c.now) (λ h ne. ap (λ l. is_named (head_of l) d.id) (c.other h ne)) in
        let is = count_is in
        omega arith

    -- ---- the ready ones

    ready_all : headed queue' d ≡ length d.groups → AreReady queue' (placed d ds)
    ready_all all = record {
      ascending = placed_up d ds a.ready.ascending (λ e i same.
          let r = a.ready.only e i in
          let w = r.heads r.somewhere.0 r.somewhere.1 in
          let it : e ≡ d = c.sound.one_stamp r.somewhere.0 g e d
          (head_in (queue' r.somewhere.0) w.0 e (kept r.somewhere.0 e w.0 w.1)) there same in
          not_ready (subst (λ (y : Delivered). IsReady queue y) it r));
      only = λ e i. elim (in_placed d e ds i) [
        | inl same ↦ subst (λ (y : Delivered). IsReady queue' y) (sym same) (heads_all_ready queue' g d c.sound there all)
        | inr j ↦ stays_ready e (a.ready.only e j)
      ];
      all = λ e r. placed_in d e ds (elim (was_ready e r) [ inl same ↦ inl same | inr before ↦ inr (a.ready.all e before) ]);
    }

    ready_not : headed queue' d ≢ length d.groups → AreReady queue' ds
    ready_not not = record {
      ascending = a.ready.ascending;
      only = λ e i. stays_ready e (a.ready.only e i);
      all = λ e r. elim (was_ready e r) [
        | inl same ↦ absurd (not (ready_heads_all queue' d (subst (λ (y : Delivered). IsReady queue' y) same r)))
        | inr before ↦ a.ready.all e before
      ];
    }

    -- ---- the others

    abbrev id_of : Heading → RequestId
    id_of h = h.id

    from_before : (h : Heading) → In h (without id_of d.id hs) → (e : Delivered) × IsPartly queue' e × (h ≡ heading_of queue' e)
    from_before h i =
        let l = in_without id_of d.id hs h a.partly.once i in
        let w = a.partly.only h l.there in
        let p = w.1.somewhere in
        let ne : w.0.id ≢ d.id = λ s. l.other (ap id_of w.2 ∙ s) in
        let same = others_heads w.0 ne in (
          w.0,
          record {
            somewhere = (p.0, p.1, kept p.0 w.0 p.1 p.2);
            not_all = subst (λ k. k < length w.0.groups) (sym same) w.1.not_all;
          },
          w.2 ∙ ap (λ k. record { id = w.0.id; count = k }) (sym same),
        )

    still : (e : Delivered) → IsPartly queue' e → e.id ≢ d.id → In (heading_of queue' e) (without id_of d.id hs)
    still e p ne =
        let s = p.somewhere in
        let away : s.0 ≢ g = λ at. ne (ap (λ (y : Delivered). y.id)
        (first_same (queue' g) s.1 c.rest e d (subst (λ (k : ℕ). queue' k ≡ e ∷ s.1) at s.2) c.now)) in
        let same = others_heads e ne in
        let before : IsPartly queue e = record {
          somewhere = (s.0, s.1, sym (c.other s.0 away) ∙ s.2);
          not_all = subst (λ k. k < length e.groups) same p.not_all;
        } in
        without_in id_of d.id hs (heading_of queue' e)
        (subst (λ k. In (record { id = e.id; count = k }) hs) (sym same) (a.partly.all e before)) ne

    -- a request that heads some of its queues is another, or this one
    which : (e : Delivered) → IsPartly queue' e → (e ≡ d) ⊎ (e.id ≢ d.id)
    which e p = elim (cases_Bool (same_id e.id d.id)) [
      | inl same ↦ let s = p.somewhere in inl (the_same s.0 e s.1 s.2 (same_id-true e.id d.id same))
      | inr differ ↦ inr (λ s. both_ways _ differ (subst (λ (i : RequestId). same_id e.id i ≡ true) s (same_id-refl e.id)))
    ]

    partly_all : headed queue' d ≡ length d.groups → ArePartly queue' (without id_of d.id hs)
    partly_all all = record {
      once = apart_without id_of d.id hs a.partly.once;
      only = from_before;
      all = λ e p. elim (which e p) [
        | inl same ↦
            let less : headed queue' d < length d.groups = subst (λ (y : Delivered). headed queue' y < length y.groups) same p.not_all in
            absurd (omega arith)
        | inr ne ↦ still e p ne
      ];
    }

    partly_more : headed queue' d ≢ length d.groups → ArePartly queue' (without id_of d.id hs ++ heading_of queue' d ∷ [])
    partly_more not = record {
      once = apart_end id_of (without id_of d.id hs) (heading_of queue' d) (apart_without id_of d.id hs a.partly.once)
          (λ h i. (in_without id_of d.id hs h a.partly.once i).other);
      only = λ h i. elim (In-end h (heading_of queue' d) (without id_of d.id hs) i) [
        | inl before ↦ from_before h before
        | inr same ↦ (
          d,
          record {
            somewhere = (g, c.rest, c.now);
            not_all = let most = headed_le queue' d.id d.groups in omega (arith, not);
          },
          same,
        )
      ];
      all = λ e p. elim (which e p) [
        | inl same ↦ subst (λ (y : Delivered). In (heading_of queue' y) (without id_of d.id hs ++ heading_of queue' d ∷ [])) (sym same)
            (In-last (heading_of queue' d) (without id_of d.id hs))
        | inr ne ↦ In-left (heading_of queue' e) (without id_of d.id hs) (heading_of queue' d ∷ []) (still e p ne)
      ];
    }

    -- ---- both

    pub counted_after : AreCounted queue' (ready_after hs d ds) (partly_after hs d)
    counted_after = elim (has_all hs d) as (λ b. has_all hs d ≡ b → AreCounted queue' (cond b (placed d ds) ds)
        (cond b (without id_of d.id hs) (without id_of d.id hs ++ record { id = d.id; count = counted hs d.id + 1 } ∷ []))) [
          | true ↦ λ e.
              let all : headed queue' d ≡ length d.groups = one_more ∙ eqb-true (counted hs d.id + 1) (length d.groups) e in
              record { ready = ready_all all; partly = partly_all all }
          | false ↦ λ e.
              let not : headed queue' d ≢ length d.groups = λ all.
              both_ways _ e (eq-eqb (counted hs d.id + 1) (length d.groups) (sym one_more ∙ all)) in
              record {
                ready = ready_not not;
                partly = subst (λ k. ArePartly queue' (without id_of d.id hs ++ record { id = d.id; count = k } ∷ [])) one_more
                    (partly_more not);
              }
        ] refl

-- ---- whether one is ready

-- there are no more ready requests than queues
pub as_few : (qs : List (List Delivered)) (ds : List Delivered) → AreReady (queue_of qs) ds → length ds ≤ length qs
as_few qs ds a =
    let less : length ds < suc (length qs) = fewer (HeadsAt (queue_of qs)) (λ m x y i j. first_same (queue_of qs m) i.0 j.0 x y i.1 j.1) ds
    (suc (length qs)) (length qs) (once_ascending ds a.ascending) (omega arith)
    (λ e i. let r = a.only e i in (r.somewhere.0, r.heads r.somewhere.0 r.somewhere.1))
    (λ m e at. let low = there m e at.0 at.1 in (omega arith, λ same. omega arith)) in
    omega arith
  where
    there : (m : ℕ) (e : Delivered) (rest : List Delivered) → queue_of qs m ≡ e ∷ rest → m < length qs
    there m e rest is = elim (cases_lt m (length qs)) [
      | inl low ↦ low
      | inr high ↦ absurd (none_first (queue_of qs m) rest e (get_or_past qs m [] high) is)
    ]

pub none_ready : (queue : QueueOf) (ds : List Delivered) → AreReady queue ds → ((d : Delivered) → IsReady queue d → ⊥) → ds ≡ []
none_ready queue [] a none = refl
none_ready queue (d ∷ ds) a none = absurd (none d (a.only d (inl refl)))

pub some_ready : (queue : QueueOf) (ds : List Delivered) → AreReady queue ds → 0 < length ds → (d : Delivered) × IsReady queue d
some_ready queue [] a some = absurd (omega arith)
some_ready queue (d ∷ ds) a some = (d, a.only d (inl refl))

pub ready_some : (queue : QueueOf) (ds : List Delivered) (d : Delivered) → AreReady queue ds → IsReady queue d → 0 < length ds
ready_some queue ds d a r = not_none ds (a.all d r)
  where
    not_none : (es : List Delivered) → In d es → 0 < length es
    not_none [] i = absurd i
    not_none (e ∷ es) i = omega arith
