-- A request passes: its packets come, it stands in its queues alone, is a layer of its own, and is taken.
use Rattle.std.proofs.Common.{◌≡◌, ℕ, ◌<◌, ◌==◌, ◌||◌, ◌⊎◌, true, false, cond, drop, List, [], ◌∷◌, ◌++◌, length, slice_set, Some, None, refl}
use Rattle.std.proofs.Common.{sym, ap, ◌∙◌, subst, arith, inl, inr, eqb-true, eq-eqb, ne_eqb}
use Rattle.std.proofs.Math.Nat.{mul-suc}
use Rattle.std.proofs.lemmas.Bool.{both_ways, cases_Bool, or_cases, or_parts, or_from, or_left, or_right}
use Rattle.delivery.proofs.Layers.{first_same, one_is_ready}
use Rattle.delivery.specs.Queues.{queue_of, IsSound}
use Rattle.delivery.specs.Ready.{QueueOf, IsReady, IsLinedUp, IsLayer, left_in}
use Rattle.groups.proofs.Ids.{same_id-true, same_id-refl}
use Rattle.groups.proofs.Options.{some_same}
use Rattle.groups.proofs.Stamps.{lowest_last}
use Rattle.groups.specs.GroupSet.{has, IsAscending}
use Rattle.groups.specs.Order.{In}
use Rattle.groups.specs.Request.{same_id}
use Rattle.groups.specs.Stamp.{final}
use Rattle.groups.specs.declared.request.RequestId.{RequestId}
use Rattle.groups.specs.declared.stamp.Stamp.{Stamp}
use Rattle.multicast.proofs.Exchange.{arrives_as, exchange, offered}
use Rattle.multicast.proofs.Queues.{queue_of-set}
use Rattle.multicast.specs.Multicast.{MulticastView, at, group_of, starts_to, Arrives, packets_of, Passes, IsAlone, AreSettled}
use Rattle.skeen_core.proofs.Alone.{more, final_among, start_goes}
use Rattle.skeen_core.specs.Group.{GroupView, tell}
use Rattle.skeen_core.specs.Offers.{settled}
use Rattle.skeen_core.specs.declared.packet.Body.TheVariants.{Start, Proposal}
use Rattle.skeen_core.specs.declared.packet.Delivered.{Delivered}
use Rattle.skeen_core.specs.declared.packet.Packet.{Packet}

none_inside : (front rest : List Delivered) (e : Delivered) → [] ≡ front ++ e ∷ rest → ⊥
none_inside [] rest e is = absurd (let k = is in cc)
none_inside (f ∷ fs) rest e is = absurd (let k = is in cc)

-- what stands in a queue of one
only_one : (front rest : List Delivered) (d e : Delivered) → d ∷ [] ≡ front ++ e ∷ rest → e ≡ d
only_one [] rest d e is = first_same (d ∷ []) rest [] e d is refl
only_one (f ∷ fs) rest d e is = absurd (none_inside fs rest e (ap (drop 1) is))

-- the two lists have a group in common, or none
meet : (es gs : List ℕ) → ((g : ℕ) × (has es g ≡ true) × (has gs g ≡ true)) ⊎ ((g : ℕ) → has es g ≡ true → has gs g ≡ false)
meet [] gs = inr (λ g there. absurd (both_ways _ refl there))
meet (e ∷ es) gs = elim (cases_Bool (has gs e)) [
  | inl there ↦ inl (e, or_left (e == e) _ (eq-eqb e e refl), there)
  | inr not ↦ elim (meet es gs) [
    | inl found ↦ inl (found.0, or_right (e == found.0) _ found.1, found.2)
    | inr none ↦ inr (λ g there. elim (or_cases (e == g) (has es g) there) [
      | inl here ↦ subst (λ k. has gs k ≡ false) (eqb-true e g here) not
      | inr rest ↦ none g rest
    ])
  ]
]

-- no request is ready, and then d alone comes to each of its groups, whose queues were empty
pub record Comes (queue queue' : QueueOf) (d : Delivered) : Type 0 where
  pub none_ready : (e : Delivered) → IsReady queue e → ⊥
  pub some : (g : ℕ) × (has d.groups g ≡ true)
  pub empty : (g : ℕ) → has d.groups g ≡ true → queue g ≡ []
  pub here : (g : ℕ) → has d.groups g ≡ true → queue' g ≡ d ∷ []
  pub other : (g : ℕ) → has d.groups g ≡ false → queue' g ≡ queue g

module _ (queue queue' : QueueOf) (d : Delivered) (comes : Comes queue queue' d) where
  -- one that addresses none of its groups would be ready without d
  is_d : (e : Delivered) → IsReady queue' e → e ≡ d
  is_d e ready = elim (meet e.groups d.groups) [
    | inl found ↦ let a = ready.heads found.0 found.1 in first_same (queue' found.0) a.0 [] e d a.1 (comes.here found.0 found.2)
    | inr none ↦ absurd (comes.none_ready e (record {
      somewhere = ready.somewhere;
      heads = λ g inside. let a = ready.heads g inside in (a.0, sym (comes.other g (none g inside)) ∙ a.1);
    }))
  ]

  is_d_lined : (e : Delivered) → IsLinedUp queue' e → e ≡ d
  is_d_lined e lined = elim (cases_Bool (has d.groups lined.group)) [
    | inl inside ↦ only_one lined.front lined.rest d e (sym (comes.here lined.group inside) ∙ lined.stands)
    | inr outside ↦
        let ready = one_is_ready queue e (inr (record {
          group = lined.group;
          alone = lined.alone;
          front = lined.front;
          rest = lined.rest;
          stands = sym (comes.other lined.group outside) ∙ lined.stands;
          before = lined.before;
        })) in
        absurd (comes.none_ready ready.0 ready.1)
  ]

  pub layer_of_one : IsLayer queue' (d ∷ [])
  layer_of_one = record {
    ascending = ((λ e none. absurd none), tt);
    only = λ e. elim [
      | inl same ↦ inl (subst (λ (x : Delivered). IsReady queue' x) (sym same) (record {
        somewhere = comes.some;
        heads = λ g inside. ([], comes.here g inside);
      }))
      | inr none ↦ absurd none
    ];
    all = λ e. elim [ inl ready ↦ inl (is_d e ready) | inr lined ↦ inl (is_d_lined e lined) ];
  }

  module _ (sound : IsSound queue') where
    -- d is in no other queue
    not_d : (g : ℕ) (e : Delivered) → has d.groups g ≡ false → In e (queue' g) → same_id d.id e.id ≡ false
    not_d g e outside there = elim (cases_Bool (same_id d.id e.id)) [
      | inl same ↦
          let first = comes.some in
          let d_there = subst (λ l. In d l) (sym (comes.here first.0 first.1)) (inl refl) in
          let one = sound.one_id first.0 g d e d_there there (same_id-true d.id e.id same) in
          absurd (both_ways _ outside (subst (λ (x : Delivered). has x.groups g ≡ true) (sym one) (sound.member g e there)))
      | inr other ↦ other
    ]

    others_stay : (g : ℕ) (q : List Delivered) → has d.groups g ≡ false → queue' g ≡ q → left_in (d ∷ []) q ≡ q
    others_stay g [] outside is = refl
    others_stay g (e ∷ es) outside is =
        ap (λ b. cond (b || false) (left_in (d ∷ []) es) (e ∷ es))
        (not_d g e outside (subst (λ l. In e l) (sym is) (inl refl)))

    pub left_of_one : (g : ℕ) → queue g ≡ left_in (d ∷ []) (queue' g)
    left_of_one g = elim (cases_Bool (has d.groups g)) [
      | inl inside ↦ comes.empty g inside ∙ sym (ap (left_in (d ∷ [])) (comes.here g inside)
          ∙ ap (λ b. cond (b || false) [] (d ∷ [])) (same_id-refl d.id))
      | inr outside ↦ sym (comes.other g outside) ∙ sym (others_stay g (queue' g) outside refl)
    ]

-- ---- the steps, one after the other

-- what is known of a request that passes
pub record Passing (gs0 : List GroupView) (qs0 : List (List Delivered)) (id : RequestId) (floor : ℕ) (gs : List ℕ) (s : Stamp)
    (finals : List GroupView) : Type 0 where
  pub as_many : length qs0 ≡ length gs0
  pub low : (g : ℕ) → has gs g ≡ true → g < length gs0
  pub rise : IsAscending gs
  pub none_ready : (e : Delivered) → IsReady (queue_of qs0) e → ⊥
  pub alone : IsAlone gs0 qs0 id floor gs s
  pub settles : AreSettled gs0 id s.clock gs finals

-- all packets have come
record Came (gs0 : List GroupView) (qs0 : List (List Delivered)) (id : RequestId) (floor : ℕ) (gs : List ℕ) (s : Stamp)
    (finals : List GroupView) : Type 0 where
  pub come : MulticastView
  pub arrives : Arrives (packets_of gs) (record { groups = gs0; packets = starts_to id floor gs gs; queues = qs0; room = 0 }) come
  pub groups : come.groups ≡ finals
  pub packets : come.packets ≡ []
  pub here : (g : ℕ) → has gs g ≡ true → queue_of come.queues g ≡ record { id = id; stamp = s; groups = gs } ∷ []
  pub other : (g : ℕ) → has gs g ≡ false → queue_of come.queues g ≡ queue_of qs0 g

came : (gs0 : List GroupView) (qs0 : List (List Delivered)) (id : RequestId) (floor : ℕ) (gs : List ℕ) (s : Stamp) (finals : List GroupView)
    → (length gs ≡ 0 → ⊥) → Passing gs0 qs0 id floor gs s finals → Came gs0 qs0 id floor gs s finals
came gs0 qs0 id floor [] s finals some p = absurd (some refl)
-- of one group: its Start alone comes
came gs0 qs0 id floor (g ∷ []) s finals some p =
    let gs : List ℕ = g ∷ [] in
    let d : Delivered = record { id = id; stamp = s; groups = gs } in
    let c = offered gs0 floor g in
    let itself : has gs g ≡ true = or_left (g == g) false (eq-eqb g g refl) in
    let own = more g c (λ k. None) in
    let its : final own gs ≡ Some s =
    final_among own (λ k. Some (offered gs0 floor k)) gs (λ k inside. elim (cases_Bool (k == g)) [
      | inl same ↦ ap (λ b. cond b (Some c) None) same ∙ ap (λ x. Some (offered gs0 floor x)) (sym (eqb-true k g same))
      | inr apart ↦ absurd (both_ways _ (or_from (g == k) false (ne_eqb g k (λ e. both_ways _ apart (eq-eqb k g (sym e)))) refl) inside)
    ]) ∙ p.alone.greatest in
    let clock : s.clock ≡ c = sym (ap (λ (t : Stamp). t.clock) (some_same (record { clock = c; group = g }) s
    (sym (ap Some (lowest_last (record { clock = c; group = g }))) ∙ p.alone.greatest))) in
    let told : tell g id c gs ≡ [] =
    ap (λ b. cond b [] (record { to = g; id = id; body = Proposal g c } ∷ [])) (eq-eqb g g refl) in
    let receives = start_goes g (group_of gs0 g) id floor c gs (p.alone.offers g itself) s its clock told in
    let state = settled (group_of gs0 g) id s.clock in
    let low : g < length qs0 = let l = p.low g itself in let many = p.as_many in omega arith in
    let set = queue_of-set qs0 g (queue_of qs0 g ++ d ∷ []) low in
    let come : MulticastView = record { groups = finals; packets = []; queues = slice_set qs0 g (queue_of qs0 g ++ d ∷ []); room = 0 } in
    record {
      come = come;
      arrives = (
        come,
        record {
          packet = record { to = g; id = id; body = Start floor gs };
          sent = [];
          delivered = d ∷ [];
          state = state;
          there = refl;
          receives = receives;
          packets = refl;
          group = λ h. elim (cases_Bool (h == g)) [
            | inl same ↦ subst (λ k. group_of finals k ≡ at (group_of gs0) g state k) (sym (eqb-true h g same))
                (p.settles.inside g itself ∙ sym (ap (λ b. cond b state (group_of gs0 g)) (eq-eqb g g refl)))
            | inr apart ↦
                p.settles.outside h (or_from (g == h) false (ne_eqb g h (λ e. both_ways _ apart (eq-eqb h g (sym e)))) refl)
                ∙ sym (ap (λ b. cond b state (group_of gs0 h)) apart)
          ];
          queue = set;
          count = p.settles.count;
        },
        refl,
      );
      groups = refl;
      packets = refl;
      here = λ h inside. elim (or_cases (g == h) false inside) [
        | inl same ↦ subst (λ k. queue_of come.queues k ≡ d ∷ []) (eqb-true g h same)
            (set g ∙ ap (λ b. cond b (queue_of qs0 g ++ d ∷ []) (queue_of qs0 g)) (eq-eqb g g refl)
            ∙ ap (λ q. q ++ d ∷ []) (p.alone.empty g itself))
        | inr none ↦ absurd (both_ways _ refl none)
      ];
      other = λ h outside.
          let parts = or_parts (g == h) false outside in
          set h ∙ ap (λ b. cond b (queue_of qs0 g ++ d ∷ []) (queue_of qs0 h)) (ne_eqb h g (λ e. both_ways _ parts.0 (eq-eqb g h (sym e))));
    }
-- of several
came gs0 qs0 id floor (g ∷ h ∷ rest) s finals some p =
    let gs : List ℕ = g ∷ h ∷ rest in
    let below : g < h = p.rise.0 h (or_left (h == h) (has rest h) (eq-eqb h h refl)) in
    let apart : (h == g) ≡ false = ne_eqb h g (λ e. omega (arith, e, below)) in
    let first : has gs g ≡ true = or_left (g == g) _ (eq-eqb g g refl) in
    let second : has gs h ≡ true = or_right (g == h) _ (or_left (h == h) _ (eq-eqb h h refl)) in
    let it = exchange gs0 qs0 id floor gs s p.alone p.low p.rise p.as_many (λ k inside. elim (cases_Bool (g == k)) [
      | inl same ↦ (h, second, subst (λ x. (h == x) ≡ false) (eqb-true g k same) apart)
      | inr other ↦ (g, first, other)
    ]) in
    let end = it.0 in
    let going = it.2 in
    let come : MulticastView = record end { groups = finals } in
    record {
      come = come;
      arrives = arrives_as (packets_of gs) (record { groups = gs0; packets = starts_to id floor gs gs; queues = qs0; room = 0 }) end come
          (omega (arith, mul-suc (length gs) (length (h ∷ rest)))) it.1 (λ k. elim (cases_Bool (has gs k)) [
            | inl inside ↦ p.settles.inside k inside ∙ sym (going.inside k inside).0
            | inr outside ↦ p.settles.outside k outside ∙ sym (going.outside k outside).0
          ]) refl refl (p.settles.count ∙ sym going.count);
      groups = refl;
      packets = going.packets;
      here = λ k inside. (going.inside k inside).1;
      other = λ k outside. (going.outside k outside).1;
    }

pub passes : (gs0 : List GroupView) (ps : List Packet) (qs0 : List (List Delivered)) (room : ℕ) (id : RequestId) (floor : ℕ)
    (gs : List ℕ) (s : Stamp) (finals : List GroupView) → ps ≡ [] → (length gs ≡ 0 → ⊥) → Passing gs0 qs0 id floor gs s finals
    → Passes (record { groups = gs0; packets = ps; queues = qs0; room = room }) id floor gs (record { id = id; stamp = s; groups = gs })
    (record { groups = finals; packets = ps; queues = qs0; room = room })
passes gs0 ps qs0 room id floor gs s finals none some p =
    let d : Delivered = record { id = id; stamp = s; groups = gs } in
    let it = came gs0 qs0 id floor gs s finals some p in
    let comes : Comes (queue_of qs0) (queue_of it.come.queues) d = record {
      none_ready = p.none_ready;
      some = first gs some;
      empty = p.alone.empty;
      here = it.here;
      other = it.other;
    } in
    record {
      groups = refl;
      begun = record { groups = gs0; packets = starts_to id floor gs gs; queues = qs0; room = 0 };
      begins = record { groups = refl; packets = sym (ap (λ l. l ++ starts_to id floor gs gs) none); queues = refl };
      come = it.come;
      arrives = it.arrives;
      layer = layer_of_one (queue_of qs0) (queue_of it.come.queues) d comes;
      taken = λ sound. record {
        groups = sym it.groups;
        packets = none ∙ sym it.packets;
        queue = left_of_one (queue_of qs0) (queue_of it.come.queues) d comes sound;
      };
    }
  where
    first : (gs : List ℕ) → (length gs ≡ 0 → ⊥) → (g : ℕ) × (has gs g ≡ true)
    first [] some = absurd (some refl)
    first (g ∷ gs) some = (g, or_left (g == g) _ (eq-eqb g g refl))
