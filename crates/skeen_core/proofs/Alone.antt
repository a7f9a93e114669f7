-- A request that is alone at a group: its Start, the proposals for it, and what is left once it is delivered.
use Rattle.std.proofs.Common.{◌≡◌, ℕ, ◌≤◌, ◌==◌, ◌&&◌, ◌||◌, max, true, false, cond, List, [], ◌∷◌, Option, Some, None, refl, sym, ap, ◌∙◌}
use Rattle.std.proofs.Common.{subst, arith, inl, inr, eq-eqb, eqb-true}
use Rattle.std.proofs.lemmas.Bool.{both_ways, cases_Bool, or_cases, or_left, or_right}
use Rattle.std.specs.FinMap.{get, insert}
use Rattle.groups.proofs.Ids.{same_id-true, same_id-refl, same_id-sym}
use Rattle.groups.proofs.Options.{some_same}
use Rattle.groups.specs.GroupSet.{has}
use Rattle.groups.specs.Request.{same_id}
use Rattle.groups.specs.Stamp.{later_of, final}
use Rattle.groups.specs.declared.request.RequestId.{RequestId}
use Rattle.groups.specs.declared.stamp.Stamp.{Stamp}
use Rattle.skeen_core.proofs.Finite.{started-with_start, heard-with_start, heard-with_proposal, started-without, heard-without, same_state}
use Rattle.skeen_core.proofs.Lawful.{None≢Some, delivers_none, without_none}
use Rattle.skeen_core.proofs.RunLaws.{heard_receives}
use Rattle.skeen_core.specs.Group.{GroupState, heard, or_zero, is_up_to, is_past, reaching, next_clock, with_start, with_proposal, final_of, lift}
use Rattle.skeen_core.specs.Group.{lifted, MayGo, Delivers, without, tell, ReceivesStart, Receives}
use Rattle.skeen_core.specs.Offers.{Offers, settled}
use Rattle.skeen_core.specs.declared.packet.Body.TheVariants.{Start, Proposal}
use Rattle.skeen_core.specs.declared.packet.Delivered.{Delivered}

-- ---- the final stamp, by what has been proposed

-- one is missing
pub final_open : (f : ℕ → Option ℕ) (gs : List ℕ) (g : ℕ) → has gs g ≡ true → f g ≡ None → final f gs ≡ None
final_open f [] g there none = absurd (both_ways _ refl there)
final_open f (x ∷ xs) g there none = elim (or_cases (x == g) (has xs g) there) [
  | inl here ↦ ap (λ o. later_of x o (final f xs)) (ap f (eqb-true x g here) ∙ none)
  | inr rest ↦ ap (later_of x (f x)) (final_open f xs g rest none) ∙ by_first (f x)
]
  where
    by_first : (o : Option ℕ) → later_of x o None ≡ None
    by_first None = refl
    by_first (Some n) = refl

-- only those of its groups matter
pub final_among : (f k : ℕ → Option ℕ) (gs : List ℕ) → ((g : ℕ) → has gs g ≡ true → f g ≡ k g) → final f gs ≡ final k gs
final_among f k [] same = refl
final_among f k (x ∷ xs) same =
    ap (λ o. later_of x o (final f xs)) (same x (or_left (x == x) (has xs x) (eq-eqb x x refl)))
    ∙ ap (later_of x (k x)) (final_among f k xs (λ g there. same g (or_right (x == g) (has xs g) there)))

-- once this group's proposal has come too
abbrev pub more : ℕ → ℕ → (ℕ → Option ℕ) → ℕ → Option ℕ
more g n f k = cond (k == g) (Some n) (f k)

-- ---- a group at which the request alone has started, and these proposals have come for it

pub record Has (old : GroupState) (id : RequestId) (gs : List ℕ) (c : ℕ) (f : ℕ → Option ℕ) (now : GroupState) : Type 0 where
  pub clock : now.clock ≡ c
  pub reached : now.reached ≡ old.reached
  pub started : (i : RequestId) → get now.started i ≡ cond (same_id i id) (Some gs) None
  pub proposed : (g : ℕ) → heard now id g ≡ f g
  pub others : (i : RequestId) (g : ℕ) → same_id i id ≡ false → heard now i g ≡ heard old i g

-- it is this request, at its final stamp
record Goes (id : RequestId) (gs : List ℕ) (f : ℕ → Option ℕ) (d : Delivered) : Type 0 where
  pub id_is : d.id ≡ id
  pub groups : gs ≡ d.groups
  pub final_is : final f gs ≡ Some d.stamp

module _ (me : ℕ) (old : GroupState) (id : RequestId) (floor c : ℕ) (gs : List ℕ) (offers : Offers old id floor c) where
  its_final : (n : ℕ) (f : ℕ → Option ℕ) (now : GroupState) → Has old id gs n f now → final (heard now id) gs ≡ final f gs
  its_final n f now is = ap (λ (k : ℕ → Option ℕ). final k gs) (λ k g. is.proposed g k)

  goes : (n : ℕ) (f : ℕ → Option ℕ) (now : GroupState) → Has old id gs n f now → (d : Delivered) → MayGo me now d → Goes id gs f d
  goes n f now is d may = elim (cases_Bool (same_id d.id id)) [
    | inl same ↦
        let id_is = same_id-true d.id id same in
        let groups = some_same gs d.groups (sym (is.started d.id ∙ ap (λ b. cond b (Some gs) None) same) ∙ may.started) in
        record {
          id_is = id_is;
          groups = groups;
          final_is = sym (its_final n f now is) ∙ ap (final (heard now id)) groups
              ∙ subst (λ (i : RequestId). final (heard now i) d.groups ≡ Some d.stamp) id_is may.stamp;
        }
    | inr other ↦ absurd (None≢Some d.groups (sym (is.started d.id ∙ ap (λ b. cond b (Some gs) None) other) ∙ may.started))
  ]

  -- where a proposal is missing nothing goes
  stays : (n : ℕ) (f : ℕ → Option ℕ) (now : GroupState) → Has old id gs n f now → final f gs ≡ None → Delivers me now []
  stays n f now is short = delivers_none me now (λ d may.
      let g = goes n f now is d may in None≢Some d.stamp (sym short ∙ g.final_is))

  same_after : (n : ℕ) (f : ℕ → Option ℕ) (now : GroupState) → Has old id gs n f now → Has old id gs n f (reaching (without now []) [])
  same_after n f now is = subst (λ (g : GroupState). Has old id gs n f (reaching g [])) (sym (without_none now)) (record {
    clock = is.clock;
    reached = is.reached;
    started = is.started;
    proposed = is.proposed;
    others = is.others;
  })

  -- what was delivered
  abbrev pub gone : Stamp → Delivered
  gone s = record { id = id; stamp = s; groups = gs }

  -- once all have come it goes
  module _ (s : Stamp) (f : ℕ → Option ℕ) (now : GroupState) (is : Has old id gs s.clock f now) (all : final f gs ≡ Some s) where
    it_goes : Delivers me now (gone s ∷ [])
    it_goes = record {
      ascending = ((λ e none. absurd none), tt);
      only = λ e there. elim there [
        | inl same ↦ subst (λ (x : Delivered). MayGo me now x) (sym same) (record {
          started = is.started id ∙ ap (λ b. cond b (Some gs) None) (same_id-refl id);
          stamp = its_final s.clock f now is ∙ all;
          below = λ u groups started short. absurd (elim (cases_Bool (same_id u id)) [
            | inl same ↦
                let groups_is = some_same gs groups (sym (is.started u ∙ ap (λ b. cond b (Some gs) None) same) ∙ started) in
                None≢Some s (sym short ∙ ap (λ i. final (heard now i) groups) (same_id-true u id same)
                ∙ ap (final (heard now id)) (sym groups_is) ∙ its_final s.clock f now is ∙ all)
            | inr other ↦ None≢Some groups (sym (is.started u ∙ ap (λ b. cond b (Some gs) None) other) ∙ started)
          ]);
        })
        | inr none ↦ absurd none
      ];
      all = λ e may.
          let g = goes s.clock f now is e may in
          inl (λ k. record {
            id = g.id_is k;
            stamp = some_same e.stamp s (sym g.final_is ∙ all) k;
            groups = sym g.groups k;
          });
    }

    -- and nothing else is kept of it
    once_gone : reaching (without now (gone s ∷ [])) (gone s ∷ []) ≡ settled old id s.clock
    once_gone = same_state _ _ is.clock
        (ap (λ r. insert r id.conn.0 (max (or_zero (get r id.conn.0)) id.seq)) is.reached)
        (λ i. started-without now (gone s ∷ []) i ∙ elim (cases_Bool (same_id i id)) [
          | inl same ↦ ap (λ b. cond (b || false) None (get now.started i)) (same_id-sym id i ∙ same) ∙ sym (offers.none_started i)
          | inr other ↦ ap (λ b. cond (b || false) None (get now.started i)) (same_id-sym id i ∙ other) ∙ is.started i
              ∙ ap (λ b. cond b (Some gs) None) other ∙ sym (offers.none_started i)
        ])
        (λ i g. heard-without now (gone s ∷ []) i g ∙ elim (cases_Bool (same_id i id)) [
          | inl same ↦ ap (λ b. cond (b || false) None (heard now i g)) (same_id-sym id i ∙ same)
              ∙ sym (ap (λ j. heard old j g) (same_id-true i id same) ∙ offers.unheard g)
          | inr other ↦ ap (λ b. cond (b || false) None (heard now i g)) (same_id-sym id i ∙ other) ∙ is.others i g other
        ])

  -- ---- its Start

  abbrev own : ℕ → Option ℕ
  own = more me c (λ g. None)

  abbrev begun : GroupState
  begun = with_start me old id floor gs

  start_has : Has old id gs (lift (next_clock old floor) (final own gs)) own (lifted begun id)
  start_has = record {
    clock = ap (lift (next_clock old floor)) (ap (final_of begun id) (started id ∙ ap (λ b. cond b (Some gs) None) (same_id-refl id))
        ∙ ap (λ (k : ℕ → Option ℕ). final k gs) (λ k g. hears g k));
    reached = refl;
    started = started;
    proposed = hears;
    others = λ i g other. heard-with_start me old id floor gs i g
        ∙ ap (λ b. cond (b && g == me) (Some (next_clock old floor)) (heard old i g)) other;
  }
    where
      started : (i : RequestId) → get begun.started i ≡ cond (same_id i id) (Some gs) None
      started i = started-with_start me old id floor gs i ∙ ap (cond (same_id i id) (Some gs)) (offers.none_started i)

      hears : (g : ℕ) → heard begun id g ≡ own g
      hears g = heard-with_start me old id floor gs id g
          ∙ ap (λ b. cond (b && g == me) (Some (next_clock old floor)) (heard old id g)) (same_id-refl id)
          ∙ ap (cond (g == me) (Some (next_clock old floor))) (offers.unheard g)
          ∙ ap (λ n. cond (g == me) (Some n) None) (sym offers.clock)

  -- where it waits for others
  pub start_waits : final own gs ≡ None → (now : GroupState) × Receives me old id (Start floor gs) (tell me id c gs) [] now
      × Has old id gs c own now
  start_waits short =
      let is : Has old id gs c own (lifted begun id) =
      subst (λ n. Has old id gs n own (lifted begun id)) (ap (lift (next_clock old floor)) short ∙ sym offers.clock) start_has in (
        reaching (without (lifted begun id) []) [],
        heard_receives me old id (Start floor gs) (tell me id c gs) [] (without (lifted begun id) []) offers.later
            (subst (λ o. ReceivesStart o me old id floor gs (tell me id c gs) [] (without (lifted begun id) [])) (sym (offers.none_started id))
            (ap (λ n. tell me id n gs) offers.clock, record { delivers = stays c own (lifted begun id) is short; after = refl })),
        same_after c own (lifted begun id) is,
      )

  -- where it addresses no other group it goes
  pub start_goes : (s : Stamp) → final own gs ≡ Some s → s.clock ≡ c → tell me id c gs ≡ [] →
      Receives me old id (Start floor gs) [] (gone s ∷ []) (settled old id s.clock)
  start_goes s all clock none =
      let high : lift (next_clock old floor) (Some s) ≡ s.clock = omega (arith, clock, offers.clock) in
      let is : Has old id gs s.clock own (lifted begun id) =
      subst (λ n. Has old id gs n own (lifted begun id)) (ap (lift (next_clock old floor)) all ∙ high) start_has in
      let mid = without (lifted begun id) (gone s ∷ []) in
      subst (λ g. Receives me old id (Start floor gs) [] (gone s ∷ []) g) (once_gone s own (lifted begun id) is all)
      (heard_receives me old id (Start floor gs) [] (gone s ∷ []) mid offers.later
      (subst (λ o. ReceivesStart o me old id floor gs [] (gone s ∷ []) mid) (sym (offers.none_started id))
      (sym none ∙ ap (λ n. tell me id n gs) offers.clock, record { delivers = it_goes s own (lifted begun id) is all; after = refl })))

  -- ---- a proposal for it

  module _ (now : GroupState) (f : ℕ → Option ℕ) (has_it : Has old id gs c f now) (from n : ℕ) where
    abbrev told : GroupState
    told = with_proposal now id from n

    not_past : is_past now id ≡ false
    not_past = ap (λ r. is_up_to (get r id.conn.0) id.seq) has_it.reached ∙ offers.later

    hear_has : Has old id gs (lift c (final (more from n f) gs)) (more from n f) (lifted told id)
    hear_has = record {
      clock = ap (λ m. lift m (final_of told id (get told.started id))) has_it.clock
          ∙ ap (lift c) (ap (final_of told id) (has_it.started id ∙ ap (λ b. cond b (Some gs) None) (same_id-refl id))
          ∙ ap (λ (k : ℕ → Option ℕ). final k gs) (λ k g. hears g k));
      reached = has_it.reached;
      started = has_it.started;
      proposed = hears;
      others = λ i g other. heard-with_proposal now id from n i g ∙ ap (λ b. cond (b && g == from) (Some n) (heard now i g)) other
          ∙ has_it.others i g other;
    }
      where
        hears : (g : ℕ) → heard told id g ≡ more from n f g
        hears g = heard-with_proposal now id from n id g ∙ ap (λ b. cond (b && g == from) (Some n) (heard now id g)) (same_id-refl id)
            ∙ ap (cond (g == from) (Some n)) (has_it.proposed g)

    -- it waits for more
    pub hear_waits : final (more from n f) gs ≡ None → (new : GroupState) × Receives me now id (Proposal from n) [] [] new
        × Has old id gs c (more from n f) new
    hear_waits short =
        let is : Has old id gs c (more from n f) (lifted told id) =
        subst (λ m. Has old id gs m (more from n f) (lifted told id)) (ap (lift c) short) hear_has in (
          reaching (without (lifted told id) []) [],
          heard_receives me now id (Proposal from n) [] [] (without (lifted told id) []) not_past
              (refl, record { delivers = stays c (more from n f) (lifted told id) is short; after = refl }),
          same_after c (more from n f) (lifted told id) is,
        )

    -- it is the last, and the request goes
    pub hear_goes : (s : Stamp) → final (more from n f) gs ≡ Some s → c ≤ s.clock →
        Receives me now id (Proposal from n) [] (gone s ∷ []) (settled old id s.clock)
    hear_goes s all low =
        let high : lift c (Some s) ≡ s.clock = omega (arith, low) in
        let is : Has old id gs s.clock (more from n f) (lifted told id) =
        subst (λ m. Has old id gs m (more from n f) (lifted told id)) (ap (lift c) all ∙ high) hear_has in
        let mid = without (lifted told id) (gone s ∷ []) in
        subst (λ g. Receives me now id (Proposal from n) [] (gone s ∷ []) g) (once_gone s (more from n f) (lifted told id) is all)
        (heard_receives me now id (Proposal from n) [] (gone s ∷ []) mid not_past
        (refl, record { delivers = it_goes s (more from n f) (lifted told id) is all; after = refl }))
