-- In a quiet world each request has ended: the one with the least stamp of all that haven't would be ready.
use Rattle.std.proofs.Common.{◌≡◌, ℕ, zero, suc, ◌<◌, ◌≤◌, ◌==◌, nat_lt, true, false, List, [], ◌∷◌, ◌⊎◌, inl, inr, Option, Some}
use Rattle.std.proofs.Common.{None, IsSome, length, refl, sym, ap, ◌∙◌, subst, arith, eq-eqb, ltb-true}
use Rattle.std.proofs.lemmas.Bool.{both_ways, cases_Bool, cases_order, or_left, or_right, and_parts}
use Rattle.std.specs.FinMap.{get}
use Rattle.delivery.specs.Ready.{IsReady}
use Rattle.groups.specs.GroupSet.{has}
use Rattle.groups.specs.GroupSetLaws.{has-chosen}
use Rattle.journal.specs.declared.step.Step.TheVariants.{Take}
use Rattle.placement.specs.Layout.{Layout}
use Rattle.skeen_core.proofs.Lawful.{None≢Some}
use Rattle.groups.proofs.Lists.{In-right, In-append}
use Rattle.groups.proofs.Stamps.{final_above, final_within, lt_irrefl, lt_trans}
use Rattle.skeen_core.specs.Group.{heard, or_zero, own_at, Ascending}
use Rattle.groups.specs.Order.{In}
use Rattle.groups.specs.Stamp.{stamp_lt, later_of, final, place_by}
use Rattle.skeen_core.specs.declared.packet.Delivered.{Delivered}
use Rattle.skeen_core.specs.declared.packet.Packet.{Packet}
use Rattle.groups.specs.declared.request.RequestId.{RequestId}
use Rattle.groups.specs.declared.stamp.Stamp.{Stamp}
use Rattle.world.specs.Steps.{OwnFault, Busy, NoConn, NoPacket, InFlight, NoLayer, IsInFlight, NothingToRun, NothingToSettle, Refused}
use Rattle.world.specs.World.{World, Request, Ended, Layer, NoneTaken, Taken, HasRun}
use Rattle.world_laws.specs.Good.{Known, GroupGood, start_to, log_of, IsOut, Named, all_delivered, all_taken, WorldGood}
use Rattle.world_laws.specs.Quiet.{IsQuiet, QuietMeansEnded, QuietIsRefused, told_by}
use Rattle.world_laws.proofs.ConditionLaws.{delivered_same}
use Rattle.world_laws.proofs.Layers.{ascending_cross, ascending_right, known_some}
use Rattle.world_laws.proofs.Owed.{Owes, owes_world}
use Rattle.world_laws.proofs.Worlds.{good_world}
use Rattle.groups.proofs.Options.{some_same}

-- ---- what was delivered isn't started

pub delivered_not_started : (t : Layout) (w : World) → WorldGood t w → (g : ℕ) (d : Delivered) (gs : List ℕ) → In d (log_of w g) →
    get (w.group g).started d.id ≡ Some gs → ⊥
delivered_not_started t w good g d gs there started =
    by_final (final (heard (w.group g) d.id) gs) refl (group.going.ahead.below d d.id gs there started)
  where
    group : GroupGood w.asked w.proposed g (w.group g) (log_of w g)
    group = good.skeen.groups g

    known : Known w.asked w.proposed d
    known = (good.skeen.groups g).known d there

    -- the groups are those that it was delivered with
    same : gs ≡ d.groups
    same =
        let named = (good.skeen.groups g).started d.id gs started in
        let it = ((good.skeen.groups g).known d there).named in
        sym named.2 ∙ ap (λ (q : Request). q.groups) (some_same named.0 it.0 (sym named.1 ∙ it.1)) ∙ it.2

    by_own : (o : Option ℕ) → heard (w.group g) d.id g ≡ o → IsSome o → stamp_lt d.stamp (record { clock = or_zero o; group = g }) ≡ true →
        ⊥
    by_own None e some less = both_ways false refl some
    by_own (Some n) e some less =
        let above = final_above (w.proposed d.id) d.groups d.stamp g ((good.skeen.groups g).known d there).stamp
        ((good.skeen.groups g).member d there) in
        let at_n : above.clock ≡ n = some_same above.clock n (sym above.heard ∙ (good.skeen.groups g).heard d.id g n e) in
        both_ways _ above.within (ap (λ k. stamp_lt d.stamp (record { clock = k; group = g })) at_n ∙ less)

    by_final : (o : Option Stamp) → final (heard (w.group g) d.id) gs ≡ o →
        stamp_lt d.stamp (place_by o (own_at g (w.group g) d.id)) ≡ true → ⊥
    by_final (Some s) e less =
        let settled = final_within (heard (w.group g) d.id) (w.proposed d.id) gs s (λ h n f. (good.skeen.groups g).heard d.id h n f) e in
        let at_s : s ≡ d.stamp = some_same s d.stamp (sym settled ∙ ap (λ hs. final (w.proposed d.id) hs) same
        ∙ ((good.skeen.groups g).known d there).stamp) in
        both_ways _ (lt_irrefl d.stamp) (ap (stamp_lt d.stamp) (sym at_s) ∙ less)
    by_final None e less = by_own (heard (w.group g) d.id g) refl ((good.skeen.groups g).going.lawful.sound.started d.id gs started).0 less

-- ---- no packet is under way: all is settled

final_some : (f : ℕ → Option ℕ) (gs : List ℕ) → ((g : ℕ) → has gs g ≡ true → (n : ℕ) × (f g ≡ Some n)) → (s : Stamp) × (final f gs ≡ Some s)
final_some f [] all = (record { clock = 0; group = 0 }, refl)
final_some f (g ∷ gs) all =
    let first = all g (or_left (g == g) (has gs g) (eq-eqb g g refl)) in
    let rest = final_some f gs (λ h there. all h (or_right (g == h) (has gs h) there)) in
    (_, ap (λ o. later_of g o (final f gs)) first.1 ∙ ap (later_of g (Some first.0)) rest.1)

there_is : (o : Option ℕ) → IsSome o → (n : ℕ) × (o ≡ Some n)
there_is None e = absurd (both_ways false refl e)
there_is (Some n) e = (n, refl)

-- each group of a submitted request has proposed
all_proposed : (t : Layout) (w : World) → WorldGood t w → w.packets ≡ [] → (i : RequestId) (q : Request) (g : ℕ) → w.asked i ≡ Some q →
    has q.groups g ≡ true → (n : ℕ) × (w.proposed i g ≡ Some n)
all_proposed t w good none i q g named member = elim (good.skeen.coming i q g named member) [
  | inl sent ↦ absurd (subst (λ l. In (start_to g i q) l) none sent)
  | inr told ↦ there_is (w.proposed i g) told
]

all_settled : (t : Layout) (w : World) → WorldGood t w → Owes w → w.packets ≡ [] → (g : ℕ) (u : RequestId) (hs : List ℕ) →
    get (w.group g).started u ≡ Some hs → (s : Stamp) × (final (heard (w.group g) u) hs ≡ Some s)
all_settled t w good owes none g u hs started = final_some (heard (w.group g) u) hs (λ h member.
    let named = (good.skeen.groups g).started u hs started in
    let of_request : has named.0.groups h ≡ true = subst (λ gs. has gs h ≡ true) (sym named.2) member in
    let me : has named.0.groups g ≡ true = subst (λ gs. has gs g ≡ true) (sym named.2)
    ((good.skeen.groups g).going.lawful.sound.started u hs started).1 in
    let told = all_proposed t w good none u named.0 h named.1 of_request in (
      told.0,
      elim ((owes.groups g).told u named.0 h told.0 named.1 me told.1) [
        | inl there ↦ there
        | inr (inl sent) ↦ absurd (subst (λ l. In (told_by g u h told.0) l) none sent)
        | inr (inr out) ↦ absurd (delivered_not_started t w good g out.0 hs out.1 (ap (get (w.group g).started) out.2 ∙ started))
      ],
    ))

none_started : (t : Layout) (w : World) → WorldGood t w → Owes w → w.packets ≡ [] → (g : ℕ) (i : RequestId) (gs : List ℕ) →
    get (w.group g).started i ≡ Some gs → ⊥
none_started t w good owes none g i gs started =
    let s = all_settled t w good owes none g i gs started in
    (good.skeen.groups g).going.lawful.stuck (record { id = i; stamp = s.0; groups = gs }) (record {
      started = started;
      stamp = s.1;
      below = λ u hs there unsettled. let settled = all_settled t w good owes none g u hs there in
          absurd (None≢Some settled.0 (sym unsettled ∙ settled.1));
    })

some_started : (o : Option (List ℕ)) → IsSome o → (gs : List ℕ) × (o ≡ Some gs)
some_started None some = absurd (both_ways false refl some)
some_started (Some gs) some = (gs, refl)

-- each group of a submitted request has delivered it
all_out : (t : Layout) (w : World) → WorldGood t w → Owes w → w.packets ≡ [] → (i : RequestId) (q : Request) (g : ℕ) → w.asked i ≡ Some q →
    has q.groups g ≡ true → IsOut (log_of w g) i
all_out t w good owes none i q g named member =
    let told = all_proposed t w good none i q g named member in
    elim ((good.skeen.groups g).begun i told.0 told.1) [
      | inr out ↦ out
      | inl there ↦ let gs = some_started (get (w.group g).started i) there in absurd (none_started t w good owes none g i gs.0 gs.1)
    ]

-- ---- the least of all heads

-- what isn't below one stamp isn't below a smaller one
not_below : (s t u : Stamp) → stamp_lt s u ≡ false → stamp_lt t u ≡ true → stamp_lt s t ≡ false
not_below s t u h l = elim (cases_Bool (stamp_lt s t)) [ inl less ↦ absurd (both_ways _ h (lt_trans s t u less l)) | inr e ↦ e ]

pub record LeastHead (queue : ℕ → List Delivered) (m : ℕ) : Type 0 where
  pub group : ℕ
  pub it : Delivered
  pub rest : List Delivered
  pub heads : queue group ≡ it ∷ rest
  pub least : (h : ℕ) (e : Delivered) (es : List Delivered) → h < m → queue h ≡ e ∷ es → stamp_lt e.stamp it.stamp ≡ false

same_head : (d e : Delivered) (ds es : List Delivered) → d ∷ ds ≡ e ∷ es → d ≡ e
same_head d e ds es h = cc

least_head : (queue : ℕ → List Delivered) (m : ℕ) → ((g : ℕ) → g < m → queue g ≡ []) ⊎ LeastHead queue m
least_head queue zero = inl (λ g less. absurd (omega arith))
least_head queue (suc m) = by_queue (queue m) refl (least_head queue m)
  where
    below : (g : ℕ) → g < suc m → (g ≡ m) ⊎ (g < m)
    below g less = elim (cases_order g m) [ inl e ↦ inl e | inr (inl l) ↦ inr l | inr (inr more) ↦ absurd (omega arith) ]

    by_queue : (q : List Delivered) → queue m ≡ q → ((g : ℕ) → g < m → queue g ≡ [])
        ⊎ LeastHead queue m → ((g : ℕ) → g < suc m → queue g ≡ []) ⊎ LeastHead queue (suc m)
    by_queue [] is (inl none) = inl (λ g less. elim (below g less) [ inl e ↦ ap queue e ∙ is | inr l ↦ none g l ])
    by_queue [] is (inr l) = inr (record {
      group = l.group;
      it = l.it;
      rest = l.rest;
      heads = l.heads;
      least = λ h e es less there. elim (below h less) [
        | inl at_m ↦ absurd (cc (sym there, ap queue at_m, is))
        | inr low ↦
            l.least h e es low there
      ];
    })
    by_queue (d ∷ ds) is (inl none) = inr (record {
      group = m;
      it = d;
      rest = ds;
      heads = is;
      least = λ h e es less there. elim (below h less) [
        | inl at_m ↦ let same = same_head e d es ds (sym there ∙ ap queue at_m ∙ is) in
            ap (λ (x : Delivered). stamp_lt x.stamp d.stamp) same ∙ lt_irrefl d.stamp
        | inr low ↦ absurd (cc (none h low, there))
      ];
    })
    by_queue (d ∷ ds) is (inr l) = elim (cases_Bool (stamp_lt d.stamp l.it.stamp)) [
      | inl smaller ↦ inr (record {
        group = m;
        it = d;
        rest = ds;
        heads = is;
        least = λ h e es less there. elim (below h less) [
          | inl at_m ↦ let same = same_head e d es ds (sym there ∙ ap queue at_m ∙ is) in
              ap (λ (x : Delivered). stamp_lt x.stamp d.stamp) same ∙ lt_irrefl d.stamp
          | inr low ↦ not_below e.stamp d.stamp l.it.stamp (l.least h e es low there) smaller
        ];
      })
      | inr not_smaller ↦ inr (record {
        group = l.group;
        it = l.it;
        rest = l.rest;
        heads = l.heads;
        least = λ h e es less there. elim (below h less) [
          | inl at_m ↦ let same = same_head e d es ds (sym there ∙ ap queue at_m ∙ is) in
              ap (λ (x : Delivered). stamp_lt x.stamp l.it.stamp) same ∙ not_smaller
          | inr low ↦ l.least h e es low there
        ];
      })
    ]

-- ---- nothing is left

list_cases : (q : List Delivered) → (q ≡ []) ⊎ ((d : Delivered) × (ds : List Delivered) × (q ≡ d ∷ ds))
list_cases [] = inl refl
list_cases (d ∷ ds) = inr (d, ds, refl)

-- a group that is addressed is one of the shards
below_shards : (t : Layout) (w : World) → WorldGood t w → (g : ℕ) (d : Delivered) → In d (log_of w g) → (h : ℕ) → has d.groups h ≡ true →
    h < t.shards
below_shards t w good g d there h member =
    let named = ((good.skeen.groups g).known d there).named in
    let shaped = good.requests.shaped d.id named.0 named.1 in
    let of_task = subst (λ gs. has gs h ≡ true) (sym (shaped.groups ∙ named.2)) member in
    ltb-true h t.shards (and_parts (nat_lt h t.shards) _ (sym (has-chosen _ t.shards h) ∙ of_task)).0

-- the request with the least stamp at the head of a queue is ready
least_is_ready : (t : Layout) (w : World) → WorldGood t w → Owes w → w.packets ≡ [] → (l : LeastHead w.queue t.shards) →
    IsReady w.queue l.it
least_is_ready t w good owes none l = record {
  somewhere = known_some t w.asked w.proposed w.seq w.last l.it good.requests known;
  heads = λ h member.
      let out = all_out t w good owes none l.it.id known.named.0 h known.named.1 (subst (λ gs. has gs h ≡ true)
      (sym known.named.2) member) in
      let same : out.0 ≡ l.it = delivered_same t w good h l.group out.0 l.it out.1 there out.2 in
      elim (In-append l.it (w.gone h) (w.queue h) (subst (λ x. In x (log_of w h)) same out.1)) [
        | inl gone ↦
            let before = good.taken.passed l.it (owes.taken h l.it gone) l.group ((good.skeen.groups l.group).member l.it there) in
            absurd (both_ways _ (lt_irrefl l.it.stamp)
            (ascending_cross (w.gone l.group) (w.queue l.group) (good.skeen.groups l.group).going.ascending l.it l.it before stands))
        | inr here ↦ elim (list_cases (w.queue h)) [
          | inl empty ↦ absurd (subst (λ q. In l.it q) empty here)
          | inr c ↦ elim (subst (λ q. In l.it q) c.2 here) [
            | inl first ↦ (c.1, c.2 ∙ ap (λ x. x ∷ c.1) (sym first))
            | inr later ↦
                let up = ascending_right (w.gone h) (w.queue h) (good.skeen.groups h).going.ascending in
                let less = (subst (λ q. Ascending q) c.2 up).0 l.it later in
                absurd (both_ways _ (l.least h c.0 c.1 (below_shards t w good l.group l.it there h member) c.2) less)
          ]
        ]
      ];
}
  where
    stands : In l.it (w.queue l.group)
    stands = subst (λ q. In l.it q) (sym l.heads) (inl refl)

    there : In l.it (log_of w l.group)
    there = In-right l.it (w.gone l.group) (w.queue l.group) (subst (λ q. In l.it q) (sym l.heads) (inl refl))

    known : Known w.asked w.proposed l.it
    known = (good.skeen.groups l.group).known l.it (In-right l.it (w.gone l.group) (w.queue l.group)
        (subst (λ q. In l.it q) (sym l.heads) (inl refl)))

nothing_queued : (t : Layout) (w : World) → WorldGood t w → Owes w → IsQuiet w → (g : ℕ) (d : Delivered) → In d (w.queue g) → ⊥
nothing_queued t w good owes quiet g d there =
    let delivered = In-right d (w.gone g) (w.queue g) there in
    let low = below_shards t w good g d delivered g ((good.skeen.groups g).member d delivered) in
    elim (least_head w.queue t.shards) [
      | inl none ↦ subst (λ q. In d q) (none g low) there
      | inr l ↦ quiet.none_ready l.it (least_is_ready t w good owes quiet.packets l)
    ]

in_ended : (es : List Ended) (d : Delivered) → In d (all_delivered es) → Named es d.id
in_ended [] d there = absurd there
in_ended (e ∷ es) d (inl same) = (e, inl refl, ap (λ (x : Delivered). x.id) (sym same))
in_ended (e ∷ es) d (inr there) = let rest = in_ended es d there in (rest.0, inr rest.1, rest.2)

pub quiet_good : (t : Layout) (w : World) → WorldGood t w → Owes w → IsQuiet w → (i : RequestId) (q : Request) → w.asked i ≡ Some q →
    Named w.ended i
quiet_good t w good owes quiet i q named =
    let some = (good.requests.shaped i q named).some in
    let out = all_out t w good owes quiet.packets i q some.0 named some.1 in
    elim (In-append out.0 (w.gone some.0) (w.queue some.0) out.1) [
      | inr queued ↦ absurd (nothing_queued t w good owes quiet some.0 out.0 queued)
      | inl gone ↦
          let taken = subst (λ l. In out.0 (all_taken w.ended l)) quiet.layer (owes.taken some.0 out.0 gone) in
          elim (In-append out.0 (all_delivered w.ended) [] taken) [
            | inl ended ↦ subst (λ j. Named w.ended j) out.2 (in_ended w.ended out.0 ended)
            | inr none ↦ absurd none
          ]
    ]

pub quiet_means_ended : QuietMeansEnded
quiet_means_ended t steps w leads quiet i q named = quiet_good t w (good_world t steps w leads) (owes_world t steps w leads) quiet i q named

-- ---- quiet, and what is refused

none_of_length : (ps : List Packet) → length ps ≤ 0 → ps ≡ []
none_of_length [] few = refl
none_of_length (p ∷ ps) few = absurd (omega arith)

no_layer : (l : Layer) → NothingToRun l → NothingToSettle l → l ≡ NoneTaken
no_layer NoneTaken run settle = refl
no_layer (Taken ds) run settle = absurd run
no_layer (HasRun es) run settle = absurd settle

none_ready : (w : World) (fault : OwnFault) → w.layer ≡ NoneTaken → Refused w Take fault → (d : Delivered) → ¬ IsReady w.queue d
none_ready w InFlight free refused d = absurd (subst (λ l. IsInFlight l) free refused)
none_ready w NoLayer free refused d = refused.1 d
none_ready w Busy free refused d = absurd refused
none_ready w NoConn free refused d = absurd refused
none_ready w NoPacket free refused d = absurd refused

pub quiet_is_refused : QuietIsRefused
quiet_is_refused w = (
  λ quiet. record {
    deliver = let none = ap (λ (ps : List Packet). length ps) quiet.packets in omega arith;
    take = (NoLayer, (quiet.layer, quiet.none_ready));
    run = λ starved. subst (λ l. NothingToRun l) (sym quiet.layer) tt;
    settle = subst (λ l. NothingToSettle l) (sym quiet.layer) tt;
  },
  λ turns.
      let free = no_layer w.layer (turns.run []) turns.settle in
      record { packets = none_of_length w.packets turns.deliver; layer = free; none_ready = none_ready w turns.take.0 free turns.take.1 },
)
