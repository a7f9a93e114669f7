-- The laws of order, read off what every world is like.
use Rattle.std.proofs.Common.{◌≡◌, ℕ, ◌≤◌, ◌==◌, true, false, List, [], ◌∷◌, ◌++◌, inl, inr, Some}
use Rattle.std.proofs.Common.{refl, sym, ap, ◌∙◌, subst, arith, eqb-true, append-nil, append_assoc}
use Rattle.std.proofs.lemmas.Bool.{cases_Bool}
use Rattle.groups.specs.GroupSet.{has}
use Rattle.journal.specs.declared.step.Step.TheVariants.{Open, Submit, Deliver, Take, Run, Settle, Collect, Close, Repeat}
use Rattle.placement.specs.Layout.{Layout}
use Rattle.groups.proofs.Lists.{In-left, In-right}
use Rattle.groups.proofs.Stamps.{final_above, final_within, lt_from_clocks}
use Rattle.skeen_core.specs.Group.{heard, EachOnce}
use Rattle.groups.specs.Order.{In}
use Rattle.groups.specs.Stamp.{final}
use Rattle.skeen_core.specs.declared.packet.Delivered.{Delivered}
use Rattle.groups.specs.declared.request.RequestId.{RequestId}
use Rattle.groups.specs.declared.stamp.Stamp.{Stamp}
use Rattle.sessions.specs.Session.{Answer, Now, Go}
use Rattle.tasks.specs.Tasks.{Task, task_groups}
use Rattle.world.specs.Steps.{Effect, submitted_to, submitted, remembered, answer_to, Comes, Collects}
use Rattle.world.specs.World.{World, Request, Standing, Closed, Idle, Waiting, Answered, Ended}
use Rattle.world_laws.specs.Good.{Rising, Known, log_of, delivered_of, all_delivered, taken_in, all_taken, Touching, TakenGood, WorldGood}
use Rattle.world_laws.specs.Order.{HasFinal, GroupsAgree, FinalIsGreatest, FinalIsProposed, FinalStampsDiffer, StampsOfConnectionRise}
use Rattle.world_laws.specs.Order.{ClockIsAboveProposals, ClockIsAboveDeliveries, ClocksAreBounded, DeliveriesAscend, AskedOfItsGroups}
use Rattle.world_laws.specs.Order.{PacketsGoToAddressed, DeliveriesAreAddressed, Brings, OthersKeepStill, ids_of, EndsOnce, EndsAsSubmitted}
use Rattle.world_laws.specs.Order.{TouchingByStamp, TouchingEndInStampOrder, EndedIsKept}
use Rattle.world_laws.proofs.Bounds.{bounded_world}
use Rattle.world_laws.proofs.Layers.{log_taken, all_delivered-append, in_delivered, taken_once}
use Rattle.world_laws.proofs.Lists.{rising_left}
use Rattle.world_laws.proofs.Packets.{body_addressed}
use Rattle.world_laws.proofs.Requests.{final_is_proposed, proposed_above_floor}
use Rattle.world_laws.proofs.Worlds.{good_world}
use Rattle.std.proofs.lemmas.Bool.{cond-false}
use Rattle.groups.proofs.Options.{some_same}

-- ---- final stamps

pub known_final : (w : World) (g : ℕ) (d : Delivered) → Known w.asked w.proposed d → has d.groups g ≡ true → (q : Request)
    × (has q.groups g ≡ true) × HasFinal w d.id q d.stamp
known_final w g d known member = (
  known.named.0,
  subst (λ gs. has gs g ≡ true) (sym known.named.2) member,
  record { submitted = known.named.1; stamp = ap (λ gs. final (w.proposed d.id) gs) known.named.2 ∙ known.stamp },
)

pub groups_agree : GroupsAgree
groups_agree t steps w leads g i s knows = elim knows [
  | inl settled ↦
      let group = good.skeen.groups g in
      let named = group.started i settled.groups settled.started in (
        named.0,
        subst (λ gs. has gs g ≡ true) (sym named.2) (group.going.lawful.sound.started i settled.groups settled.started).1,
        record {
          submitted = named.1;
          stamp = ap (λ gs. final (w.proposed i) gs) named.2
              ∙ final_within (heard (w.group g) i) (w.proposed i) settled.groups s (λ h n e. group.heard i h n e) settled.stamp;
        },
      )
  | inr delivered ↦
      let group = good.skeen.groups g in
      let it = known_final w g delivered.it (group.known delivered.it delivered.there) (group.member delivered.it delivered.there) in
      (it.0, it.1, subst (λ j. HasFinal w j it.0 s) delivered.id (subst (λ u. HasFinal w delivered.it.id it.0 u) delivered.stamp it.2))
]
  where
    good : WorldGood t w
    good = good_world t steps w leads

pub final_is_greatest : FinalIsGreatest
final_is_greatest t steps w leads i q s it g member =
    let above = final_above (w.proposed i) q.groups s g it.stamp member in
    (above.clock, above.heard, above.within)

-- who has proposed is addressed
pub proposed_addressed : (t : Layout) (w : World) → WorldGood t w → (i : RequestId) (q : Request) (g n : ℕ) → w.asked i ≡ Some q →
    w.proposed i g ≡ Some n → has q.groups g ≡ true
proposed_addressed t w good i q g n named told =
    let made = good.skeen.made i g n told in
    subst (λ (x : Request). has x.groups g ≡ true) (some_same made.0 q (sym made.1 ∙ named)) made.3

pub final_told : (t : Layout) (w : World) → WorldGood t w → (i : RequestId) (q : Request) (s : Stamp) → HasFinal w i q s →
    w.proposed i s.group ≡ Some s.clock
final_told t w good i q s it =
    let some = (good.requests.shaped i q it.submitted).some in
    final_is_proposed (w.proposed i) q.groups some.0 s some.1 it.stamp

pub final_is_told : FinalIsProposed
final_is_told t steps w leads i q s it =
    let good = good_world t steps w leads in
    let told = final_told t w good i q s it in
    (proposed_addressed t w good i q s.group s.clock it.submitted told, told)

pub differ_good : (t : Layout) (w : World) → WorldGood t w → (i j : RequestId) (q r : Request) (s : Stamp) → HasFinal w i q s →
    HasFinal w j r s → i ≡ j
differ_good t w good i j q r s a b = (good.skeen.groups s.group).apart i j s.clock (final_told t w good i q s a)
    (final_told t w good j r s b)

pub final_stamps_differ : FinalStampsDiffer
final_stamps_differ t steps w leads i j q r s a b = differ_good t w (good_world t steps w leads) i j q r s a b

pub stamps_of_connection_rise : StampsOfConnectionRise
stamps_of_connection_rise t steps w leads i j q r s u conns less a b =
    let good = good_world t steps w leads in
    let under = good.requests.floors i j q r conns less a.submitted b.submitted in
    let same : under.0 ≡ s = some_same under.0 s (sym under.1 ∙ a.stamp) in
    let above = proposed_above_floor w.asked w.proposed w.packets w.group (log_of w) j r u.group u.clock good.skeen b.submitted
    (final_told t w good j r u b) in
    let low : s.clock ≤ r.floor = subst (λ (x : Stamp). x.clock ≤ r.floor) same under.2 in
    lt_from_clocks s u (omega arith)

-- ---- groups

pub clock_is_above_proposals : ClockIsAboveProposals
clock_is_above_proposals t steps w leads g i n e = ((good_world t steps w leads).skeen.groups g).clock i n e

pub clock_is_above_deliveries : ClockIsAboveDeliveries
clock_is_above_deliveries t steps w leads g d there = ((good_world t steps w leads).skeen.groups g).going.ahead.clock d there

pub clocks_are_bounded : ClocksAreBounded
clocks_are_bounded t steps w leads g = (bounded_world t steps w leads).clocks g

pub deliveries_ascend : DeliveriesAscend
deliveries_ascend t steps w leads g = ((good_world t steps w leads).skeen.groups g).going.ascending

-- ---- only addressed groups

pub asked_of_its_groups : AskedOfItsGroups
asked_of_its_groups t steps w leads i q named = sym ((good_world t steps w leads).requests.shaped i q named).groups

pub packets_go_to_addressed : PacketsGoToAddressed
packets_go_to_addressed t steps w leads p there =
    body_addressed w.asked w.proposed p.to p.id p.body ((good_world t steps w leads).skeen.sent p there)

pub deliveries_are_addressed : DeliveriesAreAddressed
deliveries_are_addressed t steps w leads g d there = ((good_world t steps w leads).skeen.groups g).member d there

-- what a group is and has delivered
abbrev Still : World → World → ℕ → Type 0
Still old new g = (new.group g ≡ old.group g) × (log_of new g ≡ log_of old g)

submit_still : (t : Layout) (old : World) (c : ℕ) (task : Task) (gs : List ℕ) (g : ℕ) → Still old (submitted_to old c task gs) g
submit_still t old c task [] g = (refl, refl)
submit_still t old c task (h ∷ hs) g = (refl, refl)

submitted_still : (t : Layout) (old : World) (c : ℕ) (r : Answer) (g : ℕ) → Still old (submitted t old c r) g
submitted_still t old c (Go task) g = submit_still t old c task (task_groups t task) g
submitted_still t old c (Now reply) g = (refl, refl)

deliver_still : (old new : World) (k : ℕ) (effect : Effect) (g : ℕ) → Comes old k effect new → ¬ Brings old (Deliver k) g → Still old new g
deliver_still old new k effect g step none =
    let other : (g == step.packet.to) ≡ false = elim (cases_Bool (g == step.packet.to)) [
      | inl e ↦
          absurd (none (step.packet, step.there, sym (eqb-true g step.packet.to e)))
      | inr e ↦ e
    ] in
    subst (λ w. Still old w g) (sym step.after) (
      cond-false (g == step.packet.to) step.state (old.group g) other,
      ap (λ l. old.gone g ++ l)
          (cond-false (g == step.packet.to) (old.queue step.packet.to ++ step.delivered) (old.queue g) other),
    )

collect_still : (old new : World) (c : ℕ) (s : Standing) (effect : Effect) (g : ℕ) → Collects s old c effect new → Still old new g
collect_still old new c Closed effect g step = absurd step
collect_still old new c Idle effect g step = subst (λ w. Still old w g) (sym step.1) (refl, refl)
collect_still old new c Waiting effect g step = subst (λ w. Still old w g) (sym step.1) (refl, refl)
collect_still old new c (Answered o) effect g step = subst (λ w. Still old w g) (sym step.1) (refl, refl)

pub others_keep_still : OthersKeepStill
others_keep_still t old new Open effect s g none = subst (λ w. Still old w g) (sym s.after) (refl, refl)
others_keep_still t old new (Submit conn words) effect s g none = subst (λ w. Still old w g) (sym s.after)
    (submitted_still t (remembered old conn.0 words) conn.0 (answer_to old conn.0 words) g)
others_keep_still t old new (Deliver k) effect s g none = deliver_still old new k effect g s none
others_keep_still t old new Take effect s g none = subst (λ w. Still old w g) (sym s.after)
    (refl, sym (ap (λ (f : ℕ → List Delivered). f g) (log_taken old.gone old.queue s.layer)))
others_keep_still t old new (Run starved) effect s g none = subst (λ w. Still old w g) (sym s.after) (refl, refl)
others_keep_still t old new Settle effect s g none = subst (λ w. Still old w g) (sym s.after) (refl, refl)
others_keep_still t old new (Collect conn) effect s g none = collect_still old new conn.0 (old.standing conn.0) effect g s
others_keep_still t old new (Close conn) effect s g none = subst (λ w. Still old w g) (sym s.after) (refl, refl)
others_keep_still t old new (Repeat k) effect s g none = subst (λ w. Still old w g) (sym s.after) (refl, refl)

-- ---- what was run

ended_known : (t : Layout) (w : World) → WorldGood t w → (e : Ended) → In e w.ended → Known w.asked w.proposed (delivered_of e)
ended_known t w good e there = good.taken.known (delivered_of e)
    (In-left (delivered_of e) (all_delivered w.ended) (taken_in w.layer) (in_delivered w.ended e there))

in_ids : (es : List Ended) (i : RequestId) → In i (ids_of es) → (e : Ended) × In e es × (i ≡ e.id)
in_ids [] i there = absurd there
in_ids (e ∷ es) i (inl same) = (e, inl refl, same)
in_ids (e ∷ es) i (inr there) = let rest = in_ids es i there in (rest.0, inr rest.1, rest.2)

-- the ids differ where no two of the requests have one
once_from : (es : List Ended) → ((e f : Ended) (before after : List Ended) → es ≡ before ++ e ∷ after → In f after → e.id ≡ f.id → ⊥) →
    EachOnce (ids_of es)
once_from [] apart = tt
once_from (e ∷ es) apart = (
  λ there. let f = in_ids es e.id there in apart e f.0 [] es refl f.1 f.2,
  once_from es (λ d f before after split there same. apart d f (e ∷ before) after (ap (λ l. e ∷ l) split) there same),
)

split_delivered : (before after : List Ended) (e : Ended) →
    all_delivered (before ++ e ∷ after) ≡ all_delivered before ++ delivered_of e ∷ all_delivered after
split_delivered before after e = all_delivered-append before (e ∷ after)

pub once_good : (t : Layout) (w : World) → WorldGood t w → EachOnce (ids_of w.ended)
once_good t w good = once_from w.ended (λ e f before after split there same.
    let whole : all_taken w.ended w.layer ≡ all_delivered (before ++ e ∷ []) ++ (all_delivered after ++ taken_in w.layer) =
    ap (λ es. all_delivered es ++ taken_in w.layer) (split ∙ sym (append_assoc before (e ∷ []) after))
    ∙ ap (λ ds. ds ++ taken_in w.layer) (all_delivered-append (before ++ e ∷ []) after)
    ∙ append_assoc (all_delivered (before ++ e ∷ [])) (all_delivered after) (taken_in w.layer) in
    taken_once t w.asked w.proposed w.gone w.seq w.last (all_delivered (before ++ e ∷ []))
    (all_delivered after ++ taken_in w.layer) good.requests
    (subst (λ ds. TakenGood w.asked w.proposed w.gone ds) whole good.taken)
    (delivered_of e) (delivered_of f)
    (in_delivered (before ++ e ∷ []) e (In-right e before (e ∷ []) (inl refl)))
    (In-left (delivered_of f) (all_delivered after) (taken_in w.layer) (in_delivered after f there)) same)

pub ends_once : EndsOnce
ends_once t steps w leads = once_good t w (good_world t steps w leads)

pub ended_as_submitted : (t : Layout) (w : World) → WorldGood t w → (e : Ended) → In e w.ended → (q : Request) × HasFinal w e.id q e.stamp
    × (e.task ≡ q.task) × (e.groups ≡ q.groups)
ended_as_submitted t w good e there =
    let known = ended_known t w good e there in
    let task = good.run.tasks e there in
    let same : task.0 ≡ known.named.0 = some_same task.0 known.named.0 (sym task.1 ∙ known.named.1) in (
      known.named.0,
      record { submitted = known.named.1; stamp = ap (λ gs. final (w.proposed e.id) gs) known.named.2 ∙ known.stamp },
      task.2 ∙ ap (λ (q : Request). q.task) same,
      sym known.named.2,
    )

pub ends_as_submitted : EndsAsSubmitted
ends_as_submitted t steps w leads e there = ended_as_submitted t w (good_world t steps w leads) e there

touching_ended : (es : List Ended) → Rising Touching (all_delivered es) → Rising TouchingByStamp es
touching_ended [] up = tt
touching_ended (e ∷ es) up = (λ f there. up.0 (delivered_of f) (in_delivered es f there), touching_ended es up.1)

pub touching_good : (t : Layout) (w : World) → WorldGood t w → Rising TouchingByStamp w.ended
touching_good t w good = touching_ended w.ended (rising_left Touching (all_delivered w.ended) (taken_in w.layer) good.taken.order)

pub touching_end_in_stamp_order : TouchingEndInStampOrder
touching_end_in_stamp_order t steps w leads = touching_good t w (good_world t steps w leads)

-- ---- what has ended stays

abbrev Kept : World → World → Type 0
Kept old new = (more : List Ended) × (new.ended ≡ old.ended ++ more)

none_more : (old new : World) → new.ended ≡ old.ended → Kept old new
none_more old new same = ([], same ∙ sym (append-nil old.ended))

submitted_to_kept : (old : World) (c : ℕ) (task : Task) (gs : List ℕ) → (submitted_to old c task gs).ended ≡ old.ended
submitted_to_kept old c task [] = refl
submitted_to_kept old c task (g ∷ gs) = refl

submitted_kept : (t : Layout) (old : World) (c : ℕ) (r : Answer) → (submitted t old c r).ended ≡ old.ended
submitted_kept t old c (Go task) = submitted_to_kept old c task (task_groups t task)
submitted_kept t old c (Now reply) = refl

collect_kept : (old new : World) (c : ℕ) (s : Standing) (effect : Effect) → Collects s old c effect new → Kept old new
collect_kept old new c Closed effect step = absurd step
collect_kept old new c Idle effect step = none_more old new (ap (λ (w : World). w.ended) step.1)
collect_kept old new c Waiting effect step = none_more old new (ap (λ (w : World). w.ended) step.1)
collect_kept old new c (Answered o) effect step = none_more old new (ap (λ (w : World). w.ended) step.1)

pub ended_is_kept : EndedIsKept
ended_is_kept t old new Open effect s = none_more old new (ap (λ (w : World). w.ended) s.after)
ended_is_kept t old new (Submit conn words) effect s = none_more old new (ap (λ (w : World). w.ended) s.after
    ∙ submitted_kept t (remembered old conn.0 words) conn.0 (answer_to old conn.0 words))
ended_is_kept t old new (Deliver k) effect s = none_more old new (ap (λ (w : World). w.ended) s.after)
ended_is_kept t old new Take effect s = none_more old new (ap (λ (w : World). w.ended) s.after)
ended_is_kept t old new (Run starved) effect s = (s.outcomes, ap (λ (w : World). w.ended) s.after)
ended_is_kept t old new Settle effect s = none_more old new (ap (λ (w : World). w.ended) s.after)
ended_is_kept t old new (Collect conn) effect s = collect_kept old new conn.0 (old.standing conn.0) effect s
ended_is_kept t old new (Close conn) effect s = none_more old new (ap (λ (w : World). w.ended) s.after)
ended_is_kept t old new (Repeat k) effect s = none_more old new (ap (λ (w : World). w.ended) s.after)
