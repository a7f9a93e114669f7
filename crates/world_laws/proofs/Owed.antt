-- Every world owes what a good one may owe.
use Rattle.std.proofs.Common.{◌≡◌, ℕ, ◌==◌, true, false, cond, List, [], ◌∷◌, ◌++◌, ◌⊎◌, inl, inr, Some, slice_get, refl}
use Rattle.std.proofs.Common.{sym, ap, ◌∙◌, subst, eqb-true, eq-eqb, append_assoc}
use Rattle.std.proofs.lemmas.Bool.{both_ways}
use Rattle.delivery.proofs.Layers.{taken_somewhere}
use Rattle.delivery.specs.Ready.{taken_from}
use Rattle.journal.specs.declared.step.Step.{Step}
use Rattle.journal.specs.declared.step.Step.TheVariants.{Open, Submit, Deliver, Take, Run, Settle, Collect, Close, Repeat}
use Rattle.placement.specs.Layout.{Layout}
use Rattle.skeen_core.proofs.Lawful.{None≢Some, named}
use Rattle.groups.proofs.Ids.{same_id-true}
use Rattle.groups.proofs.Lists.{In-left, In-right, In-append}
use Rattle.skeen_core.specs.Group.{GroupState, heard, has_id}
use Rattle.groups.specs.Order.{In}
use Rattle.groups.specs.Request.{same_id}
use Rattle.skeen_core.specs.declared.packet.Body.TheVariants.{Start, Proposal}
use Rattle.skeen_core.specs.declared.packet.Delivered.{Delivered}
use Rattle.skeen_core.specs.declared.packet.Packet.{Packet}
use Rattle.groups.specs.declared.skip_id.SkipId.{SkipId}
use Rattle.sessions.specs.Session.{Answer, Now, Go}
use Rattle.tasks.specs.Tasks.{Task, task_groups}
use Rattle.world.specs.Steps.{at, starts, opening, Effect, next_id, floor_of, multicast, submitted_to, submitted, remembered, answer_to, Comes}
use Rattle.world.specs.Steps.{Repeats, Takes, RunsLayer, Settles, Collects, Steps, Makes, Leads}
use Rattle.world.specs.World.{World, Request, Standing, Closed, Idle, Waiting, Answered, Proposals}
use Rattle.world_laws.specs.Good.{IsOut, BodyGood, log_of, all_delivered, all_taken, WorldGood}
use Rattle.world_laws.specs.Quiet.{told_by, GroupOwes, OwesGood}
use Rattle.world_laws.proofs.Arrivals.{hearing, beginning, Arrival, LeftOut, Begins, Hears, arrival}
use Rattle.world_laws.proofs.ConditionLaws.{delivered_same}
use Rattle.world_laws.proofs.Groups.{by_test}
use Rattle.world_laws.proofs.Layers.{log_taken, taken_run}
use Rattle.world_laws.proofs.Lists.{in_place}
use Rattle.world_laws.proofs.Owing.{owes_delivers, without_owes, begins_owes, begins_mid_owes, hears_mid_owes}
use Rattle.world_laws.proofs.Requests.{next_is_new}
use Rattle.world_laws.proofs.Worlds.{good_remembered, keeps, good_opening}

abbrev pub Owes : World → Type 0
Owes w = OwesGood w.asked w.proposed w.packets w.group (log_of w) w.gone (all_taken w.ended w.layer)

-- ---- Deliver

owes_at : (w : World) (proposed : Proposals) (packets : List Packet) (to : ℕ) (state : GroupState) (ds : List Delivered) →
    ((g : ℕ) → (g == to) ≡ false → GroupOwes w.asked proposed packets g (w.group g) (log_of w g)) →
    GroupOwes w.asked proposed packets to state (log_of w to ++ ds) →
    (g : ℕ) → GroupOwes w.asked proposed packets g (at w.group to state g) (w.gone g ++ at w.queue to (w.queue to ++ ds) g)
owes_at w proposed packets to state ds others mine g =
    elim (g == to) as (λ b. (g == to) ≡ b → GroupOwes w.asked proposed packets g (cond b state (w.group g))
    (w.gone g ++ cond b (w.queue to ++ ds) (w.queue g))) [
      | true ↦ λ e. subst (λ h. GroupOwes w.asked proposed packets h state (w.gone h ++ (w.queue to ++ ds))) (sym (eqb-true g to e))
          (subst (λ l. GroupOwes w.asked proposed packets to state l) (append_assoc (w.gone to) (w.queue to) ds) mine)
      | false ↦ λ e. others g e
    ] refl

owes_arrives : (t : Layout) (w new : World) (k : ℕ) (p : Packet) → slice_get w.packets k ≡ Some p → Arrival w k p new → WorldGood t w →
    Owes w → Owes new
owes_arrives t w new k p there (LeftOut told out same) good owes = subst (λ v. Owes v) (sym same) (record {
  groups = λ g. without_owes w k p there g (λ i h n is. subst (λ (x : Packet). IsOut (log_of w x.to) x.id) (sym is)
      (out h n (ap (λ (x : Packet). x.body) (sym is)))) (owes.groups g);
  taken = owes.taken;
})
owes_arrives t w new k p there (Begins floor groups ds is none delivers reached same) good owes =
    let body : BodyGood w.asked w.proposed p.to p.id (Start floor groups) =
    subst (λ b. BodyGood w.asked w.proposed p.to p.id b) is (good.skeen.sent p (in_place w.packets k p there)) in
    subst (λ v. Owes v) (sym same) (record {
      groups = owes_at w _ _ p.to _ ds (λ g other. begins_owes w k p floor groups there is body g other (owes.groups g))
          (owes_delivers w.asked _ _ p.to (beginning w p floor groups) (log_of w p.to) ds
          (begins_mid_owes w k p floor groups there is (owes.groups p.to)));
      taken = owes.taken;
    })
owes_arrives t w new k p there (Hears from n ds is delivers reached same) good owes =
    let body : BodyGood w.asked w.proposed p.to p.id (Proposal from n) =
    subst (λ b. BodyGood w.asked w.proposed p.to p.id b) is (good.skeen.sent p (in_place w.packets k p there)) in
    subst (λ v. Owes v) (sym same) (record {
      groups = owes_at w _ _ p.to _ ds (λ g other. without_owes w k p there g
          (λ i h m is'. absurd (both_ways _ other (eq-eqb g p.to (ap (λ (x : Packet). x.to) is')))) (owes.groups g))
          (owes_delivers w.asked _ _ p.to (hearing w p from n) (log_of w p.to) ds
          (hears_mid_owes w k p from n there is body.0 (owes.groups p.to)));
      taken = owes.taken;
    })

owes_deliver : (t : Layout) (old new : World) (k : ℕ) (effect : Effect) → Comes old k effect new → WorldGood t old → Owes old → Owes new
owes_deliver t old new k effect step good owes =
    owes_arrives t old new k step.packet step.there (arrival t old new k effect step good) good owes

-- ---- Repeat

owes_repeat : (old new : World) (k : ℕ) (effect : Effect) → Repeats old k effect new → Owes old → Owes new
owes_repeat old new k effect step owes = subst (λ w. Owes w) (sym step.after) (record {
  groups = λ g. record {
    told = λ i r h n named_ member e. elim ((owes.groups g).told i r h n named_ member e) [
      | inl there ↦ inl there
      | inr (inr out) ↦ inr (inr out)
      | inr (inl is_sent) ↦ inr (inl (In-left _ old.packets (step.packet ∷ []) is_sent))
    ];
  };
  taken = owes.taken;
})

-- ---- Submit

owes_multicast : (t : Layout) (w : World) (c : ℕ) (q : Request) → WorldGood t w → Owes w → Owes (multicast w c q)
owes_multicast t w c q good owes = record {
  groups = λ g. record {
    told = λ i r h n named_ member e. by_test (same_id i (next_id w c)) q (w.asked i) r ((heard (w.group g) i h ≡ Some n)
        ⊎ (In (told_by g i h n) (w.packets ++ starts (next_id w c) q q.groups) ⊎ IsOut (log_of w g) i)) named_
        (λ p new.
        let made = good.skeen.made i h n e in
        let none = next_is_new t w.asked w.proposed w.seq w.last c good.requests in
        absurd (None≢Some made.0 (sym none ∙ ap w.asked (sym (same_id-true i (next_id w c) p)) ∙ made.1)))
        (λ p old. elim ((owes.groups g).told i r h n old member e) [
          | inl there ↦ inl there
          | inr (inr out) ↦ inr (inr out)
          | inr (inl is_sent) ↦ inr (inl (In-left _ w.packets (starts (next_id w c) q q.groups) is_sent))
        ]);
  };
  taken = owes.taken;
}

owes_submitted_to : (t : Layout) (w : World) (c : ℕ) (task : Task) (gs : List ℕ) → WorldGood t w → Owes w →
    Owes (submitted_to w c task gs)
owes_submitted_to t w c task [] good owes = owes
owes_submitted_to t w c task (g ∷ gs) good owes =
    owes_multicast t w c (record { floor = floor_of w c; groups = g ∷ gs; task = task }) good owes

owes_submitted : (t : Layout) (w : World) (c : ℕ) (r : Answer) → WorldGood t w → Owes w → Owes (submitted t w c r)
owes_submitted t w c (Go task) good owes = owes_submitted_to t w c task (task_groups t task) good owes
owes_submitted t w c (Now reply) good owes = owes

-- ---- Take, Run, Settle

-- what a layer takes from a queue stood there, and has an id of the layer
taken_stood : (layer ds : List Delivered) (d : Delivered) → In d (taken_from layer ds) → (has_id layer d.id ≡ true) × In d ds
taken_stood layer [] d there = absurd there
taken_stood layer (e ∷ es) d there = elim (has_id layer e.id) as (λ b. has_id layer e.id ≡ b → In d (cond b (e ∷ taken_from layer es) []) →
    (has_id layer d.id ≡ true) × In d (e ∷ es)) [
      | true ↦ λ named_. elim [
        | inl same ↦ (ap (λ (x : Delivered). has_id layer x.id) same ∙ named_, inl same)
        | inr later ↦ let rest = taken_stood layer es d later in (rest.0, inr rest.1)
      ]
      | false ↦ λ named_ none. absurd none
    ] refl there

owes_take : (t : Layout) (old new : World) (effect : Effect) → Takes old effect new → WorldGood t old → Owes old → Owes new
owes_take t old new effect step good owes = subst (λ w. Owes w) (sym step.after) (record {
  groups = λ g. subst (λ (log : ℕ → List Delivered). GroupOwes old.asked old.proposed old.packets g (old.group g) (log g))
      (log_taken old.gone old.queue step.layer) (owes.groups g);
  taken = λ g d there. elim (In-append d (old.gone g) (taken_from step.layer (old.queue g)) there) [
    | inl before ↦
        let earlier = subst (λ l. In d (all_taken old.ended l)) step.free (owes.taken g d before) in
        elim (In-append d (all_delivered old.ended) [] earlier) [
          | inl ended ↦ In-left d (all_delivered old.ended) step.layer ended
          | inr none ↦ absurd none
        ]
    | inr now ↦
        let stood = taken_stood step.layer (old.queue g) d now in
        let e = named step.layer d.id stood.0 in
        let at = taken_somewhere old.queue e.one (step.ready.only e.one e.there) in
        let same : e.one ≡ d = delivered_same t old good at.0 g e.one d
        (In-right e.one (old.gone at.0) (old.queue at.0) at.2)
        (In-right d (old.gone g) (old.queue g) stood.1) e.id in
        In-right d (all_delivered old.ended) step.layer (subst (λ x. In x step.layer) same e.there)
  ];
})

owes_run : (old new : World) (starved : List SkipId) (effect : Effect) → RunsLayer old starved effect new → Owes old → Owes new
owes_run old new starved effect step owes = subst (λ w. Owes w) (sym step.after) (record {
  groups = owes.groups;
  taken = λ g d there. subst (λ ds. In d ds) (taken_run old.asked starved old.contents old.ended step.outcomes step.layer step.in_turn)
      (subst (λ l. In d (all_taken old.ended l)) step.there (owes.taken g d there));
})

owes_settle : (old new : World) (effect : Effect) → Settles old effect new → Owes old → Owes new
owes_settle old new effect step owes = subst (λ w. Owes w) (sym step.after) (record {
  groups = owes.groups;
  taken = λ g d there. subst (λ l. In d (all_taken old.ended l)) step.there (owes.taken g d there);
})

-- ---- all steps

owes_collects : (old new : World) (c : ℕ) (s : Standing) (effect : Effect) → Collects s old c effect new → Owes old → Owes new
owes_collects old new c Closed effect step owes = absurd step
owes_collects old new c Idle effect step owes = subst (λ w. Owes w) (sym step.1) owes
owes_collects old new c Waiting effect step owes = subst (λ w. Owes w) (sym step.1) owes
owes_collects old new c (Answered o) effect step owes = subst (λ w. Owes w) (sym step.1) owes

pub owes_step : (t : Layout) (old new : World) (step : Step) (effect : Effect) → Steps t old step effect new → WorldGood t old → Owes old →
    Owes new
owes_step t old new Open effect s good owes = subst (λ w. Owes w) (sym s.after) owes
owes_step t old new (Submit conn words) effect s good owes = subst (λ w. Owes w) (sym s.after)
    (owes_submitted t (remembered old conn.0 words) conn.0 (answer_to old conn.0 words)
    (good_remembered t old conn.0 words s.idle good) owes)
owes_step t old new (Deliver k) effect s good owes = owes_deliver t old new k effect s good owes
owes_step t old new Take effect s good owes = owes_take t old new effect s good owes
owes_step t old new (Run starved) effect s good owes = owes_run old new starved effect s owes
owes_step t old new Settle effect s good owes = owes_settle old new effect s owes
owes_step t old new (Collect conn) effect s good owes = owes_collects old new conn.0 (old.standing conn.0) effect s owes
owes_step t old new (Close conn) effect s good owes = subst (λ w. Owes w) (sym s.after) owes
owes_step t old new (Repeat k) effect s good owes = owes_repeat old new k effect s owes

owes_steps : (t : Layout) (old new : World) (steps : List Step) (effects : List Effect) → Makes t old steps effects new → WorldGood t old →
    Owes old → Owes new
owes_steps t old new [] effects made good owes = subst (λ w. Owes w) (sym made.1) owes
owes_steps t old new (s ∷ ss) [] made good owes = absurd made
owes_steps t old new (s ∷ ss) (e ∷ es) made good owes =
    owes_steps t made.0 new ss es made.2 (keeps t old made.0 s e made.1 good) (owes_step t old made.0 s e made.1 good owes)

owes_opening : Owes opening
owes_opening = record {
  groups = λ g. record { told = λ i q h n named_ member e. absurd (None≢Some n e) };
  taken = λ g d there. absurd there;
}

pub owes_world : (t : Layout) (steps : List Step) (w : World) → Leads t opening steps w → Owes w
owes_world t steps w leads = owes_steps t opening w steps leads.0 leads.1 (good_opening t) owes_opening
