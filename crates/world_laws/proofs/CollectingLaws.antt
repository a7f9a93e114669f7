-- What connections are told, over histories.
use Rattle.std.proofs.Common.{◌≡◌, ℕ, suc, ◌<◌, ◌==◌, true, false, cond, List, [], ◌∷◌, ◌⊎◌, inl, inr, Some, None, refl}
use Rattle.std.proofs.Common.{sym, ap, ◌∙◌, subst, arith, eqb-true, eq-eqb}
use Rattle.std.proofs.lemmas.Bool.{cases_Bool}
use Rattle.journal.specs.declared.step.Step.{Step}
use Rattle.journal.specs.declared.step.Step.TheVariants.{Open, Submit, Deliver, Take, Run, Settle, Collect, Close, Repeat}
use Rattle.placement.specs.Layout.{Layout}
use Rattle.skeen_core.specs.Group.{EachOnce}
use Rattle.groups.specs.Order.{In}
use Rattle.groups.specs.declared.request.RequestId.{RequestId}
use Rattle.sessions.specs.Session.{Answer, Now, Go}
use Rattle.tasks.specs.Tasks.{Task, task_groups}
use Rattle.world.specs.Steps.{at, opening, Effect, Opened, Submitted, Ran, Collected, Made, answered, submitted_to, submitted, settled}
use Rattle.world.specs.Steps.{remembered, answer_to}
use Rattle.world.specs.Steps.{Collects, Steps, Makes}
use Rattle.world.specs.World.{World, Outcome, Standing, Closed, Idle, Waiting, Answered, Ended}
use Rattle.world_laws.specs.Collecting.{with_collected, collected_in, CollectedOnce}
use Rattle.world_laws.specs.Good.{Pending, WorldGood}
use Rattle.world_laws.proofs.Connections.{not_pending, settled_closed, settled_result}
use Rattle.world_laws.proofs.Worlds.{keeps, run_is_pending, good_opening}
use Rattle.std.proofs.lemmas.Bool.{cond-true, cond-false}
use Rattle.world_laws.proofs.Values.{idle_open, idle_not_waiting, idle_not_answered, closed_not_answered, same_collected}

-- ---- a connection's last request once it was collected

-- the connection has submitted another one since, or has nothing
abbrev Spent : World → RequestId → Type 0
Spent w i = (i.seq < w.seq i.conn.0) ⊎ ((i.seq ≡ w.seq i.conn.0) × ((w.standing i.conn.0 ≡ Idle) ⊎ (w.standing i.conn.0 ≡ Closed)))

abbrev Resting : Standing → Type 0
Resting s = (s ≡ Idle) ⊎ (s ≡ Closed)

-- another standing for a connection, where the old one or the new one rests
spent_standing : (old new : World) (i : RequestId) → new.seq i.conn.0 ≡ old.seq i.conn.0 →
    (Resting (old.standing i.conn.0) → Resting (new.standing i.conn.0)) → Spent old i → Spent new i
spent_standing old new i seqs rest (inl less) = inl (omega arith)
spent_standing old new i seqs rest (inr r) = inr (r.0 ∙ sym seqs, rest r.1)

-- one more request of its connection, or of another
spent_submit : (old new : World) (i : RequestId) (c : ℕ) (s : Standing) → ((d : ℕ) → new.seq d ≡ at old.seq c (suc (old.seq c)) d) →
    ((d : ℕ) → new.standing d ≡ at old.standing c s d) → Spent old i → Spent new i
spent_submit old new i c s seqs standings spent = elim (cases_Bool (i.conn.0 == c)) [
  | inl e ↦
      let now = seqs i.conn.0 ∙ cond-true (i.conn.0 == c) (suc (old.seq c)) (old.seq i.conn.0) e in
      let same = ap old.seq (eqb-true i.conn.0 c e) in
      elim spent [ inl less ↦ inl (omega arith) | inr r ↦ let at_seq = r.0 in inl (omega arith) ]
  | inr e ↦
      let now = seqs i.conn.0 ∙ cond-false (i.conn.0 == c) (suc (old.seq c)) (old.seq i.conn.0) e in
      let same = standings i.conn.0 ∙ cond-false (i.conn.0 == c) s (old.standing i.conn.0) e in
      spent_standing old new i now (λ r. subst (λ x. Resting x) (sym same) r) spent
]

spent_submitted_to : (old : World) (i : RequestId) (c : ℕ) (task : Task) (gs : List ℕ) → Spent old i →
    Spent (submitted_to old c task gs) i
spent_submitted_to old i c task [] spent = spent_submit old (submitted_to old c task []) i c _ (λ d. refl) (λ d. refl) spent
spent_submitted_to old i c task (g ∷ gs) spent = spent_submit old (submitted_to old c task (g ∷ gs)) i c Waiting (λ d. refl)
    (λ d. refl) spent

spent_submitted : (t : Layout) (old : World) (i : RequestId) (c : ℕ) (r : Answer) → Spent old i →
    Spent (submitted t old c r) i
spent_submitted t old i c (Go task) spent = spent_submitted_to old i c task (task_groups t task) spent
spent_submitted t old i c (Now reply) spent = spent_submit old (answered old c reply) i c _ (λ d. refl) (λ d. refl) spent

-- a connection that becomes idle or closed
rests_at : (standing : ℕ → Standing) (c d : ℕ) (s : Standing) → Resting s → Resting (standing d) → Resting (at standing c s d)
rests_at standing c d s rest before = elim (d == c) as (λ b. Resting (cond b s (standing d))) [ true ↦ rest | false ↦ before ]

-- a connection at rest gets no outcome
settled_rests : (es : List Ended) (standing : ℕ → Standing) (seq : ℕ → ℕ) (c : ℕ) → ((e : Ended) → In e es → Pending standing seq e.id) →
    Resting (standing c) → Resting (settled es standing c)
settled_rests es standing seq c waits (inr closed) = inr (settled_closed es standing c closed)
settled_rests es standing seq c waits (inl idle) = elim (settled_result es standing c) [
  | inl same ↦ inl (same ∙ idle)
  | inr e ↦ absurd (not_pending standing seq e.0.id Idle (ap standing e.2 ∙ idle) idle_open idle_not_waiting (waits e.0 e.1))
]

spent_collects : (old new : World) (i : RequestId) (c : ℕ) (s : Standing) (effect : Effect) → Collects s old c effect new → Spent old i →
    Spent new i
spent_collects old new i c Closed effect step spent = absurd step
spent_collects old new i c Idle effect step spent = subst (λ w. Spent w i) (sym step.1) spent
spent_collects old new i c Waiting effect step spent = subst (λ w. Spent w i) (sym step.1) spent
spent_collects old new i c (Answered o) effect step spent = subst (λ w. Spent w i) (sym step.1)
    (spent_standing old (record old { standing = at old.standing c Idle }) i refl (rests_at old.standing c i.conn.0 Idle (inl refl)) spent)

spent_step : (t : Layout) (old new : World) (step : Step) (effect : Effect) (i : RequestId) → Steps t old step effect new →
    WorldGood t old → Spent old i → Spent new i
spent_step t old new Open effect i s good spent = subst (λ w. Spent w i) (sym s.after)
    (spent_standing old (record old { opened = suc old.opened; standing = at old.standing (suc old.opened) Idle }) i refl
    (rests_at old.standing (suc old.opened) i.conn.0 Idle (inl refl)) spent)
spent_step t old new (Submit conn words) effect i s good spent = subst (λ w. Spent w i) (sym s.after)
    (spent_submitted t (remembered old conn.0 words) i conn.0 (answer_to old conn.0 words) spent)
spent_step t old new (Deliver k) effect i s good spent = subst (λ w. Spent w i) (sym s.after) spent
spent_step t old new Take effect i s good spent = subst (λ w. Spent w i) (sym s.after) spent
spent_step t old new (Run starved) effect i s good spent = subst (λ w. Spent w i) (sym s.after) spent
spent_step t old new Settle effect i s good spent =
    let waits = run_is_pending t old s.outcomes s.there good in
    subst (λ w. Spent w i) (sym s.after) (elim spent [
      | inl less ↦ inl less
      | inr r ↦ inr (r.0, settled_rests s.outcomes old.standing old.seq i.conn.0 waits r.1)
    ])
spent_step t old new (Collect conn) effect i s good spent = spent_collects old new i conn.0 (old.standing conn.0) effect s spent
spent_step t old new (Close conn) effect i s good spent = subst (λ w. Spent w i) (sym s.after)
    (spent_standing old (record old { standing = at old.standing conn.0 Closed }) i refl
    (rests_at old.standing conn.0 i.conn.0 Closed (inr refl)) spent)
spent_step t old new (Repeat k) effect i s good spent = subst (λ w. Spent w i) (sym s.after) spent

-- ---- who collects

-- a step that answers with an outcome is a Collect of its connection
pub record TakesOutcome (old new : World) (o : Outcome) : Type 0 where
  pub conn : ℕ
  pub stood : old.standing conn ≡ Answered o
  pub idle : new.standing conn ≡ Idle
  pub seqs : new.seq conn ≡ old.seq conn

outcome_collects : (old new : World) (c : ℕ) (s : Standing) (o : Outcome) → old.standing c ≡ s →
    Collects s old c (Collected (Some o)) new → TakesOutcome old new o
outcome_collects old new c Closed o is step = absurd step
outcome_collects old new c Idle o is step = absurd (cc step.0)
outcome_collects old new c Waiting o is step = absurd (cc step.0)
outcome_collects old new c (Answered p) o is step = record {
  conn = c;
  stood = is ∙ ap Answered (sym (same_collected o p step.0));
  idle = ap (λ (w : World). w.standing c) step.1 ∙ cond-true (c == c) Idle (old.standing c) (eq-eqb c c refl);
  seqs = ap (λ (w : World). w.seq c) step.1;
}

takes_outcome : (t : Layout) (old new : World) (step : Step) (o : Outcome) → Steps t old step (Collected (Some o)) new →
    TakesOutcome old new o
takes_outcome t old new Open o s = absurd (cc s.answers)
takes_outcome t old new (Submit conn words) o s = absurd (cc s.answers)
takes_outcome t old new (Deliver k) o s = absurd (cc s.answers)
takes_outcome t old new Take o s = absurd (cc s.answers)
takes_outcome t old new (Run starved) o s = absurd (cc s.answers)
takes_outcome t old new Settle o s = absurd (cc s.answers)
takes_outcome t old new (Collect conn) o s = outcome_collects old new conn.0 (old.standing conn.0) o refl s
takes_outcome t old new (Close conn) o s = absurd (cc s.answers)
takes_outcome t old new (Repeat k) o s = absurd (cc s.answers)

-- what was collected is spent, and what is spent isn't collected
spent_now : (t : Layout) (old new : World) (o : Outcome) → WorldGood t old → TakesOutcome old new o → Spent new o.id
spent_now t old new o good takes =
    let it = good.connections.outcomes takes.conn o takes.stood in
    inr (it.latest ∙ sym takes.seqs ∙ ap new.seq (sym it.conn), inl (ap new.standing it.conn ∙ takes.idle))

not_again : (t : Layout) (old new : World) (o : Outcome) → WorldGood t old → TakesOutcome old new o → Spent old o.id → ⊥
not_again t old new o good takes spent =
    let it = good.connections.outcomes takes.conn o takes.stood in
    let stood : old.standing o.id.conn.0 ≡ Answered o = ap old.standing it.conn ∙ takes.stood in
    let same : old.seq o.id.conn.0 ≡ old.seq takes.conn = ap old.seq it.conn in
    let latest = it.latest in
    elim spent [
      | inl less ↦ omega arith
      | inr r ↦ elim r.1 [ inl idle ↦ idle_not_answered o (sym idle ∙ stood) | inr closed ↦ closed_not_answered o (sym closed ∙ stood) ]
    ]

abbrev Collecting : Effect → RequestId → Type 0
Collecting effect i = (o : Outcome) × (effect ≡ Collected (Some o)) × (o.id ≡ i)

collected_one : (e : Effect) (ids : List RequestId) (i : RequestId) → In i (with_collected e ids) → Collecting e i ⊎ In i ids
collected_one (Collected (Some o)) ids i (inl same) = inl (o, refl, sym same)
collected_one (Collected (Some o)) ids i (inr there) = inr there
collected_one (Collected None) ids i there = inr there
collected_one (Opened c) ids i there = inr there
collected_one (Submitted j) ids i there = inr there
collected_one (Ran is) ids i there = inr there
collected_one Made ids i there = inr there

never_again : (t : Layout) (old new : World) (steps : List Step) (effects : List Effect) (i : RequestId) → Makes t old steps effects new →
    WorldGood t old → Spent old i → In i (collected_in effects) → ⊥
never_again t old new [] effects i made good spent there = subst (λ es. In i (collected_in es)) made.0 there
never_again t old new (s ∷ ss) [] i made good spent there = absurd made
never_again t old new (s ∷ ss) (e ∷ es) i made good spent there = elim (collected_one e (collected_in es) i there) [
  | inl now ↦ not_again t old made.0 now.0 good (takes_outcome t old made.0 s now.0 (subst (λ f. Steps t old s f made.0) now.1 made.1))
      (subst (λ j. Spent old j) (sym now.2) spent)
  | inr later ↦ never_again t made.0 new ss es i made.2 (keeps t old made.0 s e made.1 good)
      (spent_step t old made.0 s e i made.1 good spent) later
]

once_with : (e : Effect) (ids : List RequestId) → ((o : Outcome) → e ≡ Collected (Some o) → In o.id ids → ⊥) → EachOnce ids →
    EachOnce (with_collected e ids)
once_with (Collected (Some o)) ids none once = (none o refl, once)
once_with (Collected None) ids none once = once
once_with (Opened c) ids none once = once
once_with (Submitted j) ids none once = once
once_with (Ran is) ids none once = once
once_with Made ids none once = once

collected_once_from : (t : Layout) (old new : World) (steps : List Step) (effects : List Effect) → Makes t old steps effects new →
    WorldGood t old → EachOnce (collected_in effects)
collected_once_from t old new [] effects made good = subst (λ es. EachOnce (collected_in es)) (sym made.0) tt
collected_once_from t old new (s ∷ ss) [] made good = absurd made
collected_once_from t old new (s ∷ ss) (e ∷ es) made good =
    let next = keeps t old made.0 s e made.1 good in
    once_with e (collected_in es)
    (λ o is there. never_again t made.0 new ss es o.id made.2 next
    (spent_now t old made.0 o good (takes_outcome t old made.0 s o (subst (λ f. Steps t old s f made.0) is made.1))) there)
    (collected_once_from t made.0 new ss es made.2 next)

pub collected_once : CollectedOnce
collected_once t steps effects w made = collected_once_from t opening w steps effects made (good_opening t)
