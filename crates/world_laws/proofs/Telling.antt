-- What is asked and answered comes from what was submitted.
use Rattle.std.proofs.Common.{◌≡◌, ℕ, suc, ◌==◌, List, [], ◌∷◌, ◌⊎◌, inl, inr}
use Rattle.std.proofs.Common.{Option, Some, None, refl, sym, ap, ◌∙◌}
use Rattle.std.proofs.Common.{subst}
use Rattle.std.proofs.lemmas.Bool.{cases_Bool}
use Rattle.journal.specs.declared.step.Step.{Step}
use Rattle.journal.specs.declared.step.Step.TheVariants.{Open, Submit, Deliver, Take, Run, Settle, Collect, Close, Repeat}
use Rattle.placement.specs.Layout.{Layout}
use Rattle.resp.specs.Content.{Content}
use Rattle.groups.proofs.Ids.{same_id-true}
use Rattle.skeen_core.proofs.Lawful.{None≢Some}
use Rattle.groups.specs.Request.{same_id}
use Rattle.groups.specs.declared.request.ConnId.{ConnId}
use Rattle.groups.specs.declared.request.RequestId.{RequestId}
use Rattle.sessions.specs.Session.{Answer, Now, Go}
use Rattle.tasks.specs.Tasks.{Task, task_groups}
use Rattle.world.specs.Steps.{at, opening, Effect, Submitted, Collected, next_id, floor_of, multicast, answered, submitted_to, submitted}
use Rattle.world.specs.Steps.{remembered, answer_to, outcome_of, Collects, Steps, Makes}
use Rattle.world.specs.World.{World, Request, Outcome, Standing, Closed, Idle, Waiting, Answered, Ended}
use Rattle.world_laws.specs.Collecting.{Submits, WasSubmittedFrom, WasSubmitted, ComesTo, reply_at_none, reply_at_once, IsRepliedAtOnce}
use Rattle.world_laws.specs.Collecting.{AskedAsSubmitted, CollectsItsOwn}
use Rattle.world_laws.specs.Sessions.{Sessions, sessions_after}
use Rattle.world_laws.proofs.Connections.{settled_result}
use Rattle.world_laws.proofs.Groups.{by_test}
use Rattle.world_laws.proofs.Sessions.{session_step}
use Rattle.world_laws.proofs.Worlds.{keeps_all, good_opening}
use Rattle.std.proofs.lemmas.Bool.{cond-true, cond-false}
use Rattle.world_laws.proofs.Values.{idle_not_answered, waiting_not_answered, closed_not_answered, same_outcome, same_collected}

-- what is asked has property H, and what is answered at once has property K
record Said (w : World) (H : RequestId → Task → Type 0) (K : RequestId → Content → Type 0) : Type 0 where
  pub asked : (i : RequestId) (q : Request) → w.asked i ≡ Some q → H i q.task
  pub answers : (c : ℕ) (o : Outcome) → w.standing c ≡ Answered o → o.stamp ≡ None → K o.id o.reply

-- the same world but for its standings
said_same : (old new : World) (H : RequestId → Task → Type 0) (K : RequestId → Content → Type 0) → new.asked ≡ old.asked →
    ((c : ℕ) (o : Outcome) → new.standing c ≡ Answered o → o.stamp ≡ None → (d : ℕ) × (old.standing d ≡ Answered o)) → Said old H K →
    Said new H K
said_same old new H K same from said = record {
  asked = λ i q e. said.asked i q (sym (ap (λ (f : RequestId → Option Request). f i) same) ∙ e);
  answers = λ c o is none. let before = from c o is none in said.answers before.0 o before.1 none;
}

said_more : (w : World) (H H' : RequestId → Task → Type 0) (K K' : RequestId → Content → Type 0) →
    ((i : RequestId) (c : Task) → H i c → H' i c) → ((i : RequestId) (r : Content) → K i r → K' i r) → Said w H K → Said w H' K'
said_more w H H' K K' h k said = record {
  asked = λ i q e. h i q.task (said.asked i q e);
  answers = λ c o is none. k o.id o.reply (said.answers c o is none);
}

-- a connection's standing changes to one without an outcome
kept_answer : (standing : ℕ → Standing) (c : ℕ) (s : Standing) → ((o : Outcome) → s ≡ Answered o → ⊥) → (d : ℕ) (o : Outcome) →
    at standing c s d ≡ Answered o → (e : ℕ) × (standing e ≡ Answered o)
kept_answer standing c s none d o is = elim (cases_Bool (d == c)) [
  | inl e ↦ absurd (none o (sym (cond-true (d == c) s (standing d) e) ∙ is))
  | inr e ↦ (d, sym (cond-false (d == c) s (standing d) e) ∙ is)
]

-- ---- Submit

said_answered : (old : World) (H : RequestId → Task → Type 0) (K : RequestId → Content → Type 0) (c : ℕ) (reply : Content) →
    K (next_id old c) reply → Said old H K → Said (answered old c reply) H K
said_answered old H K c reply k said = record {
  asked = said.asked;
  answers = λ d o is none. elim (cases_Bool (d == c)) [
    | inl e ↦
        let same = same_outcome (record { id = next_id old c; reply = reply; stamp = None }) o
        (sym (cond-true (d == c) (Answered (record { id = next_id old c; reply = reply; stamp = None })) (old.standing d) e) ∙ is) in
        subst (λ (p : Outcome). K p.id p.reply) same k
    | inr e ↦ said.answers d o (sym (cond-false (d == c) (Answered (record { id = next_id old c; reply = reply; stamp = None }))
        (old.standing d) e) ∙ is) none
  ];
}

said_multicast : (old : World) (H : RequestId → Task → Type 0) (K : RequestId → Content → Type 0) (c : ℕ) (q : Request) →
    H (next_id old c) q.task → Said old H K → Said (multicast old c q) H K
said_multicast old H K c q h said = record {
  asked = λ i r e. by_test (same_id i (next_id old c)) q (old.asked i) r (H i r.task) e
      (λ s new. subst (λ (x : Request). H i x.task) new (subst (λ j. H j q.task) (sym (same_id-true i (next_id old c) s)) h))
      (λ s before. said.asked i r before);
  answers = λ d o is none. let before = kept_answer old.standing c Waiting waiting_not_answered d o is in
      said.answers before.0 o before.1 none;
}

said_submitted_to : (t : Layout) (old : World) (H : RequestId → Task → Type 0) (K : RequestId → Content → Type 0) (c : ℕ)
    (task : Task) (gs : List ℕ) → H (next_id old c) task →
    ((r : Content) → reply_at_none task gs ≡ Some r → K (next_id old c) r) → Said old H K → Said (submitted_to old c task gs) H K
said_submitted_to t old H K c task [] h k said =
    said_answered old H K c _ (k _ refl) said
said_submitted_to t old H K c task (g ∷ gs) h k said =
    said_multicast old H K c (record { floor = floor_of old c; groups = g ∷ gs; task = task }) h said

said_submitted : (t : Layout) (old : World) (H : RequestId → Task → Type 0) (K : RequestId → Content → Type 0) (c : ℕ)
    (r : Answer) → ((task : Task) → r ≡ Go task → H (next_id old c) task) →
    ((reply : Content) → reply_at_once t r ≡ Some reply → K (next_id old c) reply) → Said old H K → Said (submitted t old c r) H K
said_submitted t old H K c (Go task) h k said = said_submitted_to t old H K c task (task_groups t task) (h task refl) k said
said_submitted t old H K c (Now reply) h k said = said_answered old H K c reply (k reply refl) said

-- ---- all steps

abbrev More : (RequestId → Task → Type 0) → Sessions → Step → Effect → RequestId → Task → Type 0
More H sessions s e i task = H i task ⊎ Submits (ComesTo task) i sessions s e

abbrev MoreReplies : Layout → (RequestId → Content → Type 0) → Sessions → Step → Effect → RequestId → Content → Type 0
MoreReplies t K sessions s e i reply = K i reply ⊎ Submits (IsRepliedAtOnce t reply) i sessions s e

said_now : (t : Layout) (old new : World) (H : RequestId → Task → Type 0) (K : RequestId → Content → Type 0) (s : Step) (e : Effect) →
    new.asked ≡ old.asked →
    ((c : ℕ) (o : Outcome) → new.standing c ≡ Answered o → o.stamp ≡ None → (d : ℕ) × (old.standing d ≡ Answered o)) → Said old H K →
    Said new (More H old.session s e) (MoreReplies t K old.session s e)
said_now t old new H K s e same from said = said_more new H (More H old.session s e) K (MoreReplies t K old.session s e)
    (λ i c h. inl h) (λ i r k. inl k) (said_same old new H K same from said)

said_collects : (t : Layout) (old new : World) (H : RequestId → Task → Type 0) (K : RequestId → Content → Type 0) (conn : ConnId)
    (s : Standing) (e : Effect) → Collects s old conn.0 e new → Said old H K →
    Said new (More H old.session (Collect conn) e) (MoreReplies t K old.session (Collect conn) e)
said_collects t old new H K conn Closed e step said = absurd step
said_collects t old new H K conn Idle e step said = said_now t old new H K (Collect conn) e (ap (λ (w : World). w.asked) step.1)
    (λ c o is none. (c, sym (ap (λ (w : World). w.standing c) step.1) ∙ is)) said
said_collects t old new H K conn Waiting e step said = said_now t old new H K (Collect conn) e (ap (λ (w : World). w.asked) step.1)
    (λ c o is none. (c, sym (ap (λ (w : World). w.standing c) step.1) ∙ is)) said
said_collects t old new H K conn (Answered p) e step said = said_now t old new H K (Collect conn) e (ap (λ (w : World). w.asked) step.1)
    (λ c o is none. kept_answer old.standing conn.0 Idle idle_not_answered c o (sym (ap (λ (w : World). w.standing c) step.1) ∙ is)) said

-- once these words were submitted
abbrev Asks : (RequestId → Task → Type 0) → World → ConnId → List (List ℕ) → RequestId → Task → Type 0
Asks H old conn words = More H old.session (Submit conn words) (Submitted (next_id old conn.0))

abbrev Replies : Layout → (RequestId → Content → Type 0) → World → ConnId → List (List ℕ) → RequestId → Content → Type 0
Replies t K old conn words = MoreReplies t K old.session (Submit conn words) (Submitted (next_id old conn.0))

some_not_none : (e : Ended) (o : Outcome) → Answered (outcome_of e) ≡ Answered o → o.stamp ≡ None → ⊥
some_not_none e o is none = None≢Some e.stamp (sym none ∙ ap (λ (p : Outcome). p.stamp) (sym (same_outcome (outcome_of e) o is)))

said_step : (t : Layout) (old new : World) (H : RequestId → Task → Type 0) (K : RequestId → Content → Type 0) (s : Step) (e : Effect) →
    Steps t old s e new → Said old H K → Said new (More H old.session s e) (MoreReplies t K old.session s e)
said_step t old new H K Open e step said = said_now t old new H K Open e (ap (λ (w : World). w.asked) step.after)
    (λ c o is none. kept_answer old.standing (suc old.opened) Idle idle_not_answered c o (sym (ap (λ (w : World). w.standing c) step.after)
    ∙ is)) said
said_step t old new H K (Submit conn words) e step said =
    subst (λ f. Said new (More H old.session (Submit conn words) f) (MoreReplies t K old.session (Submit conn words) f)) (sym step.answers)
    (subst (λ w. Said w (Asks H old conn words) (Replies t K old conn words)) (sym step.after)
    (said_submitted t (remembered old conn.0 words) (Asks H old conn words) (Replies t K old conn words) conn.0 (answer_to old conn.0 words)
    (λ task is. inr (refl, refl, is)) (λ reply is. inr (refl, refl, is))
    (said_more (remembered old conn.0 words) H _ K _ (λ i c h. inl h) (λ i r k. inl k)
    (record { asked = said.asked; answers = said.answers }))))
said_step t old new H K (Deliver k) e step said = said_now t old new H K (Deliver k) e (ap (λ (w : World). w.asked) step.after)
    (λ c o is none. (c, sym (ap (λ (w : World). w.standing c) step.after) ∙ is)) said
said_step t old new H K Take e step said = said_now t old new H K Take e (ap (λ (w : World). w.asked) step.after)
    (λ c o is none. (c, sym (ap (λ (w : World). w.standing c) step.after) ∙ is)) said
said_step t old new H K (Run starved) e step said = said_now t old new H K (Run starved) e (ap (λ (w : World). w.asked) step.after)
    (λ c o is none. (c, sym (ap (λ (w : World). w.standing c) step.after) ∙ is)) said
said_step t old new H K Settle e step said = said_now t old new H K Settle e (ap (λ (w : World). w.asked) step.after)
    (λ c o is none. let now = sym (ap (λ (w : World). w.standing c) step.after) ∙ is in elim (settled_result step.outcomes old.standing c) [
      | inl same ↦ (c, sym same ∙ now)
      | inr got ↦ absurd (some_not_none got.0 o (sym got.3 ∙ now) none)
    ]) said
said_step t old new H K (Collect conn) e step said = said_collects t old new H K conn (old.standing conn.0) e step said
said_step t old new H K (Close conn) e step said = said_now t old new H K (Close conn) e (ap (λ (w : World). w.asked) step.after)
    (λ c o is none. kept_answer old.standing conn.0 Closed closed_not_answered c o (sym (ap (λ (w : World). w.standing c) step.after)
    ∙ is)) said
said_step t old new H K (Repeat k) e step said = said_now t old new H K (Repeat k) e (ap (λ (w : World). w.asked) step.after)
    (λ c o is none. (c, sym (ap (λ (w : World). w.standing c) step.after) ∙ is)) said

-- ---- histories

abbrev WasAsked : (RequestId → Task → Type 0) → Sessions → List Step → List Effect → RequestId → Task → Type 0
WasAsked H sessions ss es i task = H i task ⊎ WasSubmittedFrom (ComesTo task) i sessions ss es

abbrev WasReplied : Layout → (RequestId → Content → Type 0) → Sessions → List Step → List Effect → RequestId → Content → Type 0
WasReplied t K sessions ss es i reply = K i reply ⊎ WasSubmittedFrom (IsRepliedAtOnce t reply) i sessions ss es

regroup : {A B C : Type 0} → (A ⊎ B) ⊎ C → A ⊎ (B ⊎ C)
regroup (inl (inl a)) = inl a
regroup (inl (inr b)) = inr (inl b)
regroup (inr c) = inr (inr c)

said_steps : (t : Layout) (old new : World) (H : RequestId → Task → Type 0) (K : RequestId → Content → Type 0) (ss : List Step)
    (es : List Effect) → Makes t old ss es new → Said old H K → Said new (WasAsked H old.session ss es) (WasReplied t K old.session ss es)
said_steps t old new H K [] es made said = subst (λ w. Said w (WasAsked H old.session [] es) (WasReplied t K old.session [] es))
    (sym made.1)
    (said_more old H _ K _ (λ i c h. inl h) (λ i r k. inl k) said)
said_steps t old new H K (s ∷ ss) [] made said = absurd made
said_steps t old new H K (s ∷ ss) (e ∷ es) made said =
    said_more new (WasAsked (More H old.session s e) (sessions_after old.session s) ss es) (WasAsked H old.session (s ∷ ss) (e ∷ es))
    (WasReplied t (MoreReplies t K old.session s e) (sessions_after old.session s) ss es) (WasReplied t K old.session (s ∷ ss) (e ∷ es))
    (λ i c h. regroup h) (λ i r k. regroup k)
    (subst (λ x. Said new (WasAsked (More H old.session s e) x ss es) (WasReplied t (MoreReplies t K old.session s e) x ss es))
    (session_step t old made.0 s e made.1)
    (said_steps t made.0 new (More H old.session s e) (MoreReplies t K old.session s e) ss es made.2
    (said_step t old made.0 H K s e made.1 said)))

said_opening : Said opening (λ i c. ⊥) (λ i r. ⊥)
said_opening = record { asked = λ i q e. None≢Some q e; answers = λ c o is none. closed_not_answered o is }

said_world : (t : Layout) (steps : List Step) (effects : List Effect) (w : World) → Makes t opening steps effects w →
    Said w (λ i c. WasSubmitted (ComesTo c) i steps effects) (λ i r. WasSubmitted (IsRepliedAtOnce t r) i steps effects)
said_world t steps effects w made =
    said_more w _ (λ i c. WasSubmitted (ComesTo c) i steps effects) _ (λ i r. WasSubmitted (IsRepliedAtOnce t r) i steps effects)
    (λ i c h. second h) (λ i r k. second k)
    (said_steps t opening w (λ i c. ⊥) (λ i r. ⊥) steps effects made said_opening)
  where
    second : {A : Type 0} → ⊥ ⊎ A → A
    second (inl none) = absurd none
    second (inr a) = a

pub asked_as_submitted : AskedAsSubmitted
asked_as_submitted t steps effects w made i q named = (said_world t steps effects w made).asked i q named

stood : (old new : World) (c : ℕ) (s : Standing) (o : Outcome) → old.standing c ≡ s → Collects s old c (Collected (Some o)) new →
    old.standing c ≡ Answered o
stood old new c Closed o is step = absurd step
stood old new c Idle o is step = absurd (cc step.0)
stood old new c Waiting o is step = absurd (cc step.0)
stood old new c (Answered p) o is step = is ∙ ap Answered (sym (same_collected o p step.0))

pub collects_its_own : CollectsItsOwn
collects_its_own t steps effects old new made conn o step =
    let good = keeps_all t opening old steps effects made (good_opening t) in
    let there = stood old new conn.0 (old.standing conn.0) o refl step in
    let it = good.connections.outcomes conn.0 o there in (
      λ k. record { conn = record { 0 = it.conn k }; seq = it.latest k },
      elim it.from [
        | inl none ↦ inr (none, (said_world t steps effects old made).answers conn.0 o there none)
        | inr e ↦ inl e
      ],
    )
