-- With which words a request was submitted that has ended.
use Rattle.std.proofs.Common.{◌≡◌, ℕ, suc, ◌+◌, ◌<◌, true, List, [], ◌∷◌, ◌++◌, inl, inr, Some, sym, ap, ◌∙◌}
use Rattle.std.proofs.Common.{subst, arith}
use Rattle.cluster.proofs.Submits.{own_submit}
use Rattle.cluster.proofs.Worlds.{step_seq}
use Rattle.cluster.specs.Submits.{submit_by, submits_by, IsSaid, session_met}
use Rattle.groups.specs.GroupSet.{has}
use Rattle.groups.specs.Order.{In}
use Rattle.groups.specs.declared.request.ConnId.{ConnId}
use Rattle.groups.specs.declared.request.RequestId.{RequestId}
use Rattle.journal.specs.declared.step.Step.{Step}
use Rattle.journal.specs.declared.step.Step.TheVariants.{Open, Submit, Deliver, Take, Run, Settle, Collect, Close, Repeat}
use Rattle.placement.specs.Layout.{Layout}
use Rattle.resp.specs.Content.{Content}
use Rattle.sessions.specs.declared.session.Session.{Session}
use Rattle.tasks.specs.Tasks.{Task, task_groups}
use Rattle.world.specs.Steps.{opening, Effect, Opened, Submitted, Ran, Collected, Made, next_id, Steps, Makes, Leads}
use Rattle.world.specs.Steps as world
use Rattle.world.specs.World.{World, Ended}
use Rattle.world_laws.proofs.Telling.{asked_as_submitted}
use Rattle.world_laws.proofs.Worlds.{good_world}
use Rattle.world_laws.specs.Collecting.{Submits, WasSubmittedFrom, ComesTo, reply_at_none, reply_at_once, IsRepliedAtOnce}
use Rattle.world_laws.specs.Sessions.{Sessions, all_free, sessions_after, sessions_from}

module _ (t : Layout) (test : Session → List (List ℕ) → Type 0) (i : RequestId) where
  -- its connection's next request
  abbrev IsNext : World → Step → Type 0
  IsNext w s = (i.seq ≡ suc (w.seq i.conn.0)) × (submit_by i.conn.0 s ≡ 1)

  same_submitted : (j k : RequestId) → Submitted j ≡ Submitted k → j ≡ k
  same_submitted j k same = let e = same in cc

  submit_is_next : (sessions : Sessions) (conn : ConnId) (words : List (List ℕ)) (e : Effect) (old mid : World) →
      world.Submits t old conn.0 words e mid → Submits test i sessions (Submit conn words) e → IsNext old (Submit conn words)
  submit_is_next sessions conn words (Opened c) old mid step now = absurd now
  submit_is_next sessions conn words (Submitted j) old mid step now =
      let same : i ≡ next_id old conn.0 = sym now.1 ∙ same_submitted j (next_id old conn.0) step.answers in (
        ap (λ (k : RequestId). k.seq) same ∙ ap (λ (c : ConnId). suc (old.seq c.0)) now.0,
        ap (λ (c : ConnId). submit_by i.conn.0 (Submit c words)) now.0 ∙ own_submit i.conn words,
      )
  submit_is_next sessions conn words (Ran ids) old mid step now = absurd now
  submit_is_next sessions conn words (Collected o) old mid step now = absurd now
  submit_is_next sessions conn words Made old mid step now = absurd now

  is_next : (sessions : Sessions) (s : Step) (e : Effect) (old mid : World) → Steps t old s e mid → Submits test i sessions s e →
      IsNext old s
  is_next sessions Open e old mid step now = absurd now
  is_next sessions (Submit conn words) e old mid step now = submit_is_next sessions conn words e old mid step now
  is_next sessions (Deliver k) e old mid step now = absurd now
  is_next sessions Take e old mid step now = absurd now
  is_next sessions (Run starved) e old mid step now = absurd now
  is_next sessions Settle e old mid step now = absurd now
  is_next sessions (Collect conn) e old mid step now = absurd now
  is_next sessions (Close conn) e old mid step now = absurd now
  is_next sessions (Repeat k) e old mid step now = absurd now

  -- it passes in the session of its connection
  passes_now : (sessions : Sessions) (words : List (List ℕ)) (e : Effect) → Submits test i sessions (Submit i.conn words) e →
      test (sessions i.conn.0) words
  passes_now sessions words (Opened c) now = absurd now
  passes_now sessions words (Submitted j) now = now.2
  passes_now sessions words (Ran ids) now = absurd now
  passes_now sessions words (Collected o) now = absurd now
  passes_now sessions words Made now = absurd now

  -- what is submitted has a number that its connection has not reached
  is_later : (sessions : Sessions) (ss : List Step) (es : List Effect) (old new : World) → Makes t old ss es new →
      WasSubmittedFrom test i sessions ss es → old.seq i.conn.0 < i.seq
  is_later sessions [] es old new made was = absurd was
  is_later sessions (s ∷ ss) [] old new made was = absurd was
  is_later sessions (s ∷ ss) (e ∷ es) old new made (inl now) =
      let next = is_next sessions s e old made.0 made.1 now in omega (arith, next.0)
  is_later sessions (s ∷ ss) (e ∷ es) old new made (inr later) =
      omega (arith, step_seq t old made.0 s e i.conn.0 made.1, is_later (sessions_after sessions s) ss es made.0 new made.2 later)

  -- where it was submitted, and this is its Submit, the words pass in the session that they met
  pub passes : (words : List (List ℕ)) (before behind : List Step) (sessions : Sessions) (es : List Effect) (old new : World) →
      i.seq ≡ suc (old.seq i.conn.0 + submits_by i.conn.0 before) → Makes t old (before ++ Submit i.conn words ∷ behind) es new →
      WasSubmittedFrom test i sessions (before ++ Submit i.conn words ∷ behind) es → test (sessions_from sessions before i.conn.0) words
  passes words [] behind sessions [] old new number made was = absurd made
  passes words [] behind sessions (e ∷ es) old new number made (inl now) = passes_now sessions words e now
  passes words [] behind sessions (e ∷ es) old new number made (inr later) =
      let more : made.0.seq i.conn.0 ≡ old.seq i.conn.0 + 1 = step_seq t old made.0 (Submit i.conn words) e i.conn.0 made.1
      ∙ ap (λ n. old.seq i.conn.0 + n) (own_submit i.conn words) in
      let less = is_later (sessions_after sessions (Submit i.conn words)) behind es made.0 new made.2 later in
      absurd (omega (arith, number, more, less))
  passes words (s ∷ before) behind sessions [] old new number made was = absurd made
  passes words (s ∷ before) behind sessions (e ∷ es) old new number made (inl now) =
      let next = is_next sessions s e old made.0 made.1 now in
      absurd (omega (arith, number, next.0, next.1))
  passes words (s ∷ before) behind sessions (e ∷ es) old new number made (inr later) =
      let more = step_seq t old made.0 s e i.conn.0 made.1 in
      passes words before behind (sessions_after sessions s) es made.0 new (omega (arith, number, more)) made.2 later

-- ---- of a request that has ended

no_reply : (task : Task) (groups : List ℕ) (reply : Content) → (g : ℕ) × (has groups g ≡ true) → reply_at_none task groups ≡ Some reply → ⊥
no_reply task [] reply some is = let e = some.1 in cc
no_reply task (g ∷ groups) reply some is = let e = is in cc

module _ (t : Layout) (steps : List Step) (w : World) (leads : Leads t opening steps w) (e : Ended) (there : In e w.ended) where
  own_task : (words : List (List ℕ)) (said : IsSaid steps e.id words) → ComesTo e.task (session_met said) words
  own_task words said =
      let q = (good_world t steps w leads).run.tasks e there in
      let was = asked_as_submitted t steps leads.0 w leads.1 e.id q.0 q.1 in
      let test = ComesTo q.0.task in
      let number = said.number in
      subst (λ task. ComesTo task (session_met said) words) (sym q.2)
      (passes t test e.id words said.before said.behind all_free leads.0 opening w (omega (arith, number))
      (subst (λ l. Makes t opening l leads.0 w) said.split leads.1)
      (subst (λ l. WasSubmittedFrom test e.id all_free l leads.0) said.split was))

  -- its task is what its words come to in the session that they met
  pub task_of_words : (i : RequestId) (words : List (List ℕ)) → e.id ≡ i → (said : IsSaid steps i words) →
      ComesTo e.task (session_met said) words
  task_of_words i words same = subst (λ j. (said : IsSaid steps j words) → ComesTo e.task (session_met said) words) same (own_task words)

  -- and they are not answered at once there
  pub not_at_once : (i : RequestId) (words : List (List ℕ)) (reply : Content) → e.id ≡ i → (said : IsSaid steps i words) →
      IsRepliedAtOnce t reply (session_met said) words → ⊥
  not_at_once i words reply same said is =
      let good = good_world t steps w leads in
      let q = good.run.tasks e there in
      let shaped = good.requests.shaped e.id q.0 q.1 in
      let at_none : reply_at_none e.task (task_groups t e.task) ≡ Some reply =
      sym (ap (reply_at_once t) (task_of_words i words same said)) ∙ is in
      let groups : task_groups t e.task ≡ q.0.groups = ap (task_groups t) q.2 ∙ shaped.groups in
      no_reply e.task q.0.groups reply shaped.some (subst (λ gs. reply_at_none e.task gs ≡ Some reply) groups at_none)
