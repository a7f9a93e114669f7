-- What a seat collects.
use Rattle.std.proofs.Common.{◌≡◌, ℕ, suc, ◌+◌, List, [], ◌∷◌, ◌++◌, inl, inr, Option, Some, None, option_map, refl, sym, ap, ◌∙◌, subst}
use Rattle.std.proofs.Common.{arith}
use Rattle.cluster.proofs.Effects.{by_collected, submitted_same}
use Rattle.cluster.proofs.Submits.{said_once}
use Rattle.cluster.proofs.Worlds.{step_seq, same_world}
use Rattle.cluster.specs.Clusters.{SeatView, last_id, CanCollect, IsCollectFault}
use Rattle.cluster.specs.Histories.{HistoryView, IsLawful, IsMade, IsFault}
use Rattle.front.specs.Making.{effect_shown}
use Rattle.cluster.specs.Outcomes.{ComesFrom, IsAbove}
use Rattle.cluster.specs.Submits.{submits_by, IsSaid, session_met}
use Rattle.front.specs.declared.effect.Effect as ours
use Rattle.front.specs.declared.effect.Effect.TheVariants as effect
use Rattle.cluster.specs.declared.fault.StepFault.{StepFault}
use Rattle.cluster.specs.declared.fault.StepFault.TheVariants as fault
use Rattle.groups.proofs.Options.{some_same}
use Rattle.groups.specs.declared.request.ConnId.{ConnId}
use Rattle.groups.specs.declared.request.RequestId.{RequestId}
use Rattle.journal.specs.declared.step.Step.{Step}
use Rattle.journal.specs.declared.step.Step.TheVariants.{Submit, Collect}
use Rattle.placement.specs.Layout.{Layout}
use Rattle.router.specs.Connection.{outcome_in}
use Rattle.router.specs.Router.{RouterView, connection, outcome_at, waiting}
use Rattle.router.specs.declared.connection.Connection.{Connection}
use Rattle.router.specs.declared.connection.Standing as router
use Rattle.router.specs.declared.connection.Standing.TheVariants as stand
use Rattle.router.specs.declared.outcome.Outcome as kept
use Rattle.sessions.specs.declared.session.Session.{Session}
use Rattle.front.specs.Connections.{outcome_shown, ShowsOpen, ShowsClosed, ShowsConnection, ShowsConnections}
use Rattle.world.specs.Steps.{opening, Collects, Steps, Makes}
use Rattle.world.specs.Steps as world
use Rattle.world.specs.World.{World, Outcome, Answered}
use Rattle.world_laws.proofs.Telling.{collects_its_own}
use Rattle.world_laws.proofs.Values.{same_collected}
use Rattle.world_laws.specs.Collecting.{Submits, WasSubmittedFrom, IsRepliedAtOnce, IsItsOwn}
use Rattle.world_laws.specs.Sessions.{Sessions, all_free, sessions_after, sessions_from}

-- ---- an outcome waits

by_open : (s : router.Standing) (o : kept.Outcome) (v : Connection) (w : World) (c : ℕ) → outcome_in s ≡ Some o → ShowsOpen s v w c →
    w.standing c ≡ Answered (outcome_shown o)
by_open (stand.Answered p) o v w c is shows = shows.0 ∙ ap (λ x. Answered (outcome_shown x)) (some_same p o is)
by_open s o v w c is shows = absurd (let k = is in cc)

by_closed : (s : router.Standing) (o : kept.Outcome) (v : Connection) (w : World) (c : ℕ) → outcome_in s ≡ Some o → ShowsClosed s v w c → ⊥
by_closed (stand.Waiting asked) o v w c is shows = let k = is in cc
by_closed stand.Taken o v w c is shows = let k = is in cc
by_closed s o v w c is shows = shows

by_connection : (x : Option Connection) (o : kept.Outcome) (w : World) (c : ℕ) → outcome_at x ≡ Some o → ShowsConnection x w c →
    w.standing c ≡ Answered (outcome_shown o)
by_connection None o w c is shows = absurd (let k = is in cc)
by_connection (Some v) o w c is (seq, inl shows) = by_open v.standing o v w c is shows.1
by_connection (Some v) o w c is (seq, inr shows) = absurd (by_closed v.standing o v w c is shows.1)

pub stands : (r : RouterView) (o : kept.Outcome) (w : World) (c : ℕ) → ShowsConnections r w → waiting r c ≡ Some o →
    w.standing c ≡ Answered (outcome_shown o)
stands r o w c shows is = by_connection (connection r c) o w c is (shows.each c)

-- ---- whose it is

-- the words of a request, which its connection's session and they pass, by what the connections remembered at first
record IsSaidFrom (test : Session → List (List ℕ) → Type 0) (i : RequestId) (sessions : Sessions) (h : List Step) (seq : ℕ) : Type 0 where
  pub words : List (List ℕ)
  pub before : List Step
  pub behind : List Step
  pub split : h ≡ before ++ Submit i.conn words ∷ behind
  pub number : i.seq ≡ suc (seq + submits_by i.conn.0 before)
  pub passes : test (sessions_from sessions before i.conn.0) words

submitted_now : (t : Layout) (test : Session → List (List ℕ) → Type 0) (i : RequestId) (sessions : Sessions) (conn : ConnId)
    (words : List (List ℕ)) (h : List Step) (e : world.Effect) (old mid : World) → world.Submits t old conn.0 words e mid →
    Submits test i sessions (Submit conn words) e → IsSaidFrom test i sessions (Submit conn words ∷ h) (old.seq i.conn.0)
submitted_now t test i sessions conn words h (world.Submitted j) old mid step now =
    let same : i ≡ world.next_id old conn.0 = sym now.1 ∙ submitted_same j (world.next_id old conn.0) step.answers in
    let seq = ap (λ (k : RequestId). k.seq) same in
    let number : i.seq ≡ suc (old.seq i.conn.0) = seq ∙ ap (λ (c : ConnId). suc (old.seq c.0)) now.0 in
    record {
      words = words;
      before = [];
      behind = h;
      split = ap (λ c. Submit c words ∷ h) now.0;
      number = omega arith;
      passes = subst (λ (c : ConnId). test (sessions c.0) words) now.0 now.2;
    }
submitted_now t test i sessions conn words h e old mid step now = absurd now

said_now : (t : Layout) (test : Session → List (List ℕ) → Type 0) (i : RequestId) (sessions : Sessions) (s : Step) (h : List Step)
    (e : world.Effect) (old mid : World) → Steps t old s e mid → Submits test i sessions s e →
    IsSaidFrom test i sessions (s ∷ h) (old.seq i.conn.0)
said_now t test i sessions (Submit conn words) h e old mid step now = submitted_now t test i sessions conn words h e old mid step now
said_now t test i sessions s h e old mid step now = absurd now

-- the words of a request that was submitted
said_of : (t : Layout) (test : Session → List (List ℕ) → Type 0) (i : RequestId) (sessions : Sessions) (h : List Step)
    (es : List world.Effect) (old new : World) → Makes t old h es new → WasSubmittedFrom test i sessions h es →
    IsSaidFrom test i sessions h (old.seq i.conn.0)
said_of t test i sessions (s ∷ h) (e ∷ es) old new made (inl now) = said_now t test i sessions s h e old made.0 made.1 now
said_of t test i sessions (s ∷ h) (e ∷ es) old new made (inr later) =
    let rest = said_of t test i (sessions_after sessions s) h es made.0 new made.2 later in
    let one = step_seq t old made.0 s e i.conn.0 made.1 in
    let number = rest.number in
    record {
      words = rest.words;
      before = s ∷ rest.before;
      behind = rest.behind;
      split = ap (λ l. s ∷ l) rest.split;
      number = omega arith;
      passes = rest.passes;
    }
said_of t test i sessions h es old new made was = absurd was

-- ---- it is collected

some_given : (given : Option kept.Outcome) (o : Outcome) → world.Collected (option_map outcome_shown given) ≡ world.Collected (Some o) →
    (outcome : kept.Outcome) × (given ≡ Some outcome)
some_given None o same = absurd (let k = same in cc)
some_given (Some outcome) o same = (outcome, refl)

module _ (h h' : HistoryView) (s : SeatView) (can : CanCollect h s) (lawful : IsLawful h) where
  -- what a Collect does where the outcome waits
  answered : (e : world.Effect) (made : IsMade h (Collect s.conn) e h') → e ≡ world.Collected (Some (outcome_shown can.outcome))
  answered e made =
      let same = same_world h.front.table h.steps lawful.world made.world lawful.leads made.leads in
      let shown = subst (ShowsConnections h.front.router) same lawful.connections in
      let waits = stands h.front.router can.outcome made.world s.conn.0 shown can.waits in
      (subst (λ st. Collects st made.world s.conn.0 e made.after) waits made.makes).0

  -- where an outcome waits it is what a Collect answers
  pub some_collected : (e : ours.Effect) → IsMade h (Collect s.conn) (effect_shown e) h' →
      (given : kept.Outcome) × (e ≡ effect.Collected (Some given))
  some_collected e made =
      let says = answered (effect_shown e) made in
      let given = by_collected e (Some (outcome_shown can.outcome)) says in
      let some = some_given given.0 (outcome_shown can.outcome) (sym (ap effect_shown given.1) ∙ says) in
      (some.0, given.1 ∙ ap effect.Collected some.1)

  module _ (o : kept.Outcome) (made : IsMade h (Collect s.conn) (world.Collected (Some (outcome_shown o))) h') where
    abbrev o' : Outcome
    o' = outcome_shown o

    same : outcome_shown o ≡ outcome_shown can.outcome
    same = same_collected (outcome_shown o) (outcome_shown can.outcome) (answered _ made)

    pub above : IsAbove o.stamp s.floor
    above = subst (λ (x : Outcome). IsAbove x.stamp s.floor) (sym same) can.above

    its_own : IsItsOwn h.front.table h.steps made.leads.0 made.world s.conn (outcome_shown o)
    its_own = collects_its_own h.front.table h.steps made.leads.0 made.world made.after made.leads.1 s.conn (outcome_shown o) made.makes

    -- it is that of the seat's last request
    pub own : o.id ≡ last_id s
    own =
        let conn : o.id.conn ≡ s.conn = ap (λ (i : RequestId). i.conn) its_own.0 in
        let seq : o.id.seq ≡ s.last = ap (λ (x : Outcome). x.id.seq) same ∙ can.own in
        λ k. record { conn = conn k; seq = seq k }

    -- where it comes from, by the session that its words met
    pub from : (words : List (List ℕ)) (said : IsSaid h.steps o.id words) →
        ComesFrom h.front.table made.world (session_met said) words (outcome_shown o)
    from words said = elim its_own.1 [
      | inl ended ↦ inl ended
      | inr once ↦
          let t = h.front.table in
          let test = IsRepliedAtOnce t o'.reply in
          let was = said_of t test o'.id all_free h.steps made.leads.0 opening made.world made.leads.1 once.1 in
          let number : o'.id.seq ≡ suc (0 + submits_by o'.id.conn.0 was.before) = was.number in
          let here : IsSaid h.steps o'.id was.words =
          record { before = was.before; behind = was.behind; split = was.split; number = omega (arith, number) } in
          let one = said_once h.steps o'.id was.words words here said in
          inr (record {
            stamp = once.0;
            reply = subst (λ ws. test (sessions_from all_free said.before o'.id.conn.0) ws) one.0
                (subst (λ before. test (sessions_from all_free before o'.id.conn.0) was.words) one.1 was.passes);
          })
    ]

-- ---- why it isn't

-- why the Collect isn't made of what can be collected
pub collect_fault : (h : HistoryView) (s : SeatView) (f : StepFault) → CanCollect h s → IsFault h (Collect s.conn) f →
    IsCollectFault h s f
collect_fault h s fault.NoConn can why = (why.0, inl why.1)
collect_fault h s fault.Memory can why = can
collect_fault h s f can why = why
