-- What connections are told: of what they submitted, and what they collect.
use Rattle.std.specs.FinMap.{empty}
use Rattle.std.specs.Prelude.{◌≡◌, ℕ, List, [], ◌∷◌, ◌⊎◌, Option, Some, None}
use Rattle.journal.specs.declared.step.Step.{Step}
use Rattle.journal.specs.declared.step.Step.TheVariants.{Submit, Collect}
use Rattle.placement.specs.Layout.{Layout}
use Rattle.resp.specs.Content.{Content}
use Rattle.skeen_core.specs.Group.{EachOnce}
use Rattle.groups.specs.Order.{In}
use Rattle.groups.specs.declared.request.ConnId.{ConnId}
use Rattle.groups.specs.declared.request.RequestId.{RequestId}
use Rattle.sessions.specs.Session.{Answer, Now, Go, asks}
use Rattle.sessions.specs.declared.session.Session.{Session}
use Rattle.tasks.specs.Tasks.{Task, task_groups, deed_effect}
use Rattle.world.specs.Steps.{opening, Effect, Submitted, Collected, outcome_of, Steps, Makes}
use Rattle.world.specs.World.{World, Request, Outcome, Ended}
use Rattle.world_laws.specs.Sessions.{Sessions, all_free, sessions_after}

-- ---- what was submitted

-- where connections remember this, the step submits a request of this id, whose words pass the test in its connection's session
abbrev pub Submits : (Session → List (List ℕ) → Type 0) → RequestId → Sessions → Step → Effect → Type 0
Submits test i sessions (Submit conn words) (Submitted j) = (conn ≡ i.conn) × (j ≡ i) × test (sessions conn.0) words
Submits test i sessions step effect = ⊥

-- one of these steps does, where connections remember this before the first of them
abbrev pub WasSubmittedFrom : (Session → List (List ℕ) → Type 0) → RequestId → Sessions → List Step → List Effect → Type 0
WasSubmittedFrom test i sessions [] effects = ⊥
WasSubmittedFrom test i sessions (s ∷ ss) [] = ⊥
WasSubmittedFrom test i sessions (s ∷ ss) (e ∷ es) =
    Submits test i sessions s e ⊎ WasSubmittedFrom test i (sessions_after sessions s) ss es

-- one of the steps of a history does: the session is what the earlier submits of the connection have left
abbrev pub WasSubmitted : (Session → List (List ℕ) → Type 0) → RequestId → List Step → List Effect → Type 0
WasSubmitted test i steps effects = WasSubmittedFrom test i all_free steps effects

-- the words come to this task in the session
abbrev pub ComesTo : Task → Session → List (List ℕ) → Type 0
ComesTo task session words = (asks session words).1 ≡ Go task

-- the reply to what is asked of no group: words that the session answers itself, or a task that looks at no key
abbrev pub reply_at_none : Task → List ℕ → Option Content
reply_at_none task [] = Some (deed_effect (task, []) empty).1
reply_at_none task (g ∷ gs) = None

abbrev pub reply_at_once : Layout → Answer → Option Content
reply_at_once t (Now reply) = Some reply
reply_at_once t (Go task) = reply_at_none task (task_groups t task)

-- what the words come to in the session is answered so at once
abbrev pub IsRepliedAtOnce : Layout → Content → Session → List (List ℕ) → Type 0
IsRepliedAtOnce t reply session words = reply_at_once t (asks session words).1 ≡ Some reply

-- what is asked of groups is the task that a connection's words come to in its session
abbrev pub AskedAsSubmitted : Type 0
AskedAsSubmitted = (t : Layout) (steps : List Step) (effects : List Effect) (w : World) →
    Makes t opening steps effects w →
    (i : RequestId) (q : Request) → w.asked i ≡ Some q → WasSubmitted (ComesTo q.task) i steps effects

-- ---- what is collected

-- The outcome is that of the connection's last request. Where that was run it is what came of it: its reply, or that
-- there was no memory, with its final stamp. Else its words were asked of no group, and it is what they are answered in the
-- connection's session, with no stamp.
abbrev pub IsItsOwn : Layout → List Step → List Effect → World → ConnId → Outcome → Type 0
IsItsOwn t steps effects w conn o =
    (o.id ≡ record { conn = conn; seq = w.seq conn.0 })
    × (((e : Ended) × In e w.ended × (o ≡ outcome_of e))
    ⊎ ((o.stamp ≡ None) × WasSubmitted (IsRepliedAtOnce t o.reply) o.id steps effects))

-- that is what a connection collects
abbrev pub CollectsItsOwn : Type 0
CollectsItsOwn = (t : Layout) (steps : List Step) (effects : List Effect) (old new : World) →
    Makes t opening steps effects old →
    (conn : ConnId) (o : Outcome) → Steps t old (Collect conn) (Collected (Some o)) new → IsItsOwn t steps effects old conn o

abbrev pub with_collected : Effect → List RequestId → List RequestId
with_collected (Collected (Some o)) ids = o.id ∷ ids
with_collected effect ids = ids

-- the ids whose outcomes were collected
abbrev pub collected_in : List Effect → List RequestId
collected_in [] = []
collected_in (e ∷ es) = with_collected e (collected_in es)

-- each is collected at most once
abbrev pub CollectedOnce : Type 0
CollectedOnce = (t : Layout) (steps : List Step) (effects : List Effect) (w : World) →
    Makes t opening steps effects w → EachOnce (collected_in effects)
