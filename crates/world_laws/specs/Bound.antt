-- How many steps there can be that bring packets, take layers, run and settle them: a packet that is repeated is brought
-- once more.
use Rattle.std.specs.Prelude.{ℕ, ◌+◌, ◌*◌, ◌≤◌, List, [], ◌∷◌, length}
use Rattle.journal.specs.declared.step.Step.{Step}
use Rattle.journal.specs.declared.step.Step.TheVariants.{Open, Submit, Deliver, Take, Run, Settle, Collect, Close, Repeat}
use Rattle.placement.specs.Layout.{Layout}
use Rattle.sessions.specs.Session.{Answer, Now, Go, asks}
use Rattle.tasks.specs.Tasks.{task_groups}
use Rattle.world.specs.Steps.{opening, Leads}
use Rattle.world.specs.World.{World}
use Rattle.world_laws.specs.Sessions.{Sessions, all_free, sessions_after}

-- 1 for a step that brings a packet, or takes, runs or settles a layer
abbrev pub turn : Step → ℕ
turn Open = 0
turn (Submit conn words) = 0
turn (Deliver place) = 1
turn Take = 1
turn (Run starved) = 1
turn Settle = 1
turn (Collect conn) = 0
turn (Close conn) = 0
turn (Repeat place) = 0

-- how many of these there are
abbrev pub turns : List Step → ℕ
turns [] = 0
turns (s ∷ ss) = turn s + turns ss

-- what a request of k groups allows: k * k + 3
abbrev pub allowed_to : List ℕ → ℕ
allowed_to [] = 0
allowed_to (g ∷ gs) = length (g ∷ gs) * length (g ∷ gs) + 3

-- by what comes of its words: words that are answered at once allow nothing
abbrev pub allowed_by : Layout → Answer → ℕ
allowed_by t (Go task) = allowed_to (task_groups t task)
allowed_by t (Now reply) = 0

-- what a step allows, where connections remember this
abbrev pub allowance : Layout → Sessions → Step → ℕ
allowance t sessions (Submit conn words) = allowed_by t (asks (sessions conn.0) words).1
allowance t sessions (Repeat place) = 1
allowance t sessions step = 0

-- what steps allow, one after another, where connections remember this before the first of them
abbrev pub allowances_from : Layout → Sessions → List Step → ℕ
allowances_from t sessions [] = 0
allowances_from t sessions (s ∷ ss) = allowance t sessions s + allowances_from t (sessions_after sessions s) ss

-- what all submitted requests and all repeated packets allow
abbrev pub allowances : Layout → List Step → ℕ
allowances t steps = allowances_from t all_free steps

-- there are never more such steps than these allow
abbrev pub TurnsAreBounded : Type 0
TurnsAreBounded = (t : Layout) (steps : List Step) (w : World) → Leads t opening steps w →
    turns steps ≤ allowances t steps
