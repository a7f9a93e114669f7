-- What connections remember of what they submitted, told by the steps alone.
use Rattle.std.specs.Prelude.{◌≡◌, ℕ, List, [], ◌∷◌}
use Rattle.journal.specs.declared.step.Step.{Step}
use Rattle.journal.specs.declared.step.Step.TheVariants.{Submit}
use Rattle.placement.specs.Layout.{Layout}
use Rattle.sessions.specs.Session.{asks}
use Rattle.sessions.specs.declared.session.Session.{Session}
use Rattle.sessions.specs.declared.session.Session.TheVariants.{Free}
use Rattle.world.specs.Steps.{at, opening, Leads}
use Rattle.world.specs.World.{World}

-- what each connection remembers
abbrev pub Sessions : Type 0
Sessions = ℕ → Session

-- before the first step: no connection has a list open
abbrev pub all_free : Sessions
all_free = λ c. Free

-- after a step: one that submits takes its connection's session on, no other changes anything
abbrev pub sessions_after : Sessions → Step → Sessions
sessions_after sessions (Submit conn words) = at sessions conn.0 (asks (sessions conn.0) words).0
sessions_after sessions step = sessions

-- after all of these
abbrev pub sessions_from : Sessions → List Step → Sessions
sessions_from sessions [] = sessions
sessions_from sessions (s ∷ ss) = sessions_from (sessions_after sessions s) ss

-- in every world each connection remembers what its submits, in their order, have made of a free session
abbrev pub SessionsAreOfTrace : Type 0
SessionsAreOfTrace = (t : Layout) (steps : List Step) (w : World) → Leads t opening steps w →
    w.session ≡ sessions_from all_free steps
