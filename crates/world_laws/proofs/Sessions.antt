-- What connections remember, step by step.
use Rattle.std.proofs.Common.{◌≡◌, ℕ, List, [], ◌∷◌, refl, ap, ◌∙◌}
use Rattle.journal.specs.declared.step.Step.{Step}
use Rattle.journal.specs.declared.step.Step.TheVariants.{Open, Submit, Deliver, Take, Run, Settle, Collect, Close, Repeat}
use Rattle.placement.specs.Layout.{Layout}
use Rattle.sessions.specs.Session.{Answer, Now, Go}
use Rattle.tasks.specs.Tasks.{Task, task_groups}
use Rattle.world.specs.Steps.{opening, Effect, submitted_to, submitted, remembered, answer_to, Collects, Steps, Makes}
use Rattle.world.specs.World.{World, Standing, Closed, Idle, Waiting, Answered}
use Rattle.world_laws.specs.Sessions.{sessions_after, sessions_from, SessionsAreOfTrace}

-- what comes of the words changes no session
session_to : (w : World) (c : ℕ) (task : Task) (gs : List ℕ) → (submitted_to w c task gs).session ≡ w.session
session_to w c task [] = refl
session_to w c task (g ∷ gs) = refl

session_submitted : (t : Layout) (w : World) (c : ℕ) (r : Answer) → (submitted t w c r).session ≡ w.session
session_submitted t w c (Now reply) = refl
session_submitted t w c (Go task) = session_to w c task (task_groups t task)

session_collects : (old new : World) (c : ℕ) (s : Standing) (effect : Effect) → Collects s old c effect new → new.session ≡ old.session
session_collects old new c Closed effect step = absurd step
session_collects old new c Idle effect step = ap (λ (w : World). w.session) step.1
session_collects old new c Waiting effect step = ap (λ (w : World). w.session) step.1
session_collects old new c (Answered o) effect step = ap (λ (w : World). w.session) step.1

pub session_step : (t : Layout) (old new : World) (step : Step) (effect : Effect) → Steps t old step effect new →
    new.session ≡ sessions_after old.session step
session_step t old new Open effect s = ap (λ (w : World). w.session) s.after
session_step t old new (Submit conn words) effect s = ap (λ (w : World). w.session) s.after
    ∙ session_submitted t (remembered old conn.0 words) conn.0 (answer_to old conn.0 words)
session_step t old new (Deliver k) effect s = ap (λ (w : World). w.session) s.after
session_step t old new Take effect s = ap (λ (w : World). w.session) s.after
session_step t old new (Run starved) effect s = ap (λ (w : World). w.session) s.after
session_step t old new Settle effect s = ap (λ (w : World). w.session) s.after
session_step t old new (Collect conn) effect s = session_collects old new conn.0 (old.standing conn.0) effect s
session_step t old new (Close conn) effect s = ap (λ (w : World). w.session) s.after
session_step t old new (Repeat k) effect s = ap (λ (w : World). w.session) s.after

pub sessions_made : (t : Layout) (old new : World) (steps : List Step) (effects : List Effect) → Makes t old steps effects new →
    new.session ≡ sessions_from old.session steps
sessions_made t old new [] effects made = ap (λ (w : World). w.session) made.1
sessions_made t old new (s ∷ ss) [] made = absurd made
sessions_made t old new (s ∷ ss) (e ∷ es) made =
    sessions_made t made.0 new ss es made.2 ∙ ap (λ x. sessions_from x ss) (session_step t old made.0 s e made.1)

pub sessions_of_trace : SessionsAreOfTrace
sessions_of_trace t steps w leads = sessions_made t opening w steps leads.0 leads.1
