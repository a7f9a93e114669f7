-- What a front refuses the world refuses, and what its parts ask of their numbers holds.
use Rattle.std.proofs.Common.{◌≡◌, ◌≢◌, ℕ, ◌<◌, true, false, List, length, Option, Some, None, sym, ◌∙◌, subst, arith}
use Rattle.std.specs.Prelude.{IfNone}
use Rattle.front.proofs.Standings.{shut_stands, shows_live, busy_stands, idle_stands, open_stands}
use Rattle.front.specs.Faults.{of_submit}
use Rattle.front.specs.Fronts.{FrontView, FrontIsAt, IsFront}
use Rattle.front.specs.Refusing.{RefusesNot, IsFault, MayStep}
use Rattle.groups.specs.declared.request.ConnId.{ConnId}
use Rattle.journal.specs.declared.step.Step.{Step}
use Rattle.journal.specs.declared.step.Step.TheVariants as step
use Rattle.journal.specs.declared.trace.TheConstants.{GREATEST_STEPS}
use Rattle.router.specs.Router.{connection, is_open}
use Rattle.router.specs.Submitting.{IsRefused}
use Rattle.router.specs.declared.connection.Connection.{Connection}
use Rattle.router.specs.declared.router.TheConstants.{GREATEST_NUMBER}
use Rattle.router.specs.declared.submission.SubmitFault.{SubmitFault}
use Rattle.router.specs.declared.submission.SubmitFault.TheVariants as submit
use Rattle.front.specs.Connections.{ShowsConnection}
use Rattle.world.specs.Steps.{OwnFault, Busy, NoConn, Refused, IsBusy}
use Rattle.world.specs.World.{World, Closed, Idle}
use Rattle.world_laws.proofs.Bounds.{bounded_world}

-- ---- numbers

module _ (f : FrontView) (is : IsFront f) (may : MayStep f) where
  pub few_steps : length is.history < GREATEST_STEPS
  few_steps = let count = is.count in omega arith

  pub few_opened : f.router.opened < GREATEST_NUMBER
  few_opened =
      let opened = (bounded_world f.table is.history is.world is.at.leads).connections in
      let same = is.at.shows.connections.opened in
      let few = few_steps in
      omega arith

  pub few_asked : (c : ℕ) (v : Connection) → connection f.router c ≡ Some v → v.seq < GREATEST_NUMBER
  few_asked c v kept =
      let asked = (bounded_world f.table is.history is.world is.at.leads).requests c in
      let same = (subst (λ x. ShowsConnection x is.world c) kept (is.at.shows.connections.each c)).0 in
      let few = few_steps in
      omega arith

-- ---- connections

-- a connection that isn't open stands closed
pub stands_closed : (f : FrontView) (c : ℕ) → is_open (connection f.router c) ≡ false → (h : List Step) (w : World) → FrontIsAt f h w →
    w.standing c ≡ Closed
stands_closed f c shut h w at' = shut_stands (connection f.router c) w c shut (at'.shows.connections.each c)

-- an idle connection's submit has no fault of its own
not_refused : (w : World) (conn : ConnId) (words : List (List ℕ)) → w.standing conn.0 ≡ Idle → (fault : OwnFault) →
    ¬ Refused w (step.Submit conn words) fault
not_refused w conn words idle Busy refused = subst IsBusy idle refused
not_refused w conn words idle NoConn refused = let k = sym idle ∙ refused in cc
not_refused w conn words idle fault refused = refused

-- why the router refuses a submit is why the world does
pub submit_refused : (f : FrontView) (conn : ConnId) (words : List (List ℕ)) (fault : SubmitFault) →
    IsRefused (connection f.router conn.0) fault → IsFault f (step.Submit conn words) (of_submit fault)
submit_refused f conn words submit.Busy refused = λ h w at'.
    busy_stands refused.was.standing refused.was w conn.0 refused.busy
    (shows_live _ refused.was w conn.0 refused.kept refused.live (at'.shows.connections.each conn.0))
submit_refused f conn words submit.NoConn refused = stands_closed f conn.0 refused
submit_refused f conn words submit.Memory refused = (
  tt,
  λ h w at'.
      not_refused w conn words (idle_stands refused.was.standing refused.was w conn.0 refused.idle
      (shows_live _ refused.was w conn.0 refused.kept refused.live (at'.shows.connections.each conn.0))),
)

admitted : (w : World) (conn : ConnId) → w.standing conn.0 ≢ Closed → (fault : OwnFault) →
    (¬ Refused w (step.Collect conn) fault) × (¬ Refused w (step.Close conn) fault)
admitted w conn stands NoConn = (stands, stands)
admitted w conn stands fault = (λ refused. refused, λ refused. refused)

-- an open connection may collect, and be closed
pub open_admitted : (f : FrontView) (conn : ConnId) (v : Connection) → connection f.router conn.0 ≡ Some v → v.is_open ≡ true →
    RefusesNot f (step.Collect conn) × RefusesNot f (step.Close conn)
open_admitted f conn v kept live = (
  λ h w at' fault. (admitted w conn (stands w (at'.shows.connections.each conn.0)) fault).0,
  λ h w at' fault. (admitted w conn (stands w (at'.shows.connections.each conn.0)) fault).1,
)
  where
    stands : (w : World) → ShowsConnection (connection f.router conn.0) w conn.0 → w.standing conn.0 ≢ Closed
    stands w shows = open_stands v.standing v w conn.0 (shows_live _ v w conn.0 kept live shows)

-- ---- by what the step says

pub none_of : {A : Type 0} {P Q : Type 0} (o : Option A) → (P → Q) → IfNone o P → IfNone o Q
none_of None implies none = implies none
none_of (Some a) implies none = tt
