-- What is the same in the worlds before and after a step of the front, and what the halves show of it.
use Rattle.std.proofs.Common.{◌≡◌, ℕ, true, List, [], ◌∷◌, Some, refl, sym, ◌∙◌, subst}
use Rattle.groups.specs.GroupSet.{has}
use Rattle.journal.specs.declared.step.Step.{Step}
use Rattle.journal.specs.declared.step.Step.TheVariants.{Submit, Take, Run, Settle, Collect}
use Rattle.layer_planner.specs.declared.job.Job.{Job}
use Rattle.order_laws.specs.Runs.{LeavesLayers}
use Rattle.placement.specs.Layout.{Layout}
use Rattle.shard_exec.specs.StoreStates.{StoreState}
use Rattle.groups.specs.Order.{In}
use Rattle.skeen_core.specs.declared.packet.Delivered.{Delivered}
use Rattle.groups.specs.declared.request.RequestId.{RequestId}
use Rattle.sessions.specs.Session.{Answer, Now, Go, asks}
use Rattle.sessions.specs.declared.session.Session.{Session}
use Rattle.tasks.specs.Tasks.{task_groups}
use Rattle.system.specs.Halves.{ShowsStage}
use Rattle.system.specs.declared.stage.Stage.{Stage}
use Rattle.system.specs.declared.stage.Stage.TheVariants as stage
use Rattle.front.specs.Layers.{AreJobs, ShowsStore}
use Rattle.world.specs.Steps.{Effect, Steps, in_session, submitted, submitted_to}
use Rattle.world.specs.Steps as world
use Rattle.world.specs.World.{World, Request, Standing, Closed}
use Rattle.world_laws.proofs.Floors.{knows_more}
use Rattle.world_laws.specs.Good.{Asked, WorldGood}

-- ---- a step that leaves the layer alone

-- the layer, what has ended and the contents are the same
pub record IsRest (w w' : World) : Type 0 where
  pub layer : w'.layer ≡ w.layer
  pub ended : w'.ended ≡ w.ended
  pub contents : w'.contents ≡ w.contents

rest_of : (w w' after : World) → w' ≡ after → IsRest w after → IsRest w w'
rest_of w w' after is rest = subst (λ v. IsRest w v) (sym is) rest

submit_rest : (t : Layout) (w : World) (c : ℕ) (session : Session) (answer : Answer) →
    IsRest w (submitted t (in_session w c session) c answer)
submit_rest t w c session (Now reply) = record { layer = refl; ended = refl; contents = refl }
submit_rest t w c session (Go task) = by_groups (task_groups t task)
  where
    by_groups : (gs : List ℕ) → IsRest w (submitted_to (in_session w c session) c task gs)
    by_groups [] = record { layer = refl; ended = refl; contents = refl }
    by_groups (g ∷ gs) = record { layer = refl; ended = refl; contents = refl }

collect_rest : (s : Standing) (w w' : World) (c : ℕ) (effect : Effect) → world.Collects s w c effect w' → IsRest w w'
collect_rest Closed w w' c effect made = absurd made
collect_rest s w w' c effect made = rest_of w w' _ made.1 (record { layer = refl; ended = refl; contents = refl })

pub is_rest : (t : Layout) (w w' : World) (step : Step) (effect : Effect) → LeavesLayers step → Steps t w step effect w' → IsRest w w'
is_rest t w w' (Submit conn words) effect leaves made =
    let asked = asks (w.session conn.0) words in
    rest_of w w' _ made.after (submit_rest t w conn.0 asked.0 asked.1)
is_rest t w w' Take effect leaves made = absurd leaves
is_rest t w w' (Run starved) effect leaves made = absurd leaves
is_rest t w w' Settle effect leaves made = absurd leaves
is_rest t w w' (Collect conn) effect leaves made = collect_rest (w.standing conn.0) w w' conn.0 effect made
is_rest t w w' step effect leaves made = rest_of w w' _ made.after (record { layer = refl; ended = refl; contents = refl })

-- ---- what the halves show

-- the requests of the first world are asked in the second
abbrev pub KeepsAsked : Asked → Asked → Type 0
KeepsAsked asked asked' = (i : RequestId) (q : Request) → asked i ≡ Some q → asked' i ≡ Some q

pub keeps_asked : (t : Layout) (w w' : World) (step : Step) (effect : Effect) → Steps t w step effect w' → WorldGood t w →
    KeepsAsked w.asked w'.asked
keeps_asked t w w' step effect made good = (knows_more t w w' step effect made good).0

jobs_asked : (asked asked' : Asked) (ds : List Delivered) (js : List Job) → KeepsAsked asked asked' →
    AreJobs asked ds js → AreJobs asked' ds js
jobs_asked asked asked' [] [] keeps are = tt
jobs_asked asked asked' (d ∷ ds) (j ∷ js) keeps are = (
  record {
    id = are.0.id;
    stamp = are.0.stamp;
    groups = are.0.groups;
    asked_so = (are.0.asked_so.0, keeps d.id are.0.asked_so.0 are.0.asked_so.1, are.0.asked_so.2);
  },
  jobs_asked asked asked' ds js keeps are.1,
)
jobs_asked asked asked' ds js keeps are = absurd are

pub stage_same : (s : Stage) (w w' : World) → KeepsAsked w.asked w'.asked → w'.layer ≡ w.layer → ShowsStage s w → ShowsStage s w'
stage_same stage.Free w w' keeps same shows = same ∙ shows
stage_same (stage.Taken jobs) w w' keeps same shows =
    (shows.0, same ∙ shows.1, jobs_asked w.asked w'.asked shows.0 jobs keeps shows.2)
stage_same (stage.HasRun done) w w' keeps same shows = (shows.0, same ∙ shows.1, shows.2)

pub store_same : (t : Layout) (s : StoreState) (w w' : World) → w'.ended ≡ w.ended → w'.contents ≡ w.contents → ShowsStore t s w →
    ShowsStore t s w'
store_same t s w w' ended contents shows = record {
  table = shows.table;
  lives = shows.lives;
  contents = shows.contents ∙ sym contents;
  lasts = λ g stamp last. subst (λ es. (e : _) × In e es × (has e.groups g ≡ true) × (e.stamp ≡ stamp)) (sym ended)
      (shows.lasts g stamp last);
}
