-- What the two halves of the system show, together, of a world.
use Rattle.std.specs.Prelude.{◌≡◌, ℕ, suc, ◌+◌, true, false, List, [], ◌∷◌, ◌++◌, Some, None, option_map}
use Rattle.front.specs.Fronts.{IsOut}
use Rattle.journal.specs.Views.{RowView}
use Rattle.journal.specs.declared.step.Step.{Step}
use Rattle.journal.specs.declared.step.Step.TheVariants.{Run}
use Rattle.layer_planner.specs.declared.job.Job.{Job}
use Rattle.groups.specs.Order.{In}
use Rattle.groups.specs.Skips.{names_whole, parts_of}
use Rattle.groups.specs.declared.skip_id.SkipId.{SkipId}
use Rattle.keyspace.specs.Map.{Map}
use Rattle.placement.specs.Layout.{Layout}
use Rattle.resp.specs.Content.{Content}
use Rattle.shard_exec.specs.Layers.{on_groups}
use Rattle.skeen_core.specs.declared.packet.Delivered.{Delivered}
use Rattle.tasks.specs.Tasks.{Task, task_groups, task_takes_memory, MembersStarveRightly}
use Rattle.system.specs.Outcomes.{IsWhatCameOf}
use Rattle.system.specs.declared.effect.Effect.{Effect}
use Rattle.system.specs.declared.effect.Effect.TheVariants.{Opened, Submitted, Ran, Collected, Made}
use Rattle.system.specs.declared.halves.Halves.{Halves}
use Rattle.system.specs.declared.stage.Progress.{Progress}
use Rattle.system.specs.declared.stage.Progress.TheVariants as progress
use Rattle.system.specs.declared.stage.Stage.{Stage}
use Rattle.system.specs.declared.stage.Stage.TheVariants.{Free, Taken, HasRun}
use Rattle.front.specs.Connections.{outcome_shown, ShowsConnections}
use Rattle.front.specs.Layers.{AreJobs, AreRows, ShowsStore}
use Rattle.front.specs.Multicast.{ShowsMulticast}
use Rattle.world.specs.Steps.{opening, starved_among, map_after, RunInTurn, Leads, Steps}
use Rattle.world.specs.Steps as world
use Rattle.world.specs.World.{World, Ended}
use Rattle.world.specs.World as layer

-- how far the layer is
abbrev pub ShowsStage : Stage → World → Type 0
ShowsStage Free w = w.layer ≡ layer.NoneTaken
ShowsStage (Taken jobs) w = (ds : List _) × (w.layer ≡ layer.Taken ds) × AreJobs w.asked ds jobs
ShowsStage (HasRun done) w = (es : List _) × (w.layer ≡ layer.HasRun es) × IsWhatCameOf es done

abbrev pub progress_of : Stage → Progress
progress_of Free = progress.Free
progress_of (Taken jobs) = progress.Taken
progress_of (HasRun done) = progress.HasRun

-- the requests that are to be run
abbrev pub layer_of : Stage → List Job
layer_of (Taken jobs) = jobs
layer_of stage = []

-- what the front shows of the world, and the store, the layer, the rows and the names of what starved, which are the world's
pub record Shows (p : Halves) (w : World) : Type 0 where
  pub connections : ShowsConnections p.front.router w
  pub multicast : ShowsMulticast p.front.table p.front.multicast w
  pub out : IsOut w.layer p.front.out
  pub table : p.front.table ≡ p.back.store.table
  pub store : ShowsStore p.back.store.table p.back.store w
  pub stage : ShowsStage p.stage w
  pub rows : AreRows w.ended p.back.rows
  pub starved : p.starved.items ≡ starved_among w.ended

-- these steps lead to the world, and the halves show it
pub record IsAt (p : Halves) (h : List Step) (w : World) : Type 0 where
  pub leads : Leads p.back.store.table opening h w
  pub shows : Shows p w

-- how many steps were made: those of the front, a run of each layer that was settled, and that of a layer which isn't yet
abbrev pub ran_in : Stage → ℕ
ran_in Free = 0
ran_in (Taken jobs) = 0
ran_in (HasRun done) = 1

abbrev pub count_of : Halves → ℕ
count_of p = p.front.steps + p.front.layers + ran_in p.stage

-- ---- a step

-- what it answers, as the world says it
abbrev pub effect_shown : Effect → world.Effect
effect_shown (Opened conn) = world.Opened conn.0
effect_shown (Submitted id) = world.Submitted id
effect_shown (Ran starved) = world.Ran starved
effect_shown (Collected outcome) = world.Collected (option_map outcome_shown outcome)
effect_shown Made = world.Made

-- the step as it stands in a history: a Run is told the names of what starved
abbrev pub stored : Step → Effect → Step
stored (Run skip) (Ran starved) = Run starved
stored step effect = step

-- what the shards of its groups have of the map that a task meets
abbrev pub met_by : Layout → Task → Map → Map
met_by table task m = on_groups table (task_groups table task) m

-- Whom a request of the layer starves, by how it ended on this map. Where it starved as a whole it was named so, or there may
-- have been no memory to answer it there. Where it was executed each of its members that was named starved; and each one that
-- starved was named, or there may have been no memory to answer it on the map that those before it left.
pub record StarvesSo (table : Layout) (skip : List SkipId) (m : Map) (e : Ended) : Type 0 where
  pub whole : e.reply ≡ None → names_whole skip e.id ≡ false → task_takes_memory e.task (met_by table e.task m)
  pub members : (reply : Content) → e.reply ≡ Some reply →
      MembersStarveRightly (parts_of skip e.id) e.task (met_by table e.task m) reply

-- so of the requests of a layer, the first on this map and each other one on the map that those before it left
abbrev pub StarveInTurn : Layout → List SkipId → Map → List Ended → Type 0
StarveInTurn table skip m [] = Unit {0}
StarveInTurn table skip m (e ∷ es) = StarvesSo table skip m e × StarveInTurn table skip (map_after e.reply e.task m) es

-- of the layer each request starves that a Run names, and each member of one that it names; and another one only where there
-- may be no memory to answer it on what it met
pub record StarvesRightly (p : Halves) (skip starved : List SkipId) (w : World) : Type 0 where
  pub named : (ds : List Delivered) → w.layer ≡ layer.Taken ds → (d : Delivered) → In d ds → names_whole skip d.id ≡ true →
      names_whole starved d.id ≡ true
  pub requests : List Delivered
  pub taken : w.layer ≡ layer.Taken requests
  pub outcomes : List Ended
  pub ran : RunInTurn w.asked starved w.contents requests outcomes
  pub so : StarveInTurn p.back.store.table skip w.contents outcomes

-- whom the step starves
abbrev pub Starves : Halves → Step → Effect → World → Type 0
Starves p (Run skip) (Ran starved) w = StarvesRightly p skip starved w
Starves p step effect w = Unit {0}

-- in each world that the halves showed the step is accepted and answers so, and they show the world after it
pub record Makes (old : Halves) (step : Step) (effect : Effect) (new : Halves) : Type 0 where
  pub table : new.back.store.table ≡ old.back.store.table
  pub counted : count_of new ≡ suc (count_of old)
  pub from_each : (h : List Step) (w : World) → IsAt old h w →
      (w' : World) × Steps old.back.store.table w (stored step effect) (effect_shown effect) w'
      × IsAt new (h ++ stored step effect ∷ []) w'
  pub starves : (h : List Step) (w : World) → IsAt old h w → Starves old step effect w
  -- the rows that were there stay, words included
  pub rows : (more : List RowView) × (new.back.rows ≡ old.back.rows ++ more)

-- nothing has changed but room
pub record Keeps (old new : Halves) : Type 0 where
  pub front : new.front ≡ old.front
  pub back : new.back ≡ old.back
  pub stage : new.stage ≡ old.stage
  pub starved : new.starved.items ≡ old.starved.items
