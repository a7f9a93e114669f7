-- The requests of a layer, ready to be run.
use Rattle.std.proofs.Common.{◌≡◌, List, [], ◌∷◌, inl, inr, refl, sym, ap, ◌∙◌}
use Rattle.std.specs.List.{AllByRecursion}
use Rattle.layer_planner.specs.declared.job.Job.{Job}
use Rattle.groups.specs.Order.{In}
use Rattle.skeen_core.specs.declared.packet.Delivered.{Delivered}
use Rattle.front.specs.Connections.{Waits}
use Rattle.front.specs.Layers.{IsJob, AreJobs}
use Rattle.worded.specs.declared.worded.Worded.{Worded}
use Rattle.world.specs.World.{World}
use Rattle.world_laws.specs.Good.{Asked}

-- a request that the router gave out is ready to be run
pub job_waits : (w : World) (d : Delivered) (asked : Worded) (j : Job) → Waits w d.id asked →
    j.id ≡ d.id → j.stamp ≡ d.stamp → j.groups ≡ d.groups → j.asked ≡ asked → IsJob w.asked d j
job_waits w d asked j waits id stamp groups same = record {
  id = id;
  stamp = stamp;
  groups = groups;
  asked_so = (waits.0, waits.1, waits.2 ∙ ap (λ (a : Worded). a.batch) (sym same));
}

-- ---- what holds of each of them

pub all_jobs : (P : Job → Type 0) (asked : Asked) (ds : List Delivered) (js : List Job) → AreJobs asked ds js →
    ((d : Delivered) (j : Job) → In d ds → IsJob asked d j → P j) → AllByRecursion P js
all_jobs P asked [] [] are holds = tt
all_jobs P asked (d ∷ ds) (j ∷ js) are holds = (
  holds d j (inl refl) are.0,
  all_jobs P asked ds js are.1 (λ e k there is. holds e k (inr there) is),
)
all_jobs P asked ds js are holds = absurd are

-- ---- their units

-- each of them is that of a delivered request
pub record JobOf (ds : List Delivered) (j : Job) : Type 0 where
  pub request : Delivered
  pub there : In request ds
  pub groups : j.groups ≡ request.groups
  pub stamp : j.stamp ≡ request.stamp
