-- A request that is submitted and, where nothing is before it, taken at once.
use Rattle.std.specs.Prelude.{◌≡◌, ℕ, zero, suc, ◌+◌, ◌<◌, ◌≤◌, List, [], ◌∷◌, Option, Some, None}
use Rattle.delivery.specs.Queues.{queue_of}
use Rattle.delivery.specs.Ready.{IsReady}
use Rattle.front.specs.Fronts.{FrontView}
use Rattle.front.specs.Making.{Makes}
use Rattle.front.specs.Taking.{Takes}
use Rattle.groups.specs.declared.request.ConnId.{ConnId}
use Rattle.groups.specs.declared.request.RequestId.{RequestId}
use Rattle.journal.specs.declared.step.Step.TheVariants.{Submit, Deliver}
use Rattle.journal.specs.declared.trace.TheConstants.{GREATEST_STEPS}
use Rattle.layer_planner.specs.declared.job.Job.{Job}
use Rattle.multicast.specs.Multicast.{packets_of}
use Rattle.skeen_core.specs.declared.packet.Delivered.{Delivered}
use Rattle.world.specs.Steps.{Submitted, Made}

-- so many packets come, each the oldest then
abbrev pub Arrives : ℕ → FrontView → FrontView → Type 0
Arrives zero old new = new ≡ old
Arrives (suc n) old new = (mid : FrontView) × Makes old (Deliver 0) Made mid × Arrives n mid new

-- so many packets has the request of a layer of one
abbrev pub packets_in : List Job → ℕ
packets_in [] = 0
packets_in (job ∷ jobs) = packets_of job.groups

-- The Submit, the Delivers of all packets of the request, each the oldest then, and the Take are made, one after the other: what is
-- handed out is the layer that is there then.
pub record TakesAtOnce (old : FrontView) (conn : ConnId) (words : List (List ℕ)) (id : RequestId) (layer : List Job) (new : FrontView)
    : Type 0 where
  pub begun : FrontView
  pub submits : Makes old (Submit conn words) (Submitted id) begun
  pub come : FrontView
  pub arrives : Arrives (packets_in layer) begun come
  pub few : packets_in layer ≤ 64
  pub free : come.out ≡ []
  pub ready : (d : Delivered) × IsReady (queue_of come.multicast.queues) d
  pub takes : Takes come layer new

-- a Submit is made, or all three where a layer is handed out
abbrev pub Passes : FrontView → ConnId → List (List ℕ) → RequestId → Option (List Job) → FrontView → Type 0
Passes old conn words id None new = Makes old (Submit conn words) (Submitted id) new
Passes old conn words id (Some layer) new = TakesAtOnce old conn words id layer new

-- no number has grown too large: the steps of a request of eight groups may be made, which are 66
abbrev pub MayPass : FrontView → Type 0
MayPass f = f.steps + f.layers + 65 < GREATEST_STEPS
