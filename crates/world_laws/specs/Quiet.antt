-- Where nothing is under way and nothing can be taken, nothing is left.
use Rattle.std.specs.Prelude.{◌≡◌, ℕ, true, List, [], ◌⊎◌, ◌↔◌, Some}
use Rattle.delivery.specs.Ready.{IsReady}
use Rattle.groups.specs.GroupSet.{has}
use Rattle.journal.specs.declared.step.Step.TheVariants.{Deliver, Take, Run, Settle}
use Rattle.skeen_core.specs.Group.{GroupState, heard}
use Rattle.groups.specs.Order.{In}
use Rattle.skeen_core.specs.declared.packet.Body.TheVariants.{Proposal}
use Rattle.skeen_core.specs.declared.packet.Delivered.{Delivered}
use Rattle.skeen_core.specs.declared.packet.Packet.{Packet}
use Rattle.groups.specs.declared.request.RequestId.{RequestId}
use Rattle.groups.specs.declared.skip_id.SkipId.{SkipId}
use Rattle.world.specs.Steps.{OwnFault, NoPacket, NoLayer, Refused}
use Rattle.world.specs.World.{World, Request, NoneTaken, Proposals}
use Rattle.world_laws.specs.Good.{Asked, IsOut, Named}
use Rattle.world_laws.specs.Order.{OfEveryWorld}

-- no packet is under way, no layer is there, and no request is ready
pub record IsQuiet (w : World) : Type 0 where
  pub packets : w.packets ≡ []
  pub layer : w.layer ≡ NoneTaken
  pub none_ready : (d : Delivered) → ¬ IsReady w.queue d

-- then each request that addressed groups has ended: it was executed, or it starved as a whole
abbrev pub QuietMeansEnded : Type 0
QuietMeansEnded = OfEveryWorld (λ t w. IsQuiet w → (i : RequestId) (q : Request) → w.asked i ≡ Some q → Named w.ended i)

-- no packet can be brought, and no layer taken, run or settled
pub record TurnsAreRefused (w : World) : Type 0 where
  pub deliver : Refused w (Deliver 0) NoPacket
  pub take : (fault : OwnFault) × Refused w Take fault
  pub run : (starved : List SkipId) → Refused w (Run starved) NoLayer
  pub settle : Refused w Settle NoLayer

-- a world is quiet just where these are refused, so where it isn't something can be done
abbrev pub QuietIsRefused : Type 0
QuietIsRefused = (w : World) → IsQuiet w ↔ TurnsAreRefused w

-- ---- what is still owed

abbrev pub told_by : ℕ → RequestId → ℕ → ℕ → Packet
told_by g i h n = record { to = g; id = i; body = Proposal h n }

pub record GroupOwes (asked : Asked) (proposed : Proposals) (packets : List Packet) (g : ℕ) (grp : GroupState)
    (log : List Delivered) : Type 0 where
  -- a proposal for a request of the group was heard there, is under way to it, or the request was delivered
  pub told : (i : RequestId) (q : Request) (h n : ℕ) → asked i ≡ Some q → has q.groups g ≡ true →
      proposed i h ≡ Some n →
      (heard grp i h ≡ Some n) ⊎ (In (told_by g i h n) packets ⊎ IsOut log i)

pub record OwesGood (asked : Asked) (proposed : Proposals) (packets : List Packet) (group : ℕ → GroupState)
    (log gone : ℕ → List Delivered) (all : List Delivered) : Type 0 where
  pub groups : (g : ℕ) → GroupOwes asked proposed packets g (group g) (log g)
  -- what left a queue was taken
  pub taken : (g : ℕ) (d : Delivered) → In d (gone g) → In d all
