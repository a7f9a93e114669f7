-- What all replies of a server are together, whichever connections got them.
use Rattle.std.specs.Prelude.{ℕ, List}
use mathlib.Core.List.{IsPrefix}
use Rattle.answer_laws.specs.Standing.{StandsIn, IsOfOneThread, EndsBefore}
use Rattle.cluster.specs.Clusters.{SeatView}
use Rattle.journal.specs.declared.step.Step.{Step}
use Rattle.placement.specs.Layout.{Layout}
use Rattle.resp.specs.Content.{Content}
use Rattle.shared_cluster.specs.Asks.{IsReplied}
use Rattle.world.specs.Steps.{opening, Leads}
use Rattle.world.specs.World.{World}

-- Of any list of steps that leads to a world: each reply, whichever seat got it, stands there, if what its seat had seen then begins the
-- list; and what ended there is what one thread gets on one map.
pub record IsOneHistory (t : Layout) (all : List Step) (w : World) : Type 0 where
  pub stands : (old new : SeatView) (words : List (List ℕ)) (answer : Content) (replied : IsReplied t old words answer new) →
      IsPrefix new.seen all → StandsIn t all w words replied.outcome
  pub one_thread : IsOfOneThread t w

abbrev pub OneHistory : Type 0
OneHistory = (t : Layout) (all : List Step) (w : World) → Leads t opening all w → IsOneHistory t all w

-- Where a seat has seen all that another had after its reply, and then asks and is answered, its request has run behind the other's.
-- Of their stamps it isn't said.
abbrev pub RealTime : Type 0
RealTime = (t : Layout) (all : List Step) (w : World) → Leads t opening all w → (old new old' new' : SeatView)
    (words words' : List (List ℕ)) (answer answer' : Content) (first : IsReplied t old words answer new)
    (second : IsReplied t old' words' answer' new') → IsPrefix new.seen old'.seen → IsPrefix new'.seen all →
    EndsBefore w first.outcome.id second.outcome.id
