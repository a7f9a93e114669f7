-- What threads that ask are told together.
use Rattle.std.specs.Prelude.{◌≡◌, ℕ, List}
use mathlib.Core.List.{IsPrefix}
use Rattle.answer_laws.specs.Standing.{StandsIn, IsOfOneThread, EndsBefore}
use Rattle.cluster.specs.Clusters.{SeatView}
use Rattle.journal.specs.declared.step.Step.{Step}
use Rattle.placement.specs.Layout.{Layout}
use Rattle.resp.specs.Content.{Content}
use Rattle.shared_cluster.specs.Asks.{IsReplied}
use Rattle.world.specs.Steps.{opening, Leads}
use Rattle.world.specs.World.{World, Outcome}

-- a seat that had seen these steps asked these words and was answered so; then it had seen so much
pub record IsAnswered (t : Layout) (before : List Step) (words : List (List ℕ)) (answer : Content) (seen : List Step) : Type 0 where
  pub old : SeatView
  pub new : SeatView
  pub replied : IsReplied t old words answer new
  pub behind : IsPrefix before old.seen
  pub saw : new.seen ≡ seen

-- the words of a request, and its answer
abbrev pub Asked : Type 0
Asked = List (List ℕ) × Content

-- a request of these words stands there, with this answer
pub record IsTold (t : Layout) (steps : List Step) (w : World) (asked : Asked) : Type 0 where
  pub outcome : Outcome
  pub answer : outcome.reply ≡ asked.1
  pub stands : StandsIn t steps w asked.0 outcome

-- These steps lead to a world in which all three stand, the last behind the two others, wherever they have ended; and all that ended
-- there is what one thread gets.
pub record StandTogether (t : Layout) (all : List Step) (first second last : Asked) : Type 0 where
  pub world : World
  pub leads : Leads t opening all world
  pub one_thread : IsOfOneThread t world
  pub of_first : IsTold t all world first
  pub of_second : IsTold t all world second
  pub of_last : IsTold t all world last
  pub behind_first : EndsBefore world of_first.outcome.id of_last.outcome.id
  pub behind_second : EndsBefore world of_second.outcome.id of_last.outcome.id
