-- What came of a seat's last request, which was a layer of its own, is settled and collected at once.
use Rattle.std.specs.Prelude.{◌≡◌, ℕ, ◌<◌, List, [], ◌∷◌, Some}
use mathlib.Core.List.{IsPrefix}
use Rattle.cluster.specs.Answers.{IsReplied}
use Rattle.cluster.specs.Clusters.{SeatView, last_id}
use Rattle.cluster.specs.Histories.{HistoryView, IsLawful, IsMade}
use Rattle.cluster.specs.Layers.{IsSettled}
use Rattle.front.specs.Connections.{outcome_shown}
use Rattle.front.specs.Finishing as front
use Rattle.front.specs.Finishing.{outcome_with}
use Rattle.front.specs.Fronts.{FrontView}
use Rattle.groups.specs.declared.request.ConnId.{ConnId}
use Rattle.journal.specs.declared.step.Step.{Step}
use Rattle.journal.specs.declared.step.Step.TheVariants.{Collect}
use Rattle.layer_results.specs.declared.done.DoneRow.{DoneRow}
use Rattle.resp.specs.declared.reply.Reply.{Reply}
use Rattle.router.specs.Router.{waiting}
use Rattle.world.specs.Steps.{Collected}

-- the front settled a layer of one request, of this connection, which has collected what came of it
pub record FinishesOnly (old : FrontView) (done : List DoneRow) (conn : ConnId) (new : FrontView) : Type 0 where
  pub row : DoneRow
  pub only : done ≡ row ∷ []
  pub own : conn ≡ row.id.conn
  pub finishes : front.Finishes old row new

-- The layer of one request was settled, and the request's connection collected this reply, which waited for it, behind all that was
-- seen: so there is a history between.
pub record HasFinished (old : HistoryView) (done : List DoneRow) (seen : List Step) (reply : Reply) (new : HistoryView) : Type 0 where
  pub row : DoneRow
  pub only : done ≡ row ∷ []
  pub mid : HistoryView
  pub settled : IsSettled old done mid
  pub lawful : IsLawful mid
  pub waits : waiting mid.front.router row.id.conn.0 ≡ Some (outcome_with row reply)
  pub behind : IsPrefix seen mid.steps
  pub made : IsMade mid (Collect row.id.conn) (Collected (Some (outcome_shown (outcome_with row reply)))) new

-- the one row is that of the seat's last request, and this is the clock of its stamp, which is above the seat's floor
pub record IsFloorOf (s : SeatView) (done : List DoneRow) (floor : ℕ) : Type 0 where
  pub row : DoneRow
  pub only : done ≡ row ∷ []
  pub own : row.id ≡ last_id s
  pub clock : floor ≡ row.stamp.clock
  pub above : s.floor < row.stamp.clock

-- The layer was settled, and then the seat collected what came of its last request: so there is a history between.
pub record Finishes (old : HistoryView) (done : List DoneRow) (s : SeatView) (r : Reply) (new : HistoryView) (after : SeatView)
    : Type 0 where
  pub mid : HistoryView
  pub settled : IsSettled old done mid
  pub lawful : IsLawful mid
  pub replied : IsReplied mid s r new after
