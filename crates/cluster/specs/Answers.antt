-- What a seat is answered.
use Rattle.std.specs.Prelude.{◌≡◌, ℕ, List, Some}
use mathlib.Core.List.{IsPrefix}
use Rattle.cluster.specs.Clusters.{SeatView, last_id}
use Rattle.cluster.specs.Histories.{HistoryView, IsMade}
use Rattle.cluster.specs.Outcomes.{ComesFrom, IsAbove, raised}
use Rattle.cluster.specs.Submits.{IsSaid, session_met}
use Rattle.journal.specs.declared.step.Step.TheVariants.{Collect}
use Rattle.resp.specs.declared.reply.Reply.{Reply}
use Rattle.router.specs.declared.outcome.Outcome as router
use Rattle.front.specs.Connections.{outcome_shown}
use Rattle.world.specs.Steps.{Collected}

-- The reply is that of the outcome which this step collected for the seat, in the world of all steps before it: what came there of
-- the seat's last request, whichever words that was submitted with, or what these are answered at once in the session that they met.
-- Whatever the seat had seen is before that step. The stamp is above the seat's floor, and raises it.
pub record IsReplied (old : HistoryView) (s : SeatView) (r : Reply) (new : HistoryView) (after : SeatView) : Type 0 where
  pub outcome : router.Outcome
  pub reply : r ≡ outcome.reply
  pub made : IsMade old (Collect s.conn) (Collected (Some (outcome_shown outcome))) new
  pub id : outcome.id ≡ last_id s
  pub behind : IsPrefix s.seen old.steps
  pub from : (words : List (List ℕ)) (said : IsSaid old.steps outcome.id words) →
      ComesFrom old.front.table made.world (session_met said) words (outcome_shown outcome)
  pub above : IsAbove outcome.stamp s.floor
  pub seat : after ≡ record s { floor = raised outcome.stamp s.floor; seen = new.steps }
