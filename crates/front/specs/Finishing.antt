-- What came of a layer of one request is settled, and its connection collects it at once.
use Rattle.std.specs.Prelude.{◌≡◌, ◌+◌, ◌<◌, [], ◌∷◌, Some}
use Rattle.front.specs.Connections.{outcome_shown}
use Rattle.front.specs.Fronts.{FrontView}
use Rattle.front.specs.Making.{Makes}
use Rattle.front.specs.Settling.{Settles}
use Rattle.journal.specs.declared.step.Step.TheVariants.{Collect}
use Rattle.journal.specs.declared.trace.TheConstants.{GREATEST_STEPS}
use Rattle.layer_results.specs.declared.done.DoneRow.{DoneRow}
use Rattle.resp.specs.declared.reply.Reply.{Reply}
use Rattle.router.specs.Router.{waiting}
use Rattle.router.specs.declared.outcome.Outcome.{Outcome}
use Rattle.world.specs.Steps.{Collected}

-- the outcome of the row's request, which has this reply
abbrev pub outcome_with : DoneRow → Reply → Outcome
outcome_with row reply = record { id = row.id; reply = reply; stamp = Some row.stamp }

-- The row's layer was settled, and the request's connection has collected its outcome, which waited for it: so there is a front between.
pub record Finishes (old : FrontView) (row : DoneRow) (new : FrontView) : Type 0 where
  pub reply : Reply
  pub replied : row.reply ≡ Some reply
  pub mid : FrontView
  pub settles : Settles old (row ∷ []) mid
  pub waits : waiting mid.router row.id.conn.0 ≡ Some (outcome_with row reply)
  pub collects : Makes mid (Collect row.id.conn) (Collected (Some (outcome_shown (outcome_with row reply)))) new

-- no number has grown too large: a Run, a Settle and a Collect more may be made
abbrev pub MayFinish : FrontView → Type 0
MayFinish f = f.steps + f.layers + 2 < GREATEST_STEPS
