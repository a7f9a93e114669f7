-- How a request stands in a history: its words among the steps, and what came of it in the world to which they lead.
use Rattle.std.specs.Prelude.{◌≡◌, ◌≢◌, ℕ, ◌<◌, List, ◌⊎◌, slice_get, Some}
use Rattle.tasks.specs.Starved.{starved_in}
use Rattle.cluster.specs.Outcomes.{IsAtOnce}
use Rattle.cluster.specs.Submits.{IsSaid, session_met}
use Rattle.execution_order.specs.Entries.{Row, rows_by_stamp}
use Rattle.groups.specs.Order.{In}
use Rattle.groups.specs.declared.request.RequestId.{RequestId}
use Rattle.journal.specs.declared.step.Step.{Step}
use Rattle.placement.specs.Layout.{Layout, IsTable}
use Rattle.resp.specs.Content.{Content}
use Rattle.sessions.specs.declared.session.Session.{Session}
use Rattle.world.specs.Steps.{outcome_of}
use Rattle.world.specs.World.{World, Outcome, Ended}
use Rattle.world_laws.specs.Collecting.{ComesTo}
use Rattle.world_laws.specs.Headline.{IsOneThread, rows_of}

-- ---- what came of a request

-- It has ended in the world, with this outcome's id, stamp and reply, and its task is what the words come to in the session.
pub record HasEnded (w : World) (session : Session) (words : List (List ℕ)) (o : Outcome) : Type 0 where
  pub ended : Ended
  pub there : In ended w.ended
  pub outcome : o ≡ outcome_of ended
  pub task : ComesTo ended.task session words

-- the words are answered so at once in the session, with no stamp, and no request of this id has ended
pub record HasNotEnded (t : Layout) (w : World) (session : Session) (words : List (List ℕ)) (o : Outcome) : Type 0 where
  pub at_once : IsAtOnce t session words o
  pub not_run : (e : Ended) → In e w.ended → e.id ≢ o.id

-- Its Submit, with just these words, is among the steps. Behind it the request has ended in the world, with this outcome; or the words
-- were answered so at once, in the session that they met.
pub record StandsIn (t : Layout) (steps : List Step) (w : World) (words : List (List ℕ)) (o : Outcome) : Type 0 where
  pub said : IsSaid steps o.id words
  pub from : HasEnded w (session_met said) words o ⊎ HasNotEnded t w (session_met said) words o

-- ---- what ended in a world

-- the row of a request that was executed, with this reply
abbrev pub row_of : Ended → Content → Row
row_of e reply = record {
  entry = record { id = e.id; stamp = e.stamp; groups = e.groups; task = e.task; starved = starved_in e.task reply };
  reply = reply;
}

-- Each request that has ended there with a reply has its row; and the rows' replies, and the contents, are what one thread gets that
-- runs the rows' tasks on one map: in the order of execution, and sorted by their final stamps.
pub record IsOfOneThread (t : Layout) (w : World) : Type 0 where
  pub rows : (e : Ended) (reply : Content) → In e w.ended → e.reply ≡ Some reply → In (row_of e reply) (rows_of w.ended)
  pub by_execution : IsOneThread w.contents (rows_of w.ended)
  pub by_stamp : IsTable t → IsOneThread w.contents (rows_by_stamp (rows_of w.ended))

-- in the order of execution the one request stands before the other, wherever both have ended
abbrev pub EndsBefore : World → RequestId → RequestId → Type 0
EndsBefore w i j = (place later : ℕ) (e f : Ended) → slice_get w.ended place ≡ Some e → slice_get w.ended later ≡ Some f →
    e.id ≡ i → f.id ≡ j → place < later
