use Rattle.std.proofs.Common.{refl, sym, ◌∙◌, inl, inr}
use Rattle.std.proofs.lemmas.Option.{IfSome_then}
use Rattle.cluster.specs.Clusters.{IsCollectFault}
use Rattle.front.proofs.Refusals.{none_of}
use Rattle.shared_cluster.proofs.Hands.{stays_by}
use Rattle.shared_cluster.proofs.Refusals.{untold}
use Rattle.shared_cluster.proofs.held.Held.collect.Goals as goal

pub returns-in-Ok-clause-answered : goal.returns-in-Ok-clause-answered
returns-in-Ok-clause-answered g c =
    IfSome_then c.in-Ok.reply c.in-Ok.ensures.replied
    (λ x replied. record { table = c.lawful.ensures.table; given = x.reply; is = refl; replied = replied })

pub returns-in-Ok-clause-none : goal.returns-in-Ok-clause-none
returns-in-Ok-clause-none g c = none_of c.in-Ok.reply (λ none. (c.lawful.ensures.lawful, inl none)) c.in-Ok.ensures.none

pub returns-in-Ok-clause-still : goal.returns-in-Ok-clause-still
returns-in-Ok-clause-still g c =
    none_of c.in-Ok.reply (λ same. stays_by c.args.self.now.cluster c.collect.new.self same.0) c.in-Ok.ensures.unasked

pub returns-in-None-clause-none : goal.returns-in-None-clause-none
returns-in-None-clause-none g c = (
  c.lawful.ensures.lawful,
  inr (untold (IsCollectFault c.args.self.now.cluster.history c.args.seat.now) c.in-Err.fault (sym c.lasting.ensures ∙ c.in-None.is)
      c.in-Err.ensures.refused),
)
