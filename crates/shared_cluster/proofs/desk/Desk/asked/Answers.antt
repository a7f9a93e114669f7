use Rattle.std.proofs.Common.{IfErr, subst}
use Rattle.cluster.specs.Clusters.{SeatView}
use Rattle.shared_cluster.specs.Asks.{IsAskFault}
use Rattle.shared_cluster.proofs.desk.Desk.asked.Goals as goal

pub returns-clause-refused : goal.returns-clause-refused
returns-clause-refused g c =
    subst (λ (s : SeatView). IfErr c.ask_turning.result (λ fault. IsAskFault s c.args.request fault c.ask_turning.new.seat))
    c.is_for_driver.ensures c.ask_turning.ensures.refused

pub returns-then-is_for_driver-clause-refused : goal.returns-then-is_for_driver-clause-refused
returns-then-is_for_driver-clause-refused g c =
    subst (λ (s : SeatView). IfErr c.ask.result (λ fault. IsAskFault s c.args.request fault c.ask.new.seat))
    c.is_for_driver.ensures c.ask.ensures.refused
