use Rattle.shared_cluster.proofs.Hands.{given_back}
use Rattle.shared_cluster.proofs.Refusals.{found_unsettled}
use Rattle.shared_cluster.proofs.shared.Shared.settle_once.Goals as goal

pub returns-in-Foreign-clause-refused : goal.returns-in-Foreign-clause-refused
returns-in-Foreign-clause-refused g c =
    found_unsettled c.args.held.now.cluster.history c.args.ran c.in-Err.unsettled c.in-Foreign.fault c.in-Err.ensures.refused
    c.in-Foreign.is

pub returns-in-Ok-clause-settled : goal.returns-in-Ok-clause-settled
returns-in-Ok-clause-settled g c = record {
  before = c.args.held.now.cluster.history;
  after = c.settle.new.self.cluster.history;
  lawful = c.settle.ensures.lawful;
  settled = c.in-Ok.ensures.settled;
}

pub returns-clause-given : goal.returns-clause-given
returns-clause-given g c =
    given_back c.args.held.now.cluster.history c.args.ran c.in-Starved.ran c.in-Err.unsettled c.in-Err.ensures.refused c.in-Starved.is
