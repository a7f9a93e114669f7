use Rattle.cluster_sending.proofs.Crossing.{router_send}
use Rattle.cluster_sending.proofs.sending.router_sends.Goals as goal

pub returns : goal.returns
returns c = router_send c.member_sends.ensures c.worded_sends.ensures c.outcome_sends.ensures
