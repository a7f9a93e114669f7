use Rattle.cluster_sending.proofs.Crossing.{front_send}
use Rattle.cluster_sending.proofs.sending.halves_send.Goals as goal

pub returns-clause-front : goal.returns-clause-front
returns-clause-front c = front_send c.worded_sends.ensures c.job_sends.ensures c.router_sends.ensures c.multicast_sends.ensures
