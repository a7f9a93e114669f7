use Rattle.multicast.proofs.Groups.{all_fresh}
use Rattle.multicast.proofs.multicast.Multicast.new.Goals as goal

pub returns-clause-fresh : goal.returns-clause-fresh
returns-clause-fresh c = all_fresh c.in_ok-groups.groups.items c.in_ok-groups.ensures.fresh
