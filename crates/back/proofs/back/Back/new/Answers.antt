use Rattle.back.proofs.Keeping.{new_kept}
use Rattle.back.proofs.back.Back.new.Goals as goal

pub invariant_of-result : goal.invariant_of-result
invariant_of-result c = new_kept c.args.table c.in_ok-store.store c.new.result.rows c.in_ok-store.ensures c.new.ensures
