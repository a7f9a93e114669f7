use Rattle.serial_store.proofs.Keeping.{new_kept}
use Rattle.serial_store.proofs.store.SerialStore.new.Goals as goal

pub invariant_of-result : goal.invariant_of-result
invariant_of-result g c =
    new_kept g.T.Tabled.table c.args.table c.in_ok-store.store c.args.runs c.requires.table c.in_ok-store.ensures c.requires.runs
