use Rattle.cluster.proofs.Storing.{is_ran}
use Rattle.cluster.proofs.running.run_taken.Goals as goal

pub run-requires : goal.run-requires
run-requires g c = c.taken.invariant.addressed

pub invariant_of-result : goal.invariant_of-result
invariant_of-result g c =
    let taken = c.taken.inside in
    let ends = c.holds.ensures in
    is_ran g.T.Tabled.table (record { layer = taken.layer; number = taken.number; told = taken.told }) c.in-Ok.ran.done c.in-Ok.ran.number
    c.in-Ok.ran.runs ends.0 c.taken.invariant c.in-Ok.ensures.run.rows c.in-Ok.ensures.all.1 ends.1 ends.2
