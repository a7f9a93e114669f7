use Rattle.std.proofs.Common.{◌≡◌, IsOk, true, false, subst, arith}
use Rattle.cluster.proofs.Sizes.{take_size}
use Rattle.cluster.proofs.tape.push_passed.Goals as goal

pub unreachable-requires : goal.unreachable-requires
unreachable-requires c =
    let ok : false ≡ true =
    subst IsOk c.in_default-push_keeping.is (c.push_keeping.ensures.succeeds (omega (arith, take_size, c.push_arrivals.ensures.room))) in
    cc
