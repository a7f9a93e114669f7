use Rattle.std.proofs.Common.{◌≡◌, IsOk, true, false, subst, arith}
use Rattle.cluster.proofs.Sizes.{collect_few, settle_size}
use Rattle.cluster.proofs.tape.put_collected.Goals as goal

pub unreachable-requires-in_default-push_keeping : goal.unreachable-requires-in_default-push_keeping
unreachable-requires-in_default-push_keeping c =
    let size = settle_size in
    let few = collect_few c.args.conn in
    let room = c.requires in
    let left = c.in-Ok.ensures.room_left in
    let ok : false ≡ true = subst IsOk c.in_default-push_keeping.is (c.push_keeping-2.ensures.succeeds (omega (arith, room, left))) in
    cc
