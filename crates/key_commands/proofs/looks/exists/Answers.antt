use Rattle.std.proofs.Common.{IsTrue, sym, subst}
use Rattle.command_cases.proofs.Items.{covered_item}
use Rattle.key_commands.proofs.looks.exists.Goals as goal

pub look-requires : goal.look-requires
look-requires g c =
    let covered = g.K.Keyspace.covered in
    let here = covered_item covered c.args.keys c.as_slice-key-items.result.now c.loop-key.key-index c.key-item.result
    c.as_slice-key-items.ensures c.loop-key-test.true c.key-item.is c.requires in
    subst (λ key. IsTrue (covered key)) (sym c.as_slice.ensures.value) here
