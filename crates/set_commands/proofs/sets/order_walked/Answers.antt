use Rattle.std.proofs.Common.{ℕ, ◌<◌, IsTrue, length, ap, arith, subst, sym}
use Rattle.std.proofs.lemmas.List.{length-map}
use Rattle.std.specs.Global.{Vec}
use Rattle.command_cases.proofs.Items.{covered_item}
use Rattle.set_commands.proofs.sets.order_walked.Goals as goal

pub order_set-requires : goal.order_set-requires
order_set-requires g c =
    let covered = g.K.Keyspace.covered in
    let texts = c.as_slice.result.now in
    let within : c.loop-i.i < length texts =
    omega (arith, c.loop-i-test.true, c.len-i-end.ensures, length-map texts (λ (t : Vec ℕ). t.items), ap length c.as_slice.ensures) in
    let here =
    covered_item covered c.args.keys.now texts c.loop-i.i c.index-as_slice-i.result c.as_slice.ensures within
    c.index-as_slice-i.is c.requires in
    subst (λ key. IsTrue (covered key)) (sym c.as_slice-then-walks.ensures.value) here
