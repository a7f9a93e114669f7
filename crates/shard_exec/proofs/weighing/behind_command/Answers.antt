use Rattle.std.proofs.Common.{◌≡◌, slice_get, Some, arith, sym, ap, ◌∙◌}
use Rattle.command_table.specs.Command.{keys_of}
use Rattle.shard_exec.specs.Weights.{members_at}
use Rattle.shard_exec.proofs.OneMore.{one_more}
use Rattle.shard_exec.proofs.weighing.behind_command.Goals as goal

pub loop-place-preserved : goal.loop-place-preserved
loop-place-preserved c =
    let here : slice_get (keys_of c.args.command.now) c.loop-place.place ≡ Some c.at.result.now =
    ap (λ keys. slice_get keys c.loop-place.place) (sym c.keys_of-keys.ensures.named) ∙ c.at.ensures in
    let more = one_more (members_at c.args.table.now c.args.row.now) (keys_of c.args.command.now) c.loop-place.place
    c.at.result.now here in
    omega (arith, more, c.loop-place.invariant, c.saturating_sub-missing.ensures, c.members_at.ensures)
