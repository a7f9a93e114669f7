use Rattle.std.proofs.Common.{◌+◌, ◌∙◌, arith, ap, length, take, length-append, rules}
use Rattle.layer_results.specs.Results.{names_of, row_names}
use Rattle.layer_results.proofs.Names.{names_step, names_rest}
use Rattle.layer_results.proofs.done.Done.push_names.Goals as goal

pub push_row_names-requires : goal.push_row_names-requires
push_row_names-requires c =
    let rows = c.args.self.now in let i = c.loop-row.row-index in let row = c.row-item.result in
    let step = ap length (names_step rows i row (search rules) (search rules)) ∙ length-append (names_of (take i rows)) (row_names row) in
    omega (arith, step, names_rest rows (i + 1), c.loop-row.invariant.len, c.loop-row.invariant.room)
