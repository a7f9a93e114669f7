use Rattle.std.proofs.Common.{◌+◌, ◌∙◌, arith, ap, length, take, length-append, rules}
use Rattle.layer_results.specs.Results.{names_of, row_names}
use Rattle.layer_results.proofs.Names.{names_step, names_rest}
use Rattle.layer_results.proofs.done.Done.names_count.Goals as goal

pub returns-in_err-count : goal.returns-in_err-count
returns-in_err-count c =
    let rows = c.args.self.now in let i = c.loop-row.row-index in let row = c.row-item.result in
    let step = ap length (names_step rows i row (search rules) (search rules)) ∙ length-append (names_of (take i rows)) (row_names row) in
    let over = c.in_err-count.ensures in
    rw c.from_residual.ensures (omega (arith, over, step, names_rest rows (i + 1), c.loop-row.invariant, c.row_count.ensures))
