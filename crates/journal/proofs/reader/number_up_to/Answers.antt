use Rattle.std.proofs.Common.{sym, ◌∙◌, arith}
use Rattle.journal.proofs.TextLaws.{decimal-same}
use Rattle.journal.proofs.reader.number_up_to.Goals as goal

pub returns-in_default : goal.returns-in_default
returns-in_default c = λ n low high e.
    let same = decimal-same c.args.name.now c.in-Some.n n (omega arith) (omega arith) (sym c.in-Some.ensures ∙ e) in omega arith

pub returns-in_default-2 : goal.returns-in_default-2
returns-in_default-2 c = λ n low high e.
    let same = decimal-same c.args.name.now c.in-Some.n n (omega arith) (omega arith) (sym c.in-Some.ensures ∙ e) in omega arith
