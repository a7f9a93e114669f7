use Rattle.std.specs.Fmt.{decimal}
use Rattle.journal.proofs.TextLaws.{behind-name, no-name, named-number}
use Rattle.journal.proofs.reader.number_behind.Goals as goal

pub returns-in_err-strip_prefix : goal.returns-in_err-strip_prefix
returns-in_err-strip_prefix c =
    rw c.from_residual.ensures (λ n h e. no-name c.args.line.now c.args.name.now (decimal n) c.in_err-strip_prefix.ensures.cases e)

pub returns : goal.returns
returns c =
    let cases = c.in_ok-strip_prefix.ensures.cases in
    let is = behind-name c.args.line.now c.args.name.now c.in_ok-strip_prefix.field-0.now cases.0 cases.1 in
    named-number c.args.line.now c.args.name.now c.in_ok-strip_prefix.field-0.now c.number_in.result is c.number_in.ensures
