use Rattle.std.proofs.Common.{sym, ap, ◌∙◌, codes, arith, eq-eqb}
use Rattle.std.proofs.lemmas.Bool.{eqb-true}
use Rattle.journal.specs.TraceText.{end_line}
use Rattle.journal.proofs.TextLaws.{decimal-same}
use Rattle.journal.proofs.reader.is_end.Goals as goal

pub returns-in-Some : goal.returns-in-Some
returns-in-Some c = (
  λ t. c.in-Some.ensures ∙ ap end_line (eqb-true c.in-Some.number c.args.count t),
  λ e. eq-eqb c.in-Some.number c.args.count (decimal-same (codes "end ") c.in-Some.number c.args.count (omega arith) (omega arith)
      (sym c.in-Some.ensures ∙ e)),
)
