use Rattle.std.proofs.Common.{sym, ap, ◌∙◌}
use Rattle.journal.specs.TraceText.{args_in}
use Rattle.journal.proofs.TextLaws.{parts_in-cut}
use Rattle.journal.proofs.lines.parts_in.Goals as goal

pub returns-clause-name : goal.returns-clause-name
returns-clause-name c = c.cut_at.ensures.before ∙ sym (ap (λ q. q.0) (parts_in-cut c.args.line.now))

pub returns-clause-args : goal.returns-clause-args
returns-clause-args c = ap args_in c.cut_at.ensures.behind ∙ sym (ap (λ q. q.1) (parts_in-cut c.args.line.now))
