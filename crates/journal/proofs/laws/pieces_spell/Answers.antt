use Rattle.std.proofs.Common.{◌∙◌, sym, subst}
use Rattle.std.proofs.lemmas.List.{append_assoc}
use Rattle.journal.specs.TraceText.{ended, first_line, max_line, Spells}
use Rattle.journal.specs.declared.version.TheConstants.{WRITTEN_VERSION}
use Rattle.journal.proofs.ReadBack.{written-spells}
use Rattle.journal.proofs.Written.{trace-written}
use Rattle.journal.proofs.laws.pieces_spell.Goals as goal

pub returns : goal.returns
returns c max steps least greatest few fit =
    subst (λ text. Spells text max steps)
    (trace-written max steps ∙ sym (append_assoc (ended (first_line WRITTEN_VERSION)) (ended (max_line max)) _))
    (written-spells max steps least greatest few fit)
