use Rattle.std.proofs.Common.{◌≡◌, ap, Err, ◌∙◌}
use Rattle.std.specs.Prelude.{unwrap_or}
use Rattle.command_table.specs.declared.refusal.Refusal.TheVariants.{Unknown}
use Rattle.command_table.specs.CommandRow.{reading_among}
use Rattle.command_table.specs.Reading.{reading, rows}
use Rattle.command_table.specs.Words.{Word, lower, texts_of}
use Rattle.command_table.proofs.Keyed.{keyed_if}
use Rattle.command_table.proofs.Tells.{told_if}
use Rattle.command_table.proofs.reading.read.Goals as goal

pub returns-clause-reading : goal.returns-clause-reading
returns-clause-reading c =
    let words = texts_of c.into_parts-name.result.1.items in
    let name_is : c.as_slice.result.now ≡ lower c.into_parts-name.result.0 = c.as_slice.ensures ∙ c.into_lower_case-name.ensures in
    c.read_by_row.ensures ∙ ap (λ (name : Word). unwrap_or (reading_among rows name words) (Err Unknown)) name_is
    ∙ ap reading c.into_parts-name.ensures

pub returns-clause-told : goal.returns-clause-told
returns-clause-told c = told_if c.args.request c.read_by_row.result (returns-clause-reading c)

pub returns-clause-keyed : goal.returns-clause-keyed
returns-clause-keyed c = keyed_if c.args.request c.read_by_row.result (returns-clause-reading c)
