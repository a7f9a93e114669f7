use Rattle.std.proofs.Common.{ap, sym, ◌∙◌}
use Rattle.command_table.specs.CommandRow.{row_of}
use Rattle.command_table.specs.Families.{rows_of}
use Rattle.command_table.proofs.Finding.{found_by_letters}
use Rattle.command_table.proofs.family.family_of.Goals as goal

pub returns : goal.returns
returns c =
    let name = c.args.name.now in
    found_by_letters name ∙ ap (λ f. row_of (rows_of f) name) (sym c.family_by_letters.ensures)
