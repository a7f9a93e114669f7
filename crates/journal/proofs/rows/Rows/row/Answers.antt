use Rattle.std.proofs.Common.{◌≡◌, ◌+◌, ap, sym, ◌∙◌, Some, None, Option, slice_get, arith}
use Rattle.std.specs.Option.{option_copied}
use Rattle.journal.specs.LongRows.{long_at, whole}
use Rattle.journal.specs.declared.long_rows.LongRow.{LongRow}
use Rattle.journal.proofs.LongRows.{whole-none, whole-at}
use Rattle.journal.proofs.rows.Rows.row.Goals as goal
use Rattle.journal.proofs.rows.Rows.row.Goals.{In-Some}

-- the row that is seen is the packed one with what lies beside it
seen : (c : In-Some) (beside : Option LongRow) → long_at c.self.inside.long.items c.args.place ≡ beside
    → slice_get c.args.self.now.rows c.args.place ≡ Some (whole c.in-Some.row beside)
seen c beside is =
    let place : 0 + c.args.place ≡ c.args.place = omega arith in
    let at = whole-at c.self.inside.long.items 0 c.args.place c.self.inside.packed.rows c.in-Some.row (sym c.row.ensures ∙ c.in-Some.is) in
    ap (λ v. slice_get v.rows c.args.place) (sym c.self.view_is) ∙ at
    ∙ ap (λ p. Some (whole c.in-Some.row (long_at c.self.inside.long.items p))) place ∙ ap (λ o. Some (whole c.in-Some.row o)) is

pub returns-in-None : goal.returns-in-None
returns-in-None c =
    sym (whole-none c.self.inside.long.items 0 c.args.place c.self.inside.packed.rows (sym c.row.ensures ∙ c.in-None.is))
    ∙ ap (λ v. slice_get v.rows c.args.place) c.self.view_is

pub returns-in-Some-long_at : goal.returns-in-Some-long_at
returns-in-Some-long_at c =
    let beside = ap (λ longs. long_at longs c.args.place) (sym c.as_slice.ensures.value) ∙ sym c.long_at.ensures
    ∙ ap option_copied c.in-Some-long_at.is in
    ap Some c.with_long.ensures ∙ sym (seen (goal.at.returns-in-Some-long_at c).In-Some (Some c.in-Some-long_at.long.now) beside)

pub returns-in-None-long_at : goal.returns-in-None-long_at
returns-in-None-long_at c =
    let beside = ap (λ longs. long_at longs c.args.place) (sym c.as_slice.ensures.value) ∙ sym c.long_at.ensures
    ∙ ap option_copied c.in-None-long_at.is in
    sym (seen (goal.at.returns-in-None-long_at c).In-Some None beside)
