use Rattle.std.proofs.Common.{◌≡◌, ◌+◌, ◌-◌, take, drop, arith, ap, sym, ◌∙◌, Some, slice_get}
use Rattle.std.proofs.lemmas.Option.{slice_get_past}
use Rattle.journal.specs.Codes.{row_of, rows_in, end_before}
use Rattle.journal.proofs.CodeLaws.{RowIsIn-read, row_of-code}
use Rattle.journal.proofs.Kept.{RowAt, length-ends, row-at}
use Rattle.journal.proofs.packed_rows.PackedRows.row.Goals as goal
use Rattle.journal.proofs.packed_rows.PackedRows.row.Goals.{After-end_of-end, After-split_at-2}

-- the row at the place, between the two ends
found : (c : After-end_of-end) → RowAt (rows_in c.self.inside.bytes.items c.self.inside.ends.items) c.self.inside.bytes.items
    c.end_of-start.result c.end_of-end.result c.args.place
found c =
    let bytes = c.self.inside.bytes.items in let ends = c.self.inside.ends.items in let rows = rows_in bytes ends in
    let long = length-ends rows bytes ends c.self.invariant in
    let from = c.end_of-start.ensures ∙ ap (λ es. end_before es c.args.place) c.as_slice.ensures.value in
    let to = c.end_of-end.ensures ∙ ap (λ es. end_before es (c.args.place + 1)) c.as_slice-2.ensures.value in
    row-at rows bytes ends _ _ c.args.place c.self.invariant (omega (arith, c.self.inside.ends.ok.0)) from to

-- what is cut out is the bytes between them
cut_out : (c : After-split_at-2) → c.split_at-2.result.0.now
    ≡ take (c.end_of-end.result - c.end_of-start.result) (drop c.end_of-start.result c.self.inside.bytes.items)
cut_out c =
    let bytes = c.self.inside.bytes.items in
    let left : c.split_at.result.1.now ≡ drop c.end_of-start.result bytes = c.split_at.ensures.back ∙ ap
    (drop c.end_of-start.result) c.as_slice-3.ensures.value in
    c.split_at-2.ensures.front ∙ ap (take (c.end_of-end.result - c.end_of-start.result)) left

pub returns-then-place-len : goal.returns-then-place-len
returns-then-place-len c =
    let long = length-ends _ _ _ c.self.invariant in
    rw (← ap (λ v. v.rows) c.self.view_is) (sym (slice_get_past _ c.args.place (omega (arith, c.self.inside.ends.ok.0, long))))

pub split_at-requires : goal.split_at-requires
split_at-requires c =
    let at = found (goal.at.split_at-requires c).After-end_of-end in
    omega (arith, at.low, at.high, c.as_slice-3.ensures.len, c.self.inside.bytes.ok.0)

pub overflow_sub-size : goal.overflow_sub-size
overflow_sub-size c = let at = found (goal.at.overflow_sub-size c).After-end_of-end in omega (arith, at.low)

pub split_at-requires-2 : goal.split_at-requires-2
split_at-requires-2 c =
    let at = found (goal.at.split_at-requires-2 c).After-end_of-end in
    omega (arith, at.low, at.high, c.split_at.ensures.back_len, c.as_slice-3.ensures.len, c.self.inside.bytes.ok.0)

pub row_of-requires : goal.row_of-requires
row_of-requires c =
    let at = found (goal.at.row_of-requires c).After-end_of-end in
    RowIsIn-read at.row _ (cut_out (goal.at.row_of-requires c).After-split_at-2 ∙ at.piece) at.fit

pub returns : goal.returns
returns c =
    let at = found (goal.at.returns c).After-end_of-end in
    let piece = cut_out (goal.at.returns c).After-split_at-2 ∙ at.piece in
    ap Some (c.row_of.ensures ∙ ap row_of piece ∙ row_of-code at.row at.fit) ∙ sym at.here
    ∙ ap (λ v. slice_get v.rows c.args.place) c.self.view_is
