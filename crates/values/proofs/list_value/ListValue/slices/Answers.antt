use Rattle.std.proofs.Common.{◌++◌, ap, sym, ◌∙◌}
use Rattle.std.specs.Prelude.{slice_range}
use Rattle.texts.specs.Texts.{texts_of}
use Rattle.values.proofs.Cuts.{slice_range-append}
use Rattle.values.proofs.Mapped.{map-slice_range}
use Rattle.values.proofs.list_value.ListValue.slices.Goals as goal

-- the two slices are those of the list's pieces
pub returns : goal.returns
returns c =
    let head = c.as_slices.result.0.now in let tail = c.as_slices.result.1.now in
    let s = c.args.start in let e = c.args.end in
    rw (c.min.ensures, c.min-2.ensures, c.saturating_sub.ensures, c.saturating_sub-2.ensures)
    (ap texts_of (sym (slice_range-append head tail s e c.requires.ordered))
    ∙ map-slice_range (λ t. t.items) (head ++ tail) s e
    ∙ ap (λ xs. slice_range (texts_of xs) s e) c.as_slices.ensures.items ∙ ap (λ v. slice_range v s e) c.self.view_is)
