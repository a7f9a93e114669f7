use Rattle.std.proofs.Common.{◌≡◌, ℕ, ◌<◌, ◌&&◌, nat_le, nat_lt, length, IfOk, w64, to_z, of_z, sym, subst, ap, ◌∙◌}
use Rattle.std.proofs.lemmas.Int.{to_z-of_z}
use Rattle.std.specs.Prelude.{slice_range}
use Rattle.integers.specs.Range.{is_in_range, range_items}
use Rattle.integers.specs.RangeLaws.{range_items-slice}
use Rattle.string_commands.proofs.reads.copy_range.Goals as goal

pub returns : goal.returns
returns c =
    let bytes = c.as_slice-bytes.result.now in
    let start = c.args.start in
    let end = c.args.end in
    let from = c.range_of-from.result.0 in
    let to = c.range_of-from.result.1 in
    let places : (p : ℕ) → p < length bytes → is_in_range start end (length bytes) p ≡ (nat_le from p && nat_lt p to) = λ p within.
    ap (λ s. is_in_range s end (length bytes) p) (sym (to_z-of_z w64 start c.ranges.start))
    ∙ ap (λ e. is_in_range (to_z w64 (of_z w64 start)) e (length bytes) p) (sym (to_z-of_z w64 end c.ranges.end))
    ∙ c.range_of-from.ensures.places p within in
    let slice : range_items start end bytes ≡ slice_range bytes from to =
    range_items-slice start end bytes from to c.range_of-from.ensures.ordered c.range_of-from.ensures.within places in
    let whole : slice_range bytes from to ≡ range_items start end c.args.text.now = sym slice
    ∙ ap (range_items start end) c.as_slice-bytes.ensures in
    record { copied = subst (λ l. IfOk c.copy_of.result (λ t. t ≡ l)) whole c.copy_of.ensures.copied }
