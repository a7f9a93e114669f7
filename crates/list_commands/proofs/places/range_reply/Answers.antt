use Rattle.std.proofs.Common.{◌≡◌, ℕ, ◌<◌, ◌≤◌, ◌&&◌, nat_le, nat_lt, length, map, Some, w64, subst, sym, ap, ◌∙◌, arith}
use Rattle.std.proofs.lemmas.Int.{to_z-of_z}
use mir.Val.{to_z, of_z}
use Rattle.integers.specs.Range.{is_in_range, range_items}
use Rattle.integers.specs.RangeLaws.{range_items-slice}
use Rattle.resp.proofs.Contents.{content-texts}
use Rattle.resp.specs.Content.{content}
use Rattle.resp.specs.declared.reply.Reply.TheVariants.{Bulks}
use Rattle.list_commands.proofs.places.range_reply.Goals as goal

-- the items at the places of the range are one slice
pub returns : goal.returns
returns c =
    let xs = c.args.list.now in
    let from = c.range_of-from.result.0 in
    let to = c.range_of-from.result.1 in
    let start_word = to_z w64 (of_z w64 c.args.start) in
    let end_word = to_z w64 (of_z w64 c.args.end) in
    let with_start : (p : ℕ) → p < c.len.result → is_in_range c.args.start end_word c.len.result p ≡ (nat_le from p && nat_lt p to) =
    subst (λ s. (p : ℕ) → p < c.len.result → is_in_range s end_word c.len.result p ≡ (nat_le from p && nat_lt p to))
    (to_z-of_z w64 c.args.start c.ranges.start) c.range_of-from.ensures.places in
    let with_end : (p : ℕ) → p < c.len.result → is_in_range c.args.start c.args.end c.len.result p ≡ (nat_le from p && nat_lt p to) =
    subst (λ e. (p : ℕ) → p < c.len.result → is_in_range c.args.start e c.len.result p ≡ (nat_le from p && nat_lt p to))
    (to_z-of_z w64 c.args.end c.ranges.end) with_start in
    let places : (p : ℕ) → p < length xs → is_in_range c.args.start c.args.end (length xs) p ≡ (nat_le from p && nat_lt p to) =
    subst (λ n. (p : ℕ) → p < n → is_in_range c.args.start c.args.end n p ≡ (nat_le from p && nat_lt p to)) c.len.ensures.len with_end in
    let within : to ≤ length xs = omega (arith, c.range_of-from.ensures.within, c.len.ensures.len) in
    ap (λ ts. content (Bulks ts)) (c.in_ok-copies.ensures ∙ ap (map Some)
    (sym (range_items-slice c.args.start c.args.end xs from to c.range_of-from.ensures.ordered within places)))
    ∙ content-texts (range_items c.args.start c.args.end xs)
