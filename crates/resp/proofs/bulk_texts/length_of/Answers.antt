use Rattle.std.proofs.Common.{◌≡◌, ◌+◌, Some, length, drop, min, ap, sym, ◌∙◌, arith}
use Rattle.resp.proofs.BulksRead.{line_more, line_done}
use Rattle.resp.proofs.bulk_texts.length_of.Goals as goal

pub overflow_mul-size : goal.overflow_mul-size
overflow_mul-size c =
    let more = line_more c.args.line.now c.loop-place.size c.loop-place.place _ c.requires.0 c.requires.1 c.loop-place-test.true
    c.if-byte-eq13.false c.loop-place.invariant c.requires.3 in
    omega (arith, more.1, c.requires.2)

pub overflow_add-size : goal.overflow_add-size
overflow_add-size c =
    let more = line_more c.args.line.now c.loop-place.size c.loop-place.place _ c.requires.0 c.requires.1 c.loop-place-test.true
    c.if-byte-eq13.false c.loop-place.invariant c.requires.3 in
    omega (arith, more.1, c.requires.2, c.saturating_sub.ensures, c.from.ensures)

pub returns-then-byte-eq13 : goal.returns-then-byte-eq13
returns-then-byte-eq13 c =
    let line = c.args.line.now in
    let done = line_done line c.loop-place.size c.loop-place.place _ c.loop-place-test.true c.if-byte-eq13.true c.loop-place.invariant in
    let cut : c.min.result ≡ min (c.loop-place.place + 2) (length line) = omega (arith, c.min.ensures) in
    ap (λ rest. (Some c.loop-place.size, rest)) (c.split_at.ensures.back ∙ ap (λ n. drop n line) cut) ∙ sym done
