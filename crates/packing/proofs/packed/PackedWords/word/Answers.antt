use Rattle.std.proofs.Common.{◌≡◌, ◌-◌, length, sym, ◌∙◌, ap, arith, Some, slice_get}
use Rattle.packing.specs.Codes.{number_at, word_at, words_at}
use Rattle.packing.specs.CodeLaws.{many_one, at_drop, length-words_at, words_at-is}
use Rattle.packing.proofs.packed.PackedWords.word.Goals as goal

pub loop-init : goal.loop-init
loop-init c =
    let bytes = c.self.inside.bytes.items in
    let whole : length (words_at bytes).0 - 0 ≡ (number_at bytes).0 = omega (arith, length-words_at bytes) in
    rw (← c.self.view_is, c.take_number.ensures.rest, c.as_slice.ensures.value, whole) (sym (ap (λ p. p.0) (words_at-is bytes)))

pub loop-preserved : goal.loop-preserved
loop-preserved c =
    let words = c.args.self.now in let i = c.loop.counter in
    let one = many_one word_at (length words) i c.loop.rest.now (omega arith) in
    let next = at_drop words i _ _ (sym one.0 ∙ c.loop.invariant) in
    rw c.take_word.ensures.rest next.1

pub returns : goal.returns
returns c =
    let words = c.args.self.now in let i = c.loop.counter in
    let here : i ≡ c.args.place = omega arith in
    let one = many_one word_at (length words) i c.loop.rest.now (omega arith) in
    let next = at_drop words i _ _ (sym one.0 ∙ c.loop.invariant) in
    ap (slice_get words) (sym here) ∙ next.0 ∙ ap Some (sym c.take_word-2.ensures.word)
