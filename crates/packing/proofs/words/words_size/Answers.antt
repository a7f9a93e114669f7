use Rattle.std.proofs.Common.{◌+◌, length, take, arith, ap, subst, ◌∙◌, length-append}
use Rattle.std.specs.List.{flat_map, AllByRecursion}
use Rattle.std.proofs.lemmas.List.{take_all}
use Rattle.packing.specs.Codes.{word_code, WordFits}
use Rattle.packing.specs.CodeLaws.{take_codes, size_rest, all_one, length-words_code}
use Rattle.packing.proofs.words.words_size.Goals as goal

pub returns-in_err-size : goal.returns-in_err-size
returns-in_err-size c =
    let words = c.args.words.now in let i = c.loop-place.place in let word = c.word-word.result.now in
    let one = ap length (take_codes word_code words i word c.word-word.ensures) ∙ length-append (flat_map word_code (take i words))
    (word_code word) in
    let part = size_rest word_code words (i + 1) in let all = length-words_code words in
    let over = c.in_err-size.ensures in
    rw c.from_residual.ensures (omega (arith, over, c.word_size.ensures.size, c.loop-place.invariant.0))

pub loop-place-preserved : goal.loop-place-preserved
loop-place-preserved c =
    let words = c.args.words.now in let i = c.loop-place.place in let word = c.word-word.result.now in
    let one = ap length (take_codes word_code words i word c.word-word.ensures) ∙ length-append (flat_map word_code (take i words))
    (word_code word) in (
      omega (arith, c.in_ok-size.ensures.1, c.word_size.ensures.size),
      all_one WordFits words i word c.word-word.ensures c.loop-place.invariant.1 c.word_size.ensures.fits,
    )

pub returns : goal.returns
returns c =
    let words = c.args.words.now in
    let whole = take_all c.loop-place.place words (omega arith) in
    let size = ap (λ ws. length (flat_map word_code ws)) whole in (
      omega (arith, size, length-words_code words, c.loop-place.invariant.0),
      record {
        some = omega arith;
        count = omega arith;
        each = subst (AllByRecursion WordFits) whole c.loop-place.invariant.1;
      },
    )
