use Rattle.std.proofs.Common.{◌+◌, length, drop, arith, ap, length-append, refl}
use Rattle.std.specs.List.{flat_map}
use Rattle.std.proofs.lemmas.List.{take_all, drop_all, append_assoc, append-nil}
use Rattle.packing.specs.Codes.{word_code}
use Rattle.packing.specs.CodeLaws.{length-words_code, length-word_code, word_code-is, words_code-is, take_codes, drop_codes}
use Rattle.packing.proofs.words.put_words.Goals as goal

pub put_number-requires : goal.put_number-requires
put_number-requires c = rw c.len.ensures.number (omega (arith, length-words_code c.args.words.now))

pub loop-place-init : goal.loop-place-init
loop-place-init c =
    let words = c.args.words.now in let e = c.len.ensures.number in (
      rw (c.put_number.ensures.items, e, append-nil) refl,
      omega (arith, length-words_code words, rw e at c.put_number.ensures.len),
      c.put_number.ensures.capacity,
    )

pub put_number-requires-in-loop-place : goal.put_number-requires-in-loop-place
put_number-requires-in-loop-place c =
    let left = ap length (drop_codes word_code c.args.words.now c.loop-place.place _ c.word-word.ensures) in
    omega (
      arith,
      left,
      length-append (word_code c.word-word.result.now)
          (flat_map word_code (drop (c.loop-place.place + 1) c.args.words.now)),
      length-word_code c.word-word.result.now,
    )

pub put_bytes-requires : goal.put_bytes-requires
put_bytes-requires c =
    let left = ap length (drop_codes word_code c.args.words.now c.loop-place.place _ c.word-word.ensures) in
    omega (
      arith,
      left,
      length-append (word_code c.word-word.result.now)
          (flat_map word_code (drop (c.loop-place.place + 1) c.args.words.now)),
      length-word_code c.word-word.result.now,
    )

pub loop-place-preserved : goal.loop-place-preserved
loop-place-preserved c =
    let words = c.args.words.now in let word = c.word-word.result.now in
    let left = ap length (drop_codes word_code words c.loop-place.place _ c.word-word.ensures) in
    let put = take_codes word_code words c.loop-place.place _ c.word-word.ensures in (
      rw (c.put_bytes.ensures.items, c.put_number-in-loop-place.ensures.items, c.loop-place.invariant.0, put, word_code-is word)
          (simp append_assoc),
      omega (arith, left, length-append (word_code word) (flat_map word_code (drop (c.loop-place.place + 1) words)), length-word_code word),
      omega arith,
    )

pub returns-clause-items : goal.returns-clause-items
returns-clause-items c =
    let words = c.args.words.now in let whole = take_all c.loop-place.place words (omega arith) in
    rw (c.loop-place.invariant.0, whole, words_code-is words) refl

pub returns-clause-len : goal.returns-clause-len
returns-clause-len c =
    let none = ap (λ ws. length (flat_map word_code ws)) (drop_all c.loop-place.place c.args.words.now (omega arith)) in
    omega (arith, none)
