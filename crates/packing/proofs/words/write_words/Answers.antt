use Rattle.std.proofs.Common.{◌≡◌, ◌+◌, length, drop, arith, ap, ◌∙◌, sym, length-append, refl}
use Rattle.std.specs.List.{flat_map}
use Rattle.std.proofs.lemmas.List.{take_all, drop_all, append_assoc, append-nil}
use Rattle.packing.specs.Codes.{word_code}
use Rattle.packing.specs.CodeLaws.{length-words_code, length-word_code, word_code-is, words_code-is, take_codes, drop_codes}
use Rattle.packing.proofs.words.write_words.Goals as goal
use Rattle.packing.proofs.words.write_words.Goals.{After-word-word}

pub write_number-at-requires : goal.write_number-at-requires
write_number-at-requires c = rw c.len.ensures.number (omega (arith, c.requires, length-words_code c.args.words.now))

pub loop-place-init : goal.loop-place-init
loop-place-init c =
    let words = c.args.words.now in let e = c.len.ensures.number in (
      rw (c.write_number-at.ensures.written, e, append-nil) refl,
      omega (arith, length-words_code words, rw e at c.write_number-at.ensures.end),
      c.write_number-at.ensures.len ∙ c.requires,
    )

-- a word that is read takes its bytes of those that are left
the_left : (c : After-word-word) → length (flat_map word_code (drop c.loop-place.place c.args.words.now))
    ≡ length (word_code c.word-word.result.now) + length (flat_map word_code (drop (c.loop-place.place + 1) c.args.words.now))
the_left c =
    ap length (drop_codes word_code c.args.words.now c.loop-place.place _ c.word-word.ensures)
    ∙ length-append (word_code c.word-word.result.now) (flat_map word_code (drop (c.loop-place.place + 1) c.args.words.now))

pub write_number-at-requires-in-loop-place : goal.write_number-at-requires-in-loop-place
write_number-at-requires-in-loop-place c =
    omega (arith, the_left (goal.at.write_number-at-requires-in-loop-place c).After-word-word, length-word_code c.word-word.result.now)

pub write_bytes-at-requires : goal.write_bytes-at-requires
write_bytes-at-requires c =
    omega (arith, the_left (goal.at.write_bytes-at-requires c).After-word-word, length-word_code c.word-word.result.now)

pub loop-place-preserved : goal.loop-place-preserved
loop-place-preserved c =
    let words = c.args.words.now in let word = c.word-word.result.now in
    let put = take_codes word_code words c.loop-place.place _ c.word-word.ensures in (
      rw (c.write_bytes-at.ensures.written, c.write_number-at-in-loop-place.ensures.written, c.loop-place.invariant.0, put, word_code-is word)
          (simp append_assoc),
      omega (arith, the_left (goal.at.loop-place-preserved c).After-word-word, length-word_code word),
      c.write_bytes-at.ensures.len ∙ c.write_number-at-in-loop-place.ensures.len ∙ c.loop-place.invariant.2,
    )

pub returns : goal.returns
returns c =
    let words = c.args.words.now in
    let whole = take_all c.loop-place.place words (omega arith) in
    let none = ap (λ ws. length (flat_map word_code ws)) (drop_all c.loop-place.place words (omega arith)) in
    sym (take_all c.loop-place.at c.loop-place.out (omega (arith, none)))
    ∙ c.loop-place.invariant.0 ∙ rw (whole, words_code-is words) refl
