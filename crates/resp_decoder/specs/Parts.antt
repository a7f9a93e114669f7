-- The text of what has been read of a request: its count, and the words that have come.
use Rattle.std.specs.Prelude.{ℕ, zero, suc, ◌+◌, List, [], ◌∷◌, ◌++◌, length}
use Rattle.std.specs.List.{flat_map}
use Rattle.resp.specs.Ascii.{asterisk}
use Rattle.resp_decoder.specs.declared.fault.Fault.TheVariants.{ExpectedStar}
use Rattle.resp_decoder.specs.Texts.{bytes, number_marks, word_marks}

-- `*`, a count and the line's end
abbrev pub head_text : ℕ → List ℕ
head_text count = bytes ((asterisk, ExpectedStar) ∷ number_marks count)

abbrev pub words_text : List (List ℕ) → List ℕ
words_text words = bytes (flat_map word_marks words)

-- the words that have come of a request which lacks so many words; nothing has come where none is lacking
abbrev pub part_text : List (List ℕ) → ℕ → List ℕ
part_text words zero = []
part_text words (suc left) = head_text (length words + suc left) ++ words_text words
