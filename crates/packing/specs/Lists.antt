-- Lists of words, one behind another in bytes.
use Rattle.std.specs.Prelude.{◌≡◌, ℕ, List, length}
use Rattle.std.specs.List.{flat_map, AllByRecursion}
use Rattle.packing.specs.Codes.{word_code, word_at, words_code, words_at, many, WordFits, WordsFit}

-- a list of words is told as one word, which is its code
abbrev pub list_code : List (List ℕ) → List ℕ
list_code words = word_code (words_code words)

unfoldable pub list_at : List ℕ → List (List ℕ) × List ℕ
list_at bytes = let word = word_at bytes in ((words_at word.0).0, word.1)

-- the lists that so many bytes are
abbrev pub lists_in : ℕ → List ℕ → List (List (List ℕ))
lists_in count bytes = (many list_at count bytes).0

-- how many bytes the lists take, one behind another
abbrev pub lists_size : List (List (List ℕ)) → ℕ
lists_size lists = length (flat_map list_code lists)

-- its words can lie in memory, and so can their code
pub record ListFits (words : List (List ℕ)) : Type 0 where
  pub own : WordsFit words
  pub code : WordFits (words_code words)

-- the bytes are these lists, one behind another
pub record AreLists (lists : List (List (List ℕ))) (count : ℕ) (bytes : List ℕ) : Type 0 where
  pub counted : count ≡ length lists
  pub coded : bytes ≡ flat_map list_code lists
  pub fit : AllByRecursion ListFits lists
