-- Words that lie in a buffer of their own.
use Rattle.std.specs.Prelude.{◌≡◌, ℕ, List, [], ◌∷◌}
use Rattle.packing.specs.Codes.{words_code, WordsFit}

-- the buffer is empty where there are no words, and else is their code
abbrev pub ArePacked : List (List ℕ) → List ℕ → Type 0
ArePacked [] bytes = bytes ≡ []
ArePacked (word ∷ words) bytes = (bytes ≡ words_code (word ∷ words)) × WordsFit (word ∷ words)
