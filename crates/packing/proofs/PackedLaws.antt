-- Words that were put in a buffer of their own are what is read of it.
use Rattle.std.proofs.Common.{◌≡◌, ℕ, List, [], ◌∷◌, refl, ap, sym, ◌∙◌, arith}
use Rattle.std.proofs.lemmas.List.{append-nil}
use Rattle.packing.specs.Codes.{number_at, words_code, words_at, WordsFit}
use Rattle.packing.specs.CodeLaws.{words_at-code}
use Rattle.packing.specs.Packed.{ArePacked}

pub words_at-nil : (words_at []).0 ≡ []
unfolding words_at number_at
words_at-nil = refl

pub packed_none : ArePacked (words_at []).0 []
packed_none = rw words_at-nil refl

pub packed_read : (words : List (List ℕ)) (bytes : List ℕ) → bytes ≡ words_code words → WordsFit words → (words_at bytes).0 ≡ words
packed_read words bytes coded fit = ap (λ p. p.0) (ap words_at (coded ∙ sym (append-nil (words_code words))) ∙ words_at-code words [] fit)

some_packed : (words : List (List ℕ)) (bytes : List ℕ) → bytes ≡ words_code words → WordsFit words → ArePacked words bytes
some_packed [] bytes coded fit = absurd (let some = fit.some in omega arith)
some_packed (word ∷ words) bytes coded fit = (coded, fit)

pub packed_some : (words : List (List ℕ)) (bytes : List ℕ) → bytes ≡ words_code words → WordsFit words → ArePacked (words_at bytes).0 bytes
packed_some words bytes coded fit = rw (packed_read words bytes coded fit) (some_packed words bytes coded fit)

pub packed_fits : (words : List (List ℕ)) (bytes : List ℕ) → bytes ≡ words_code words → WordsFit words
    → (bytes ≡ words_code (words_at bytes).0) × WordsFit (words_at bytes).0
packed_fits words bytes coded fit = rw (packed_read words bytes coded fit) (coded, fit)
