-- Bytes that are written a part at a time.
use Rattle.std.proofs.Common.{◌≡◌, ℕ, List, ◌++◌, take, drop, Option, sym, ap, ◌∙◌, append_assoc, take-append-drop}
use Rattle.std.specs.Io.KnownBytes.{Appends}
use Rattle.std.proofs.KnownBytes.{Appends-trans}

-- what was written, and n more bytes of what was left; what is left then is the slice behind them
pub sent_more : (old mid new : Option (List ℕ)) (bytes rest : List ℕ) (n : ℕ)
    → (sent : List ℕ) × (bytes ≡ sent ++ rest) × Appends old mid sent
    → Appends mid new (take n rest) → (sent : List ℕ) × (bytes ≡ sent ++ drop n rest) × Appends old new sent
sent_more old mid new bytes rest n before more = (
  before.0 ++ take n rest,
  before.1 ∙ ap (λ l. before.0 ++ l) (sym (take-append-drop n rest)) ∙ sym (append_assoc before.0 (take n rest) (drop n rest)),
  Appends-trans old mid new before.0 (take n rest) before.2 more,
)
