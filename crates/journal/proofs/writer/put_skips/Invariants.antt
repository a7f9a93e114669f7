use Rattle.std.proofs.Common.{◌≡◌, ◌-◌, ◌++◌, ◌∷◌, List, ℕ}
use Rattle.std.specs.List.{flat_map}
use Rattle.packing.specs.Codes.{many}
use Rattle.journal.specs.Codes.{skip_at}
use Rattle.journal.specs.TraceText.{skip_text}
use Rattle.journal.proofs.writer.put_skips.Given as goal

-- what was put, and the names that are left, are all names
abbrev pub invariant-loop : goal.invariant-loop
invariant-loop l =
    ((more : List ℕ) × (l.out.items ≡ l.fn.out.items ++ more))
    × (l.out.items ++ flat_map (λ name. 32 ∷ skip_text name) (many skip_at (l.count - l.counter) l.rest).0
    ≡ l.fn.out.items ++ flat_map (λ name. 32 ∷ skip_text name) (many skip_at l.count l.bytes).0)
    × ((many skip_at (l.count - l.counter) l.rest).1 ≡ (many skip_at l.count l.bytes).1)
