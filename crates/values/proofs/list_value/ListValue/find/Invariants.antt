use Rattle.std.proofs.Common.{◌≡◌, ℕ, ◌<◌, false, get_or, []}
use Rattle.std.specs.Str.{bytes_eq}
use Rattle.values.proofs.list_value.ListValue.find.Given as goal

-- none of the items so far is the one
abbrev pub invariant-loop-place : goal.invariant-loop-place
invariant-loop-place l = (k : ℕ) → k < l.place → bytes_eq l.item (get_or l.self k []) ≡ false
