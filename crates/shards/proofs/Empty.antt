-- Maps that are all empty.
use Rattle.std.proofs.Common.{◌≡◌, ℕ, zero, suc, [], refl, sym, ap, ◌∙◌}
use Rattle.std.proofs.Math.ListN.{replicate}
use Rattle.std.proofs.lemmas.List.{nil_from_length}
use Rattle.std.specs.FinMap.{empty, entries, len-entries, len-empty}
use Rattle.keyspace.specs.Map.{Map, with_entries}
use Rattle.shards.specs.Joined.{joined}

abbrev no_keys : Map
no_keys = empty

no_entries : entries no_keys ≡ []
no_entries = nil_from_length (entries no_keys) (sym (len-entries no_keys) ∙ len-empty _ _)

-- are one empty map
pub joined-empty : (n : ℕ) → joined (replicate n empty) ≡ empty
joined-empty zero = refl
joined-empty (suc n) = ap (with_entries (joined (replicate n empty))) no_entries ∙ joined-empty n
