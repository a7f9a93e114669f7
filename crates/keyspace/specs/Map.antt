-- The contents of a keyspace: a finite map from keys, which are byte strings, to values. Its words are those of
-- `FinMap`; here are the few that speak of a set of keys at once, given as a list in any order and with repeats.
use Rattle.std.specs.Prelude.{◌≡◌, ℕ, Bool, true, false, not, List, [], ◌∷◌, Option, Some, None}
use Rattle.std.specs.Cmp.Lexicographic.{slice_cmp}
use Rattle.std.specs.FinMap.{FinMap, insert, remove, retain_keys, entries}
use Rattle.std.specs.List.{list_any}
use Rattle.std.specs.Ordering.{nat_cmp}
use Rattle.std.specs.Str.{bytes_eq}
use Rattle.values.specs.declared.Value.{Value}

-- keys ascend byte by byte, a key before those that it begins
abbrev pub Map : Type 0
Map = FinMap (slice_cmp nat_cmp) Value

-- whether `key` is one of `keys`
abbrev pub among : List (List ℕ) → List ℕ → Bool
among keys key = list_any (bytes_eq key) keys

-- no key is in both lists
abbrev pub AreApart : List (List ℕ) → List (List ℕ) → Type 0
AreApart keys others = (key : List ℕ) → among keys key ≡ true → among others key ≡ false

-- what the map has at these keys, and nothing else
abbrev pub restrict : Map → List (List ℕ) → Map
restrict m keys = retain_keys m (among keys)

-- the map with these keys removed
abbrev pub without : Map → List (List ℕ) → Map
without m keys = retain_keys m (λ key. not (among keys key))

-- the map with these entries written into it, from the last to the first
abbrev pub with_entries : Map → List (List ℕ × Value) → Map
with_entries m [] = m
with_entries m (e ∷ es) = insert (with_entries m es) e.0 e.1

-- the map with `part` in the place of what it had at these keys. What `part` has at other keys counts for nothing
abbrev pub put_back : Map → List (List ℕ) → Map → Map
put_back m keys part = with_entries (without m keys) (entries (restrict part keys))

-- the map with this value at the key, or with nothing there
abbrev pub set : Map → List ℕ → Option Value → Map
set m key None = remove m key
set m key (Some value) = insert m key value
