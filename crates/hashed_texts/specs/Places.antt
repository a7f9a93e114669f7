-- The bytes of a key, wherever they lie.
use Rattle.std.specs.Prelude.{ℕ, ◌≤◌, List, take}
use Rattle.hashed_texts.specs.declared.TheConstants.{INLINE_BYTES}
use Rattle.hashed_texts.specs.declared.Place.{Place}
use Rattle.hashed_texts.specs.declared.Place.TheVariants as place

-- the bytes that lie there
abbrev pub bytes_at : Place → List ℕ
bytes_at (place.Inline len bytes) = take len bytes
bytes_at (place.Heap bytes) = bytes.items

-- there is room for the bytes
abbrev pub IsWithin : Place → Type 0
IsWithin (place.Inline len bytes) = len ≤ INLINE_BYTES
IsWithin (place.Heap bytes) = Unit {0}
