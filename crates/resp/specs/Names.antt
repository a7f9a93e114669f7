-- The bytes of a name, wherever they lie.
use Rattle.std.specs.Prelude.{◌≤◌, take}
use Rattle.texts.specs.Texts.{Bytes}
use Rattle.resp.specs.declared.name.TheConstants.{INLINE_BYTES}
use Rattle.resp.specs.declared.name.Place.{Place}
use Rattle.resp.specs.declared.name.Place.TheVariants as place

-- the bytes that lie there
abbrev pub bytes_at : Place → Bytes
bytes_at (place.Inline len bytes) = take len bytes
bytes_at (place.Heap bytes) = bytes.items

-- there is room for the bytes
abbrev pub IsWithin : Place → Type 0
IsWithin (place.Inline len bytes) = len ≤ INLINE_BYTES
IsWithin (place.Heap bytes) = Unit {0}
