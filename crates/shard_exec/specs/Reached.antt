-- Stamps that a shard's requests have reached.
use Rattle.std.specs.Prelude.{◌≡◌, false, Option, Some}
use Rattle.groups.specs.Stamp.{stamp_lt}
use Rattle.groups.specs.declared.stamp.Stamp.{Stamp}

-- there is a last stamp, and it isn't below this one
abbrev pub HasReached : Option Stamp → Stamp → Type 0
HasReached last stamp = (s : Stamp) × (last ≡ Some s) × (stamp_lt s stamp ≡ false)
