-- Cases that leave the map as it was, by their shapes. A case of the shape `at_each` leaves it by computation.
use Rattle.std.proofs.Common.{◌≡◌, Option, ap, ◌∙◌}
use Rattle.std.specs.FinMap.{get}
use Rattle.command_cases.specs.Case.{Step, at_key}
use Rattle.keyspace.proofs.Changes.{set-get}
use Rattle.keyspace.specs.Map.{Map, set}
use Rattle.texts.specs.Texts.{Bytes}
use Rattle.values.specs.declared.Value.{Value}

-- a step that leaves what stands at the key leaves the map
pub leaves-at_key : (key : Bytes) (step : Step) → ((there : Option Value) → (step there).0 ≡ there) → (m : Map) → (at_key key step m).0 ≡ m
leaves-at_key key step stays m = ap (set m key) (stays (get m key)) ∙ set-get m key
