-- That the commands that look at a hash leave the map.
use Rattle.std.proofs.Common.{◌≡◌, Option, Some, None, refl}
use Rattle.command_cases.proofs.Leaves.{leaves-at_key}
use Rattle.command_cases.specs.Case.{at_key}
use Rattle.hash_commands.specs.HashCommand.{HashPairs, looks_at_hash}
use Rattle.keyspace.specs.Map.{Map}
use Rattle.resp.specs.Content.{Content}
use Rattle.texts.specs.Texts.{Bytes}
use Rattle.values.specs.declared.Value.{Value}
use Rattle.values.specs.declared.Value.TheVariants as kind

pub leaves-looks_at_hash : (key : Bytes) (answer : HashPairs → Content) (m : Map) → (at_key key (looks_at_hash answer) m).0 ≡ m
leaves-looks_at_hash key answer = leaves-at_key key (looks_at_hash answer) stays
  where
    stays : (there : Option Value) → (looks_at_hash answer there).0 ≡ there
    stays None = refl
    stays (Some (kind.Hash pairs)) = refl
    stays (Some (kind.Str text)) = refl
    stays (Some (kind.List items)) = refl
    stays (Some (kind.Set members)) = refl
