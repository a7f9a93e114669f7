-- That the commands that look at a set leave the map.
use Rattle.std.proofs.Common.{◌≡◌, Option, Some, None, refl}
use Rattle.command_cases.proofs.Leaves.{leaves-at_key}
use Rattle.command_cases.specs.Case.{at_key}
use Rattle.keyspace.specs.Map.{Map}
use Rattle.resp.specs.Content.{Content}
use Rattle.set_commands.specs.Combination.{Members}
use Rattle.set_commands.specs.SetCommand.{looks_at_set}
use Rattle.texts.specs.Texts.{Bytes}
use Rattle.values.specs.declared.Value.{Value}
use Rattle.values.specs.declared.Value.TheVariants as kind

pub leaves-looks_at_set : (key : Bytes) (answer : Members → Content) (m : Map) → (at_key key (looks_at_set answer) m).0 ≡ m
leaves-looks_at_set key answer = leaves-at_key key (looks_at_set answer) stays
  where
    stays : (there : Option Value) → (looks_at_set answer there).0 ≡ there
    stays None = refl
    stays (Some (kind.Set members)) = refl
    stays (Some (kind.Str text)) = refl
    stays (Some (kind.List items)) = refl
    stays (Some (kind.Hash pairs)) = refl
