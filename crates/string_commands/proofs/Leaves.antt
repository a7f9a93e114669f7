-- That the commands that read strings leave the map, and what those answer that move one out of it.
use Rattle.std.proofs.Common.{◌≡◌, ℤ, Option, Some, None, refl}
use Rattle.std.specs.Option.{option_map}
use Rattle.command_cases.proofs.Leaves.{leaves-at_key}
use Rattle.command_cases.specs.Case.{at_key}
use Rattle.keyspace.specs.Map.{Map}
use Rattle.resp.specs.Content.{Content}
use Rattle.string_commands.specs.StringCommand.{at_string, get_step, get_string, getrange_string, getset_string, getdel_string}
use Rattle.texts.specs.Texts.{Bytes}
use Rattle.values.specs.declared.Value.{Value}
use Rattle.values.specs.declared.Value.TheVariants as kind

-- a command that leaves the string leaves the map
leaves-at_string : (key : Bytes) (step : Option Bytes → Option Value × Content)
    → ((before : Option Bytes) → (step before).0 ≡ option_map kind.Str before) → (m : Map) → (at_key key (at_string step) m).0 ≡ m
leaves-at_string key step stays = leaves-at_key key (at_string step) there
  where
    there : (there : Option Value) → (at_string step there).0 ≡ there
    there None = stays None
    there (Some (kind.Str text)) = stays (Some text)
    there (Some (kind.List items)) = refl
    there (Some (kind.Hash pairs)) = refl
    there (Some (kind.Set members)) = refl

pub leaves-get : (key : Bytes) (m : Map) → (at_key key get_step m).0 ≡ m
leaves-get key = leaves-at_string key get_string stays
  where
    stays : (before : Option Bytes) → (get_string before).0 ≡ option_map kind.Str before
    stays None = refl
    stays (Some text) = refl

pub leaves-getrange : (key : Bytes) (start end : ℤ) (m : Map) → (at_key key (at_string (getrange_string start end)) m).0 ≡ m
leaves-getrange key start end = leaves-at_string key (getrange_string start end) (λ before. refl)

-- GETSET and GETDEL answer what GET would
pub getset-answers : (value : Bytes) (there : Option Value) → (at_string (getset_string value) there).1 ≡ (get_step there).1
getset-answers value None = refl
getset-answers value (Some (kind.Str text)) = refl
getset-answers value (Some (kind.List items)) = refl
getset-answers value (Some (kind.Hash pairs)) = refl
getset-answers value (Some (kind.Set members)) = refl

pub getdel-answers : (there : Option Value) → (at_string getdel_string there).1 ≡ (get_step there).1
getdel-answers None = refl
getdel-answers (Some (kind.Str text)) = refl
getdel-answers (Some (kind.List items)) = refl
getdel-answers (Some (kind.Hash pairs)) = refl
getdel-answers (Some (kind.Set members)) = refl
