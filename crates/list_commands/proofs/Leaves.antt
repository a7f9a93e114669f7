-- That the commands that read lists leave the map, and that those which move an item answer what a pop would.
use Rattle.std.proofs.Common.{◌≡◌, ◌||◌, ℤ, Bool, true, false, List, Option, Some, None, refl}
use Rattle.std.specs.Option.{option_map}
use Rattle.command_cases.proofs.Leaves.{leaves-at_key}
use Rattle.command_cases.specs.Case.{at_key}
use Rattle.keyspace.specs.Map.{Map}
use Rattle.list_commands.specs.ListCommand.{at_list, index_step, range_step, pop_step, move_step, may_be_list}
use Rattle.resp.specs.Content.{Content}
use Rattle.texts.specs.Texts.{Bytes}
use Rattle.texts.specs.declared.text_list.End.{End}
use Rattle.values.specs.declared.Value.{Value}
use Rattle.values.specs.declared.Value.TheVariants as kind

-- a command that leaves the list leaves the map
leaves-at_list : (key : Bytes) (step : Option (List Bytes) → Option Value × Content)
    → ((before : Option (List Bytes)) → (step before).0 ≡ option_map kind.List before) → (m : Map) → (at_key key (at_list step) m).0 ≡ m
leaves-at_list key step stays = leaves-at_key key (at_list step) there
  where
    there : (there : Option Value) → (at_list step there).0 ≡ there
    there None = stays None
    there (Some (kind.List items)) = stays (Some items)
    there (Some (kind.Str text)) = refl
    there (Some (kind.Hash pairs)) = refl
    there (Some (kind.Set members)) = refl

pub leaves-lindex : (key : Bytes) (place : ℤ) (m : Map) → (at_key key (at_list (index_step place)) m).0 ≡ m
leaves-lindex key place = leaves-at_list key (index_step place) stays
  where
    stays : (before : Option (List Bytes)) → (index_step place before).0 ≡ option_map kind.List before
    stays None = refl
    stays (Some items) = refl

pub leaves-lrange : (key : Bytes) (start end : ℤ) (m : Map) → (at_key key (at_list (range_step start end)) m).0 ≡ m
leaves-lrange key start end = leaves-at_list key (range_step start end) stays
  where
    stays : (before : Option (List Bytes)) → (range_step start end before).0 ≡ option_map kind.List before
    stays None = refl
    stays (Some items) = refl

-- LMOVE and RPOPLPUSH answer what a pop would, where the second key receives the item
pub move-answers : (equal : Bool) (taken put : End) (from there : Option Value) → (equal || may_be_list there) ≡ true
    → (move_step equal taken put from there).1 ≡ (at_list (pop_step taken) from).1
move-answers equal taken put None there receives = refl
move-answers equal taken put (Some (kind.Str text)) there receives = refl
move-answers equal taken put (Some (kind.Hash pairs)) there receives = refl
move-answers equal taken put (Some (kind.Set members)) there receives = refl
move-answers true taken put (Some (kind.List items)) there receives = refl
move-answers false taken put (Some (kind.List items)) None receives = refl
move-answers false taken put (Some (kind.List items)) (Some (kind.List others)) receives = refl
move-answers false taken put (Some (kind.List items)) (Some (kind.Str text)) receives = absurd cc
move-answers false taken put (Some (kind.List items)) (Some (kind.Hash pairs)) receives = absurd cc
move-answers false taken put (Some (kind.List items)) (Some (kind.Set members)) receives = absurd cc
