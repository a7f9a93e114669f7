-- The sets at the keys of a command, one key after another, and what is combined of them.
use Rattle.std.proofs.Common.{◌≡◌, ℕ, ◌+◌, ◌<◌, List, [], ◌∷◌, ◌++◌, length, take, drop, get_or, Option, Some, None}
use Rattle.std.proofs.Common.{refl, sym, ap, ◌∙◌, append_assoc}
use Rattle.std.proofs.lemmas.List.{append-nil, map-append, take-append-drop}
use Rattle.std.specs.Borrow.{Bor}
use Rattle.std.specs.FinMap.{get}
use Rattle.std.specs.Option.{option_copied, option_map}
use Rattle.command_cases.specs.Shapes.{values_at}
use Rattle.keyspace.specs.Map.{Map}
use Rattle.set_commands.specs.Combination.{Members, found_members, found_sets}
use Rattle.set_commands.specs.SetCommand.{before_sets, members_there, sets_at}
use Rattle.texts.specs.Texts.{Bytes}
use Rattle.values.proofs.Mapped.{map-drop_turn}
use Rattle.values.specs.ListValue.{nonempty}

-- the sets so far, before these
abbrev pub after : List Members → Option (List Members) → Option (List Members)
after done sets = option_map (λ rest. done ++ rest) sets

pub after-nothing : (sets : Option (List Members)) → after [] sets ≡ sets
after-nothing None = refl
after-nothing (Some sets) = refl

one-more : (done : List Members) (members : Members) (sets : Option (List Members))
    → after (done ++ members ∷ []) sets ≡ after done (before_sets (Some members) sets)
one-more done members None = refl
one-more done members (Some sets) = ap Some (append_assoc done (members ∷ []) sets)

-- the set at the first of the keys that are left
pub found-more : (m : Map) (k : Bytes) (members : Members) (done now : List Members) (rest ks keys : List Bytes) → rest ≡ k ∷ ks
    → members_there (get m k) ≡ Some members → now ≡ done ++ members ∷ []
    → after done (sets_at (values_at m rest)) ≡ sets_at (values_at m keys)
    → after now (sets_at (values_at m ks)) ≡ sets_at (values_at m keys)
found-more m k members done now rest ks keys left is grown before =
    ap (λ n. after n (sets_at (values_at m ks))) grown
    ∙ one-more done members (sets_at (values_at m ks))
    ∙ ap (λ o. after done (before_sets o (sets_at (values_at m ks)))) (sym is)
    ∙ ap (λ l. after done (sets_at (values_at m l))) (sym left) ∙ before

-- no set at the first of the keys that are left
pub found-none : (m : Map) (k : Bytes) (done : List Members) (rest ks keys : List Bytes) → rest ≡ k ∷ ks
    → members_there (get m k) ≡ None → after done (sets_at (values_at m rest)) ≡ sets_at (values_at m keys)
    → ◌≡◌ {A = Option (List Members)} None (sets_at (values_at m keys))
found-none m k done rest ks keys left is before =
    ap (λ o. after done (before_sets o (sets_at (values_at m ks)))) (sym is)
    ∙ ap (λ l. after done (sets_at (values_at m l))) (sym left) ∙ before

-- no key is left
pub found-all : (m : Map) (done : List Members) (rest keys : List Bytes) → rest ≡ []
    → after done (sets_at (values_at m rest)) ≡ sets_at (values_at m keys) → Some done ≡ sets_at (values_at m keys)
found-all m done rest keys left before =
    ap Some (sym (append-nil done)) ∙ ap (λ l. after done (sets_at (values_at m l))) (sym left) ∙ before

-- the sets that are left begin with this turn's
pub found-turn : (sets : List (Option (Bor Members))) (i : ℕ) (set : Option (Bor Members)) → i < length sets → set ≡ get_or sets i set
    → found_sets (drop i sets) ≡ found_members (option_copied set) ∷ found_sets (drop (i + 1) sets)
found-turn sets i set within is = map-drop_turn (λ s. found_members (option_copied s)) sets i set within is

-- the sets before a place, the set there and those after it
pub found-apart : (sets before rest after : List (Option (Bor Members))) (set : Option (Bor Members)) (place : ℕ) → before ≡ take place sets
    → rest ≡ drop place sets → rest ≡ set ∷ after
    → found_sets sets ≡ found_sets before ++ found_members (option_copied set) ∷ found_sets after
found-apart sets before rest after set place front back is =
    ap found_sets
    (sym (take-append-drop place sets) ∙ ap (λ l. l ++ drop place sets) (sym front) ∙ ap (λ l. before ++ l) (sym back ∙ is))
    ∙ map-append (λ s. found_members (option_copied s)) before (set ∷ after)

pub found-nonempty : (members : Members) → found_members (nonempty members) ≡ members
found-nonempty [] = refl
found-nonempty (member ∷ members) = refl

pub ruleset found = (found-nonempty)
