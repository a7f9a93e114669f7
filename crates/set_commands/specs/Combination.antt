-- Intersection, union and difference of sets, each set the ascending list of its members, and what it means to be a
-- member of one.
use Rattle.std.specs.Prelude.{◌≡◌, Bool, not, ◌&&◌, List, [], ◌∷◌, Option, Some, None, map}
use Rattle.std.specs.Borrow.{Bor}
use Rattle.std.specs.List.{filter, flat_map, list_all, list_any}
use Rattle.std.specs.Option.{option_copied}
use Rattle.set_commands.specs.declared.combine.Combination.{Combination}
use Rattle.set_commands.specs.declared.combine.Combination.TheVariants.{Intersection, Union, Difference}
use Rattle.texts.specs.Texts.{Bytes}
use Rattle.values.specs.SetValue.{is_member, with_members}

-- the members of a set
abbrev pub Members : Type 0
Members = List Bytes

-- the members of a set that may be missing
abbrev pub found_members : Option Members → Members
found_members None = []
found_members (Some members) = members

-- the members of sets that may be missing
abbrev pub found_sets : List (Option (Bor Members)) → List Members
found_sets sets = map (λ set. found_members (option_copied set)) sets

-- it is a member of each of these sets
abbrev pub is_in_each : List Members → Bytes → Bool
is_in_each sets member = list_all (λ members. is_member members member) sets

-- it is a member of one of these sets
abbrev pub is_in_some : List Members → Bytes → Bool
is_in_some sets member = list_any (λ members. is_member members member) sets

-- it is a member of each set before another and of each after it
abbrev pub is_in_all : List Members → List Members → Bytes → Bool
is_in_all before after member = is_in_each before member && is_in_each after member

-- the members of the first set that are in each of the others
abbrev pub intersection : List Members → Members
intersection [] = []
intersection (first ∷ others) = filter (is_in_each others) first

-- the members of all sets, each at its place in the order
abbrev pub union : List Members → Members
union sets = with_members [] (flat_map (λ members. members) sets)

-- the members of the first set that are in none of the others
abbrev pub difference : List Members → Members
difference [] = []
difference (first ∷ others) = filter (λ member. not (is_in_some others member)) first

abbrev pub combined : Combination → List Members → Members
combined Intersection sets = intersection sets
combined Union sets = union sets
combined Difference sets = difference sets

-- what it is to be a member of an intersection, a union, a difference
abbrev pub IntersectionMembers : Type 0
IntersectionMembers = (first : Members) (others : List Members) (member : Bytes)
    → is_member (intersection (first ∷ others)) member ≡ (is_member first member && is_in_each others member)

abbrev pub UnionMembers : Type 0
UnionMembers = (sets : List Members) (member : Bytes) → is_member (union sets) member ≡ is_in_some sets member

abbrev pub DifferenceMembers : Type 0
DifferenceMembers = (first : Members) (others : List Members) (member : Bytes)
    → is_member (difference (first ∷ others)) member ≡ (is_member first member && not (is_in_some others member))
