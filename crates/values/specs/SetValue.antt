-- What the calls of a set leave: a list of members that ascend byte by byte, a string before those that it begins.
use Rattle.std.specs.Prelude.{Bool, true, List, [], ◌∷◌, Option, Some, None}
use Rattle.std.specs.BTreeSet as tree
use Rattle.std.specs.Borrow.{Bor}
use Rattle.std.specs.Cmp.Lexicographic.{slice_cmp}
use Rattle.std.specs.List.{filter, list_any}
use Rattle.std.specs.List.Sorted.{IsStrictlySortedBy}
use Rattle.std.specs.Ordering.{is_lt, nat_cmp}
use Rattle.std.specs.Set.{remove_key}
use Rattle.std.specs.Str.{bytes_eq}
use Rattle.texts.specs.Texts.{Bytes}

-- each member is below those after it
abbrev pub IsAscending : List Bytes → Type 0
IsAscending members = IsStrictlySortedBy (slice_cmp nat_cmp) members

-- whether the string is a member
abbrev pub is_member : List Bytes → Bytes → Bool
is_member members member = list_any (bytes_eq member) members

-- the members with this one at its place in the order, unless it is there
abbrev pub with_member : List Bytes → Bytes → List Bytes
with_member members member = tree.insert_key (slice_cmp nat_cmp) members member

-- the members without this one
abbrev pub without_member : List Bytes → Bytes → List Bytes
without_member members member = remove_key (bytes_eq member) members

-- the members with each of these, one after another
abbrev pub with_members : List Bytes → List Bytes → List Bytes
with_members members [] = members
with_members members (member ∷ more) = with_members (with_member members member) more

-- the members without any of these
abbrev pub without_members : List Bytes → List Bytes → List Bytes
without_members members [] = members
without_members members (member ∷ more) = without_members (without_member members member) more

-- the members that these keys of a table are, in whatever order they lie there
abbrev pub members_seen : List Bytes → List Bytes
members_seen keys = with_members [] keys

-- whether the string is above this one, if there is one
abbrev pub is_above : Option (Bor Bytes) → Bytes → Bool
is_above None text = true
is_above (Some after) text = is_lt (slice_cmp nat_cmp after.now text)

-- whether the string is below this one, if there is one
abbrev pub is_below : Option (Bor Bytes) → Bytes → Bool
is_below None text = true
is_below (Some before) text = is_lt (slice_cmp nat_cmp text before.now)

-- the members above this string, or all of them where there is none
abbrev pub members_after : Option (Bor Bytes) → List Bytes → List Bytes
members_after after members = filter (is_above after) members
