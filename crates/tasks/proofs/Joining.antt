-- The groups of members together are those of the first ones and those of the last.
use Rattle.std.proofs.Common.{◌≡◌, ℕ, ◌+◌, ◌<◌, ◌||◌, ◌&&◌, ◌==◌, Bool, true, false, List, [], ◌∷◌, ◌++◌, nat_lt, length, take, slice_index_or}
use Rattle.std.proofs.Common.{refl, sym, ap, ◌∙◌}
use Rattle.std.proofs.lemmas.List.{take_more}
use Rattle.std.proofs.lemmas.List.Concat.{flat_map-append}
use Rattle.std.proofs.lemmas.List.Folds.{list_any-append}
use Rattle.std.specs.List.{flat_map, list_any}
use Rattle.tasks.specs.Keys.{member_keys, member_whole}
use Rattle.groups.specs.GroupSet.{has, IsAscending}
use Rattle.groups.specs.GroupSetLaws.{has-chosen, IsAscending-chosen, same_sets}
use Rattle.placement.specs.Groups.{has_key_on}
use Rattle.placement.specs.Layout.{Layout, shard_of}
use Rattle.sessions.specs.declared.member.Member.{Member}
use Rattle.tasks.specs.Addressing.{groups_told}

pub has-groups_told : (t : Layout) (whole : Bool) (keys : List (List ℕ)) (g : ℕ)
    → has (groups_told t whole keys) g ≡ (nat_lt g t.shards && (whole || has_key_on t g keys))
has-groups_told t whole keys g = has-chosen (λ s. whole || has_key_on t s keys) t.shards g

pub IsAscending-groups_told : (t : Layout) (whole : Bool) (keys : List (List ℕ)) → IsAscending (groups_told t whole keys)
IsAscending-groups_told t whole keys = IsAscending-chosen (λ s. whole || has_key_on t s keys) 0 t.shards

or_between : (k v j : Bool) → (k || (v || j)) ≡ (v || (k || j))
or_between true true j = refl
or_between true false j = refl
or_between false v j = refl

or_swapped : (w v k j : Bool) → ((w || v) || (k || j)) ≡ ((w || k) || (v || j))
or_swapped true v k j = refl
or_swapped false v k j = sym (or_between k v j)

both_told : (l w v k j : Bool) → (l && ((w || v) || (k || j))) ≡ ((l && (w || k)) || (l && (v || j)))
both_told true w v k j = or_swapped w v k j
both_told false w v k j = refl

or_false : (b : Bool) → (b || false) ≡ b
or_false true = refl
or_false false = refl

-- two sets that are told are the set that is told of both
pub told-both : (t : Layout) (w v : Bool) (ks js : List (List ℕ)) (g : ℕ)
    → has (groups_told t (w || v) (ks ++ js)) g ≡ (has (groups_told t w ks) g || has (groups_told t v js) g)
told-both t w v ks js g =
    has-groups_told t (w || v) (ks ++ js) g
    ∙ ap (λ b. nat_lt g t.shards && ((w || v) || b)) (list_any-append (λ key. shard_of t key == g) ks js)
    ∙ both_told (nat_lt g t.shards) w v (has_key_on t g ks) (has_key_on t g js)
    ∙ ap (λ b. b || (nat_lt g t.shards && (v || has_key_on t g js))) (sym (has-groups_told t w ks g))
    ∙ ap (λ b. has (groups_told t w ks) g || b) (sym (has-groups_told t v js g))

append_none : {A : Type 0} (xs : List A) → xs ++ [] ≡ xs
append_none [] = refl
append_none (x ∷ xs) = ap (λ l. x ∷ l) (append_none xs)

-- what members address, and one more
abbrev pub of_members : Layout → List Member → List ℕ
of_members t members = groups_told t (list_any member_whole members) (flat_map member_keys members)

pub of_members-push : (t : Layout) (members : List Member) (member : Member)
    → of_members t (members ++ member ∷ [])
    ≡ groups_told t (list_any member_whole members || member_whole member) (flat_map member_keys members ++ member_keys member)
of_members-push t members member =
    ap (λ b. groups_told t b (flat_map member_keys (members ++ member ∷ [])))
    (list_any-append member_whole members (member ∷ []) ∙ ap (λ b. list_any member_whole members || b) (or_false (member_whole member)))
    ∙ ap (groups_told t (list_any member_whole members || member_whole member))
    (flat_map-append member_keys members (member ∷ [])
    ∙ ap (λ l. flat_map member_keys members ++ l) (append_none (member_keys member)))

-- a set that has the groups of the first members and those of the last has those of all
pub joined-push : (t : Layout) (members : List Member) (member : Member) (gs : List ℕ) → IsAscending gs
    → ((g : ℕ) → has gs g ≡ (has (of_members t members) g || has (groups_told t (member_whole member) (member_keys member)) g))
    → gs ≡ of_members t (members ++ member ∷ [])
joined-push t members member gs up is =
    same_sets gs (of_members t (members ++ member ∷ [])) up (IsAscending-groups_told t _ _) (λ g.
    is g
    ∙ sym (told-both t (list_any member_whole members) (member_whole member) (flat_map member_keys members) (member_keys member) g)
    ∙ ap (λ hs. has hs g) (sym (of_members-push t members member)))

-- with what the first ones address, as a set takes them in one after another
pub taken-one : (g : ℕ) (has_all : Bool) (first : ℕ) (rest : List ℕ)
    → ((first == g || has_all) || has rest g) ≡ (has_all || has (first ∷ rest) g)
taken-one g has_all first rest = or_turned (first == g) has_all (has rest g)
  where
    or_turned : (a b c : Bool) → ((a || b) || c) ≡ (b || (a || c))
    or_turned true true c = refl
    or_turned true false c = refl
    or_turned false b c = refl

pub or-nothing : (b : Bool) → (b || false) ≡ b
or-nothing = or_false

pub take_one : {A : Type 0} (xs : List A) (i : ℕ) (x : A) → i < length xs → x ≡ slice_index_or xs i x → take (i + 1) xs ≡ take i xs ++ x ∷ []
take_one xs i x within here = take_more xs i x within ∙ ap (λ y. take i xs ++ y ∷ []) (sym here)
