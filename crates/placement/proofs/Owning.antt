-- The shards of the slots, while the ranges are gone through.
use Rattle.std.proofs.Common.{◌≡◌, ℕ, ℤ, pos, ◌≤ℤ◌, ◌<ℤ◌, suc, ◌+◌, ◌<◌, ◌≤◌, Bool, true, false, cond, List, [], ◌∷◌, length, Option, Some}
use Rattle.std.proofs.Common.{None, IsSome, option_to_list, replicate, take, drop, get_or, map, filter, refl, sym, ap, ◌∙◌, subst, arith}
use Rattle.std.proofs.Common.{length-append}
use Rattle.std.proofs.lemmas.Int.{ints}
use Rattle.std.proofs.lemmas.List.{get_or-replicate, take-append-drop}
use Rattle.std.proofs.lemmas.List.Filters.{length-filter_more}
use Rattle.std.proofs.lemmas.List.Elements.{filter-append, recursion_from_All}
use Rattle.std.specs.List.{AllByRecursion}
use Rattle.placement.specs.declared.slots.TheConstants.{SLOTS}
use Rattle.placement.specs.Document.{Document}
use Rattle.placement.specs.Layout.{Layout, IsTable, KnowsShards, Gives, has_slot, shards_at, SomeTwice}
use Rattle.placement.specs.Owners.{owner, Owns, OwnEach}
use Rattle.placement.specs.declared.document.Range.{Range}

-- before any range no slot has a shard
pub Owns-start : Owns [] (replicate SLOTS None)
Owns-start = λ s h. ap (λ (o : Option ℕ). map pos (option_to_list o)) (sym (get_or-replicate SLOTS s None None h))

length-map : {X Y : Type 0} (f : X → Y) (xs : List X) → length (map f xs) ≡ length xs
length-map f [] = refl
length-map f (x ∷ xs) = ap suc (length-map f xs)

length-shards_at : (s : ℕ) (rs : List Range) → length (shards_at s rs) ≡ length (filter (has_slot s) rs)
length-shards_at s rs = length-map (λ r. r.shard) (filter (has_slot s) rs)

-- no more of the first ranges have a slot than of all
taken_le : (p : Range → Bool) (rs : List Range) (i : ℕ) → length (filter p (take i rs)) ≤ length (filter p rs)
taken_le p rs i =
    subst (λ xs. length (filter p (take i rs)) ≤ length (filter p xs)) (take-append-drop i rs)
    (omega (arith, ap length (filter-append p (take i rs) (drop i rs)), length-append (filter p (take i rs)) (filter p (drop i rs))))

one_more : (o : Option ℕ) → IsSome o → length (map pos (option_to_list o)) ≡ 1
one_more None h = cc
one_more (Some g) h = refl

-- a slot that has a shard and is in the next range is in two
pub SomeTwice-next : (rs : List Range) (i : ℕ) (d : Range) (owners : List (Option ℕ)) (s : ℕ) → i < length rs → Owns (take i rs) owners
    → s < SLOTS
    → has_slot s (get_or rs i d) ≡ true → IsSome (owner owners s) → SomeTwice rs
SomeTwice-next rs i d owners s next owns within has some =
    let one : length (filter (has_slot s) (take i rs)) ≡ 1 = sym (length-shards_at s (take i rs)) ∙ ap length (owns s within)
    ∙ one_more (owner owners s) some in
    let two : length (filter (has_slot s) (take (i + 1) rs)) ≡ 1 + 1 = length-filter_more (has_slot s) rs i d next ∙ rw (one, has) in
    (s, within, omega (arith, taken_le (has_slot s) rs (i + 1), length-shards_at s rs))

-- a shard that a slot's ranges name is known, where each range names a known one
shards_at-known : (P : ℤ → Type 0) (s : ℕ) (rs : List Range) (z : ℤ) (zs : List ℤ) → AllByRecursion (λ r. P r.shard) rs
    → shards_at s rs ≡ z ∷ zs → P z
shards_at-known P s [] z zs h e = cc
shards_at-known P s (r ∷ rs) z zs h e =
    elim (has_slot s r) as (λ b. map (λ x. x.shard) (cond b (r ∷ filter (has_slot s) rs) (filter (has_slot s) rs)) ≡ z ∷ zs → P z) [
      | true ↦ λ same. let first : r.shard ≡ z = cc in subst P first h.0
      | false ↦ λ same. shards_at-known P s rs z zs h.1 same
    ] e

-- where each slot has one shard, the document gives the table of these
pub Gives-from_owners : (d : Document) (n : ℕ) (owners : List (Option ℕ)) (slots : List ℕ) → KnowsShards d → d.shards ≡ pos n
    → Owns d.ranges owners → OwnEach owners slots
    → Gives d (record { shards = n; slots = slots })
Gives-from_owners d n owners slots known same owns each = record {
  known = known;
  shards = same;
  slots = λ s within. owns s within ∙ ap (λ (o : Option ℕ). map pos (option_to_list o)) (each.same s within);
}

-- what a document gives is a table
pub IsTable-from_gives : (d : Document) (t : Layout) → Gives d t → length t.slots ≡ SLOTS → IsTable t
IsTable-from_gives d t gives long =
    let named = recursion_from_All (λ r. (pos 0 ≤ℤ r.shard) × (r.shard <ℤ d.shards)) d.ranges gives.known.named in
    record {
      some_shard = let some : pos 1 ≤ℤ pos t.shards = subst (λ n. pos 1 ≤ℤ n) gives.shards gives.known.some_shard in omega (arith, ints);
      at_most_64 = let few : pos t.shards ≤ℤ pos 64 = subst (λ n. n ≤ℤ pos 64) gives.shards gives.known.at_most_64 in omega (arith, ints);
      each_slot = long;
      in_range = λ s within.
          let known = shards_at-known (λ z. (pos 0 ≤ℤ z) × (z <ℤ d.shards)) s d.ranges _ _ named (gives.slots s within) in
          let below : pos (get_or t.slots s 0) <ℤ pos t.shards = subst (λ n. pos (get_or t.slots s 0) <ℤ n) gives.shards known.1 in
          omega (arith, ints);
    }
