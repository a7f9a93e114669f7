-- The groups that a command addresses, one key after another, and which stand in the set.
use Rattle.std.proofs.Common.{◌≡◌, ℕ, zero, suc, ◌+◌, ◌<◌, ◌≤◌, ◌==◌, ◌||◌, ◌&&◌, Bool, true, false, List, [], length, take, Some}
use Rattle.std.proofs.Common.{slice_get, Any, Contains, nat_lt, refl, sym, ap, ◌∙◌, subst, arith, eq-eqb, eqb-true, lt-ltb}
use Rattle.std.proofs.lemmas.List.Folds.{list_any_more, list_any_at, Any-from_list_any}
use Rattle.std.proofs.lemmas.List.{take_all}
use Rattle.std.proofs.lemmas.Option.{get_or_from_slice_get}
use Rattle.std.proofs.lemmas.Bool.{and_parts}
use Rattle.command_table.specs.Command.{keys_of, is_whole}
use Rattle.command_table.specs.declared.command.Command.{Command}
use Rattle.groups.specs.GroupSet.{has, with_group, chosen}
use Rattle.groups.specs.GroupSetLaws.{has-chosen, with-chosen, chosen_same}
use Rattle.placement.specs.Groups.{has_key_on, groups_of}
use Rattle.placement.specs.Layout.{Layout, IsTable, shard_of}
use Rattle.placement.specs.Slot.{slot}

-- no number passes a test that none passes
pub chosen-none : (a m : ℕ) → chosen (λ _. false) a m ≡ []
unfolding chosen
chosen-none a zero = refl
chosen-none a (suc m) = chosen-none (suc a) m

or_swap : (a b : Bool) → (a || b) ≡ (b || a)
or_swap true true = refl
or_swap true false = refl
or_swap false true = refl
or_swap false false = refl

-- the groups of the first keys, and that of one key more
pub with-key : (table : Layout) (keys : List (List ℕ)) (i : ℕ) (key : List ℕ) (g : ℕ) → i < length keys → slice_get keys i ≡ Some key
    → g ≡ shard_of table key → g < table.shards
    → with_group (chosen (λ s. has_key_on table s (take i keys)) 0 table.shards) g
    ≡ chosen (λ s. has_key_on table s (take (i + 1) keys)) 0 table.shards
with-key table keys i key g within here same below =
    with-chosen (λ s. has_key_on table s (take i keys)) table.shards g below
    ∙ chosen_same _ _ table.shards (λ s less.
    or_swap (g == s) (has_key_on table s (take i keys))
    ∙ ap (λ n. has_key_on table s (take i keys) || (n == s)) (same ∙ ap (shard_of table) (sym (get_or_from_slice_get keys i key [] here)))
    ∙ sym (list_any_more (λ k. shard_of table k == s) keys i [] within))

-- once all keys are gone through, the groups are those of the command
pub groups_of-keys : (table : Layout) (command : Command) (i : ℕ) (gs : List ℕ) → is_whole command ≡ false → length (keys_of command) ≤ i
    → gs ≡ chosen (λ s. has_key_on table s (take i (keys_of command))) 0 table.shards → gs ≡ groups_of table command
groups_of-keys table command i gs part all same =
    same ∙ ap (λ keys. chosen (λ s. has_key_on table s keys) 0 table.shards) (take_all i (keys_of command) all)
    ∙ ap (λ b. chosen (λ s. b || has_key_on table s (keys_of command)) 0 table.shards) (sym part)

-- a key lies on one of the shards
pub shard_of-below : (table : Layout) (key : List ℕ) → IsTable table → shard_of table key < table.shards
shard_of-below table key is_table = is_table.in_range (slot key) (omega arith)

or_right : (a b : Bool) → b ≡ true → (a || b) ≡ true
or_right true b h = refl
or_right false b h = h

-- the shard of each key of a command is among its groups
pub has-groups_of-key : (table : Layout) (command : Command) (key : List ℕ) → IsTable table → Contains (keys_of command) key
    → has (groups_of table command) (shard_of table key) ≡ true
has-groups_of-key table command key is_table at =
    has-chosen (λ s. is_whole command || has_key_on table s (keys_of command)) table.shards (shard_of table key)
    ∙ ap (λ b. b && (is_whole command || has_key_on table (shard_of table key) (keys_of command)))
    (lt-ltb _ _ (shard_of-below table key is_table))
    ∙ or_right (is_whole command) _
    (list_any_at (λ k. shard_of table k == shard_of table key) (keys_of command) at.0 key at.1 (eq-eqb _ _ (ap (shard_of table) at.2)))

-- a group of a command that isn't whole is the shard of one of its keys
pub Any-groups_of : (table : Layout) (command : Command) (group : ℕ) → is_whole command ≡ false → has (groups_of table command) group ≡ true
    → Any (λ key. shard_of table key ≡ group) (keys_of command)
Any-groups_of table command group part has =
    let there = and_parts (nat_lt group table.shards) _
    (sym (has-chosen (λ s. is_whole command || has_key_on table s (keys_of command)) table.shards group) ∙ has) in
    let some : has_key_on table group (keys_of command) ≡ true =
    subst (λ b. (b || has_key_on table group (keys_of command)) ≡ true) part there.1 in
    let found = Any-from_list_any (λ k. shard_of table k == group) (keys_of command) some in
    (found.0, found.1, found.2, found.3, eqb-true _ _ found.4)

-- a whole command addresses all shards
pub groups_of-whole : (table : Layout) (command : Command) → is_whole command ≡ true
    → chosen (λ _. true) 0 table.shards ≡ groups_of table command
groups_of-whole table command whole = ap (λ b. chosen (λ s. b || has_key_on table s (keys_of command)) 0 table.shards) (sym whole)
