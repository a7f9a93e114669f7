-- Which groups a task addresses: the shards of its keys, or all of them.
use Rattle.std.proofs.Common.{◌≡◌, ℕ, ◌<◌, ◌||◌, ◌&&◌, ◌==◌, nat_lt, Bool, true, false, List, slice_index_or, Contains, refl, sym, ap, ◌∙◌, subst}
use Rattle.std.proofs.Common.{lt-ltb, ltb-true, eq-eqb}
use Rattle.std.proofs.lemmas.Bool.{and_parts}
use Rattle.std.proofs.lemmas.List.Folds.{Any-from_list_any, list_any_at}
use Rattle.std.specs.Str.{bytes_eq}
use Rattle.command_table.specs.declared.command.Command.{Command}
use Rattle.groups.specs.GroupSet.{has, IsAscending}
use Rattle.groups.specs.GroupSetLaws.{has-chosen, IsAscending-chosen}
use Rattle.keyspace.proofs.Gets.{same_bytes}
use Rattle.keyspace.specs.Map.{among}
use Rattle.placement.proofs.Addressed.{shard_of-below}
use Rattle.placement.specs.Groups.{has_key_on, groups_of}
use Rattle.placement.specs.Layout.{Layout, IsTable, shard_of}
use Rattle.sessions.specs.declared.batch.Batch.TheVariants.{Plain}
use Rattle.tasks.specs.Tasks.{Task, task_keys, task_whole, task_groups}

pub has-task_groups : (table : Layout) (task : Task) (g : ℕ)
    → has (task_groups table task) g ≡ (nat_lt g table.shards && (task_whole task || has_key_on table g (task_keys task)))
has-task_groups table task g = has-chosen (λ s. task_whole task || has_key_on table s (task_keys task)) table.shards g

-- a command outside a list addresses its command's groups
pub task_groups-plain : (table : Layout) (command : Command) → task_groups table (Plain command) ≡ groups_of table command
task_groups-plain table command = refl

or_right : (a b : Bool) → b ≡ true → (a || b) ≡ true
or_right true b h = refl
or_right false b h = h

-- each key of a task lies on one of its groups
pub has-task_groups-key : (table : Layout) (task : Task) (q : List ℕ) → IsTable table → Contains (task_keys task) q
    → has (task_groups table task) (shard_of table q) ≡ true
has-task_groups-key table task q is_table at =
    has-task_groups table task (shard_of table q)
    ∙ ap (λ b. b && (task_whole task || has_key_on table (shard_of table q) (task_keys task)))
    (lt-ltb _ _ (shard_of-below table q is_table))
    ∙ or_right (task_whole task) _
    (list_any_at (λ k. shard_of table k == shard_of table q) (task_keys task) at.0 q at.1 (eq-eqb _ _ (ap (shard_of table) at.2)))

-- so does one that is found among them
pub has-task_groups-among : (table : Layout) (task : Task) (q : List ℕ) → IsTable table → among (task_keys task) q ≡ true
    → has (task_groups table task) (shard_of table q) ≡ true
has-task_groups-among table task q is_table h =
    let found = Any-from_list_any (bytes_eq q) (task_keys task) h in
    let is : q ≡ found.1 = same_bytes q found.1 found.4 in
    has-task_groups-key table task q is_table
    (found.0, found.2, subst (λ k. slice_index_or (task_keys task) found.0 k ≡ k) (sym is) found.3)

-- and every key lies on a group of one that is for all keys
pub has-task_groups-whole : (table : Layout) (task : Task) (q : List ℕ) → IsTable table → task_whole task ≡ true
    → has (task_groups table task) (shard_of table q) ≡ true
has-task_groups-whole table task q is_table whole =
    has-task_groups table task (shard_of table q)
    ∙ ap (λ b. b && (task_whole task || has_key_on table (shard_of table q) (task_keys task)))
    (lt-ltb _ _ (shard_of-below table q is_table))
    ∙ ap (λ b. b || has_key_on table (shard_of table q) (task_keys task)) whole

-- which addresses each group of any other
pub whole_has : (table : Layout) (whole other : Task) (g : ℕ) → task_whole whole ≡ true → has (task_groups table other) g ≡ true
    → has (task_groups table whole) g ≡ true
whole_has table whole other g is there =
    has-task_groups table whole g
    ∙ ap (λ b. nat_lt g table.shards && (b || has_key_on table g (task_keys whole))) is
    ∙ ap (λ b. b && true) (and_parts (nat_lt g table.shards) _ (sym (has-task_groups table other g) ∙ there)).0

pub IsAscending-task_groups : (table : Layout) (task : Task) → IsAscending (task_groups table task)
IsAscending-task_groups table task = IsAscending-chosen (λ s. task_whole task || has_key_on table s (task_keys task)) 0 table.shards

pub task_groups-below : (table : Layout) (task : Task) (g : ℕ) → has (task_groups table task) g ≡ true → g < table.shards
task_groups-below table task g there =
    ltb-true g table.shards (and_parts (nat_lt g table.shards) _ (sym (has-task_groups table task g) ∙ there)).0
