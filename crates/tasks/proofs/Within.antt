-- A deed on a map, and on what the map has at the keys that lie on the groups of its task: it answers the same, leaves the same there,
-- and changes nothing elsewhere.
use Rattle.std.proofs.Common.{◌≡◌, ℕ, List, true, false, cond, None, ap, ◌∙◌}
use Rattle.std.specs.FinMap.{get}
use Rattle.groups.specs.GroupSet.{has}
use Rattle.keyspace.specs.Map.{Map}
use Rattle.placement.specs.Layout.{Layout, IsTable, shard_of}
use Rattle.tasks.proofs.Groups.{has-task_groups-among, has-task_groups-whole}
use Rattle.tasks.proofs.Locality.{Test, IsWithin, within-batch}
use Rattle.tasks.specs.Tasks.{Task, Deed, task_groups, deed_effect}

-- the keys that lie on the groups of a task
abbrev pub on_groups_of : Layout → Task → Test
on_groups_of table task = λ q. has (task_groups table task) (shard_of table q)

pub within-deed : (table : Layout) (deed : Deed) → IsTable table → IsWithin (on_groups_of table deed.0) (deed_effect deed)
within-deed table deed is_table = within-batch (on_groups_of table deed.0) deed.1 deed.0 (record {
  all = λ whole q. has-task_groups-whole table deed.0 q is_table whole;
  each = λ q there. has-task_groups-among table deed.0 q is_table there;
})

module _ (table : Layout) (deed : Deed) (m u : Map) (is_table : IsTable table)
    (is : (q : List ℕ) → get u q ≡ cond (has (task_groups table deed.0) (shard_of table q)) (get m q) None) where
  as_there : (q : List ℕ) → has (task_groups table deed.0) (shard_of table q) ≡ true → get u q ≡ get m q
  as_there q there = is q ∙ ap (λ b. cond b (get m q) None) there

  pub same_reply : (deed_effect deed u).1 ≡ (deed_effect deed m).1
  same_reply = (within-deed table deed is_table).answers m u as_there

  -- at a key of these groups both leave the same
  pub same_there : (q : List ℕ) → has (task_groups table deed.0) (shard_of table q) ≡ true
      → get (deed_effect deed u).0 q ≡ get (deed_effect deed m).0 q
  same_there = (within-deed table deed is_table).leaves m u as_there

  -- and elsewhere nothing changes
  pub same_elsewhere : (q : List ℕ) → has (task_groups table deed.0) (shard_of table q) ≡ false
      → get (deed_effect deed m).0 q ≡ get m q
  same_elsewhere = (within-deed table deed is_table).others m
