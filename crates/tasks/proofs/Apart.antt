-- Deeds whose tasks share no group can change places: each looks at and changes what lies on its own groups alone.
use Rattle.std.proofs.Common.{◌≡◌, ℕ, List, true, false, refl}
use Rattle.groups.specs.GroupSet.{has}
use Rattle.keyspace.specs.Map.{Map}
use Rattle.placement.specs.Layout.{Layout, IsTable, shard_of}
use Rattle.tasks.proofs.Locality.{apart_answer, apart_leave}
use Rattle.tasks.proofs.Within.{on_groups_of, within-deed}
use Rattle.tasks.specs.Tasks.{Deed, task_groups, deed_effect}

module _ (table : Layout) (a b : Deed) (is_table : IsTable table)
    (apart : (g : ℕ) → has (task_groups table a.0) g ≡ true → has (task_groups table b.0) g ≡ true → ⊥) where
  not_there : (q : List ℕ) → on_groups_of table a.0 q ≡ true → on_groups_of table b.0 q ≡ false
  not_there q here = elim (on_groups_of table b.0 q) as (λ c. on_groups_of table b.0 q ≡ c → c ≡ false) [
    | true ↦ λ there. absurd (apart (shard_of table q) here there)
    | false ↦ λ _. refl
  ] refl

  -- the second one answers the same whether the first has run before it or not
  pub deeds_answer : (m : Map) → (deed_effect b (deed_effect a m).0).1 ≡ (deed_effect b m).1
  deeds_answer = apart_answer (on_groups_of table a.0) (on_groups_of table b.0) (deed_effect a) (deed_effect b)
      (within-deed table a is_table) (within-deed table b is_table) not_there

  -- and both leave the same map in either order
  pub deeds_leave : (m : Map) → (deed_effect b (deed_effect a m).0).0 ≡ (deed_effect a (deed_effect b m).0).0
  deeds_leave = apart_leave (on_groups_of table a.0) (on_groups_of table b.0) (deed_effect a) (deed_effect b)
      (within-deed table a is_table) (within-deed table b is_table) not_there
