-- The row of a store: what its requests address stands in it, and shards that were taken out leave empty ones.
use Rattle.std.proofs.Common.{◌≡◌, ℕ, zero, suc, ◌<◌, ◌⊎◌, List, slice_set, is_some, [], ◌∷◌, inl, inr, refl, sym, ap, ◌∙◌, subst}
use Rattle.std.proofs.Math.ListN.{replicate}
use Rattle.std.specs.Cmp.Lexicographic.{slice_cmp}
use Rattle.std.specs.FinMap.{empty, get-empty}
use Rattle.std.specs.List.{AllByRecursion}
use Rattle.std.specs.Ordering.{nat_cmp}
use Rattle.groups.specs.GroupSet.{has}
use Rattle.keyspace.specs.Map.{Map}
use Rattle.layer_planner.specs.declared.job.Job.{Job}
use Rattle.placement.specs.Layout.{Layout}
use Rattle.tasks.proofs.Groups.{task_groups-below}
use Rattle.shard_exec.specs.Layers.{AddressTheirGroups, IsInside}
use Rattle.shards.specs.Joined.{map_of_shard, HasKeysOf, HasOwnKeys}
use Rattle.shards.specs.Rows.{emptied, emptied_each}
use Rattle.values.specs.declared.Value.{Value}

pub all_inside : (table : Layout) (n : ℕ) (jobs : List Job) → n ≡ table.shards → AddressTheirGroups table jobs
    → AllByRecursion (IsInside n) jobs
all_inside table n [] e a = tt
all_inside table n (j ∷ js) e a = (
  (λ g there. subst (λ m. g < m) (sym e) (task_groups-below table j.asked.batch g (ap (λ gs. has gs g) (sym a.0) ∙ there))),
  all_inside table n js e a.1,
)

-- ---- shards that were taken out leave empty ones

set_empty : (maps : List Map) (g n : ℕ)
    → (map_of_shard (slice_set maps g empty) n ≡ empty) ⊎ (map_of_shard (slice_set maps g empty) n ≡ map_of_shard maps n)
set_empty [] g n = inr refl
set_empty (m ∷ ms) zero zero = inl refl
set_empty (m ∷ ms) zero (suc n) = inr refl
set_empty (m ∷ ms) (suc g) zero = inr refl
set_empty (m ∷ ms) (suc g) (suc n) = set_empty ms g n

own-empty : (table : Layout) (n : ℕ) → HasKeysOf table n empty
own-empty table n q there = let none = sym there ∙ ap is_some (get-empty {X = Value} (slice_cmp nat_cmp) q) in cc

-- shards without keys have only their own
pub own_none : (table : Layout) (n : ℕ) → HasOwnKeys table (replicate n empty)
own_none table n g = subst (HasKeysOf table g) (sym (none n g)) (own-empty table g)
  where
    none : (n g : ℕ) → map_of_shard (replicate n empty) g ≡ empty
    none zero g = refl
    none (suc n) zero = refl
    none (suc n) (suc g) = none n g

own-set_empty : (table : Layout) (maps : List Map) (g : ℕ) → HasOwnKeys table maps → HasOwnKeys table (slice_set maps g empty)
own-set_empty table maps g own n = elim (set_empty maps g n) [
  | inl e ↦ subst (HasKeysOf table n) (sym e) (own-empty table n)
  | inr e ↦ subst (HasKeysOf table n) (sym e) (own n)
]

pub own-emptied : (table : Layout) (maps : List Map) (gs : List ℕ) → HasOwnKeys table maps → HasOwnKeys table (emptied empty maps gs)
own-emptied table maps [] own = own
own-emptied table maps (g ∷ gs) own = own-emptied table (slice_set maps g empty) gs (own-set_empty table maps g own)

pub own_left : (table : Layout) (maps : List Map) (sets : List (List ℕ)) → HasOwnKeys table maps
    → HasOwnKeys table (emptied_each empty maps sets)
own_left table maps [] own = own
own_left table maps (gs ∷ sets) own = own_left table (emptied empty maps gs) sets (own-emptied table maps gs own)
