-- The last stamp of each shard: that of the last request that addressed it.
use Rattle.std.specs.Prelude.{◌≡◌, ℕ, ◌<◌, Bool, true, List, [], ◌∷◌, Option, Some, None, slice_index_or, slice_set}
use Rattle.std.specs.List.{AllByRecursion}
use Rattle.groups.specs.GroupSet.{has}
use Rattle.layer_planner.specs.declared.job.Job.{Job}
use Rattle.groups.specs.Stamp.{stamp_lt}
use Rattle.groups.specs.declared.stamp.Stamp.{Stamp}
use Rattle.shard_workers.specs.declared.placed_job.JobRan.{JobRan}

-- the last stamp of a shard; none before the first
abbrev pub last_of : List (Option Stamp) → ℕ → Option Stamp
last_of lasts shard = slice_index_or lasts shard None

-- the stamp is above that one, if there is one
abbrev pub is_above : Option Stamp → Stamp → Bool
is_above None stamp = true
is_above (Some last) stamp = stamp_lt last stamp

-- the request's stamp is above the last one of each of its shards
abbrev pub IsFresh : List (Option Stamp) → Job → Type 0
IsFresh lasts job = (g : ℕ) → has job.groups g ≡ true → is_above (last_of lasts g) job.stamp ≡ true

-- So of each request of a layer, the last stamps being those before the layer. That it is also above those of the earlier
-- requests of its unit is so of every layer: stamps rise within a unit, and units share no shard.
abbrev pub AreFresh : List (Option Stamp) → List Job → Type 0
AreFresh lasts layer = AllByRecursion (IsFresh lasts) layer

-- the stamp is the last one of these shards
abbrev pub raise : List (Option Stamp) → List ℕ → Stamp → List (Option Stamp)
raise lasts [] stamp = lasts
raise lasts (g ∷ gs) stamp = raise (slice_set lasts g (Some stamp)) gs stamp

-- the stamp of each request of a layer, in its order, is the last one of its shards: in the end that of the last request
abbrev pub raised : List (Option Stamp) → List Job → List (Option Stamp)
raised lasts [] = lasts
raised lasts (j ∷ js) = raised (raise lasts j.groups j.stamp) js

-- the same, by what became of each
abbrev pub raised_by : List (Option Stamp) → List JobRan → List (Option Stamp)
raised_by lasts [] = lasts
raised_by lasts (r ∷ rs) = raised_by (raise lasts r.groups r.stamp) rs

-- the groups of each are shards of a row of so many
abbrev pub AreInRow : ℕ → List JobRan → Type 0
AreInRow shards rs = AllByRecursion (λ r. (g : ℕ) → has r.groups g ≡ true → g < shards) rs
