-- Loads of a layer, and the room for what they give.
use Rattle.std.specs.Prelude.{◌≡◌, ℕ, ◌≤◌, List, [], vec_capacity}
use Rattle.std.specs.Global.{Vec}
use Rattle.std.specs.List.{AllZip, AllByRecursion}
use Rattle.groups.specs.declared.skip_id.SkipId.{SkipId}
use Rattle.placement.specs.Layout.{Layout}
use Rattle.shard_workers.specs.declared.load.Load.{Load}
use Rattle.shard_workers.specs.declared.work.Ran.{Ran}
use Rattle.shard_workers.specs.declared.workers.Room.{Room}
use Rattle.shard_workers.specs.Runs.{IsReady, HasRun}

abbrev pub IsReadyLoad : Layout → Load → Type 0
IsReadyLoad table load = AllByRecursion (IsReady table) load.works.items

-- each unit of the load was run, and these are what they gave, in their order
abbrev pub HasRunLoad : Layout → List SkipId → Load → Vec Ran → Type 0
HasRunLoad table skip load rans = AllZip (HasRun table skip) load.works.items rans.items

-- there is room for what so many loads give
abbrev pub HasResults : Room → ℕ → Type 0
HasResults room loads = (room.results.items ≡ []) × (loads ≤ vec_capacity room.results)
