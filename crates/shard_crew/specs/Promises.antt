-- What the thread of a load promises.
use Rattle.std.specs.Prelude.{◌≡◌, List}
use Rattle.groups.specs.declared.skip_id.SkipId.{SkipId}
use Rattle.placement.specs.Layout.{Layout}
use Rattle.shard_workers.specs.declared.child.RunOfLoad.{RunOfLoad}
use Rattle.shard_workers.specs.declared.load.Load.{Load}

-- that it runs this load, with the keys placed by this table, but for what these name
abbrev pub IsToRun : Layout → List SkipId → Load → RunOfLoad → Type 0
IsToRun table skip load promise =
    (promise.load.value ≡ load) × (promise.table.value ≡ table) × (promise.skip.value.now ≡ skip)
