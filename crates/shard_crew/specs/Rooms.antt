-- The room that threads need.
use Rattle.std.specs.Prelude.{◌≡◌, ℕ, ◌≤◌, [], vec_capacity}
use Rattle.shard_workers.specs.Loads.{HasResults}
use Rattle.shard_workers.specs.declared.workers.Room.{Room}

-- there is room for what so many loads give, and for the handles of so many threads
abbrev pub HasRoom : Room → ℕ → Type 0
HasRoom room loads = HasResults room loads × (room.children.items ≡ []) × (loads ≤ vec_capacity room.children)
