-- What is read of a system, wherever it lies in its halves.
use Rattle.std.specs.Prelude.{ℕ, Bool, List, Option}
use Rattle.delivery.specs.Queues.{queue_of}
use Rattle.delivery.specs.Ready.{QueueOf}
use Rattle.groups.specs.declared.skip_id.SkipId.{SkipId}
use Rattle.journal.specs.Views.{RowView}
use Rattle.keyspace.specs.Map.{Map}
use Rattle.placement.specs.Layout.{Layout}
use Rattle.layer_planner.specs.declared.job.Job.{Job}
use Rattle.multicast.specs.Multicast.{group_of}
use Rattle.router.specs.Router as router
use Rattle.router.specs.declared.connection.Connection.{Connection}
use Rattle.router.specs.declared.outcome.Outcome.{Outcome}
use Rattle.shards.specs.Joined.{joined}
use Rattle.skeen_core.specs.declared.packet.Packet.{Packet}
use Rattle.system.specs.Halves as halves
use Rattle.system.specs.System.{SystemView}
use Rattle.system.specs.declared.stage.Progress.{Progress}

-- where keys lie
abbrev pub table_of : SystemView → Layout
table_of s = s.halves.back.store.table

-- whether a worker's start was refused
abbrev pub failed : SystemView → Bool
failed s = s.halves.back.store.failed

-- the map of each shard
abbrev pub maps_of : SystemView → List Map
maps_of s = s.halves.back.store.maps

-- what the shards hold together
abbrev pub contents_of : SystemView → Map
contents_of s = joined (maps_of s)

-- what was executed, in the order of execution
abbrev pub rows_of : SystemView → List RowView
rows_of s = s.halves.back.rows

-- the names of what starved, in the order of turns
abbrev pub starved_of : SystemView → List SkipId
starved_of s = s.halves.starved.items

-- the packets under way, oldest first
abbrev pub packets_of : SystemView → List Packet
packets_of s = s.halves.front.multicast.packets

-- what a group has delivered and no layer has taken
abbrev pub queues_of : SystemView → QueueOf
queues_of s = queue_of s.halves.front.multicast.queues

-- how far the layer is that is under way
abbrev pub progress_of : SystemView → Progress
progress_of s = halves.progress_of s.halves.stage

-- the connection of a number, if it is kept
abbrev pub connection_of : SystemView → ℕ → Option Connection
connection_of s = router.connection s.halves.front.router

-- the outcome that waits for a connection
abbrev pub waiting_for : SystemView → ℕ → Option Outcome
waiting_for s = router.waiting s.halves.front.router

-- the clock of a group
abbrev pub clock_of : SystemView → ℕ → ℕ
clock_of s g = (group_of s.halves.front.multicast.groups g).clock

-- the requests that are to be run
abbrev pub layer_of : SystemView → List Job
layer_of s = halves.layer_of s.halves.stage
