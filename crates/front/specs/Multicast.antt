-- What the groups, their packets and their queues show of a world.
use Rattle.std.specs.Prelude.{◌≡◌, ℕ, length}
use Rattle.delivery.specs.Queues.{queue_of}
use Rattle.multicast.specs.Multicast.{MulticastView, group_of}
use Rattle.placement.specs.Layout.{Layout}
use Rattle.world.specs.World.{World}

pub record ShowsMulticast (t : Layout) (v : MulticastView) (w : World) : Type 0 where
  pub count : length v.groups ≡ t.shards
  pub groups : (g : ℕ) → group_of v.groups g ≡ w.group g
  pub packets : v.packets ≡ w.packets
  pub queues : (g : ℕ) → queue_of v.queues g ≡ w.queue g
