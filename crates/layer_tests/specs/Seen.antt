-- What has been delivered, group by group, and what may be delivered next.
use Rattle.std.specs.Prelude.{◌≡◌, ℕ, true, List}
use Rattle.groups.specs.Order.{In}
use Rattle.groups.specs.Stamp.{stamp_lt}
use Rattle.skeen_core.specs.declared.packet.Delivered.{Delivered}
use Rattle.delivery.specs.Queues.{queue_of}

-- what stands in a queue was delivered there
abbrev pub AreSeen : List (ℕ × Delivered) → List (List Delivered) → Type 0
AreSeen seen queues = (g : ℕ) (d : Delivered) → In d (queue_of queues g) → In (g, d) seen

-- the group g may deliver d behind what was delivered here
pub record GoesWith (at : ℕ × Delivered) (g : ℕ) (d : Delivered) : Type 0 where
  pub above : at.0 ≡ g → stamp_lt at.1.stamp d.stamp ≡ true
  pub same : at.1.id ≡ d.id → (at.1.stamp ≡ d.stamp) × (at.1.groups ≡ d.groups)
  pub single : at.1.stamp ≡ d.stamp → at.1.id ≡ d.id

abbrev pub GoesWithAll : List (ℕ × Delivered) → ℕ → Delivered → Type 0
GoesWithAll seen g d = (at : ℕ × Delivered) → In at seen → GoesWith at g d
