-- What comes of a packet that comes to its group, in the worlds of a run: its receipt, and what the group delivers then.
use Rattle.std.specs.Prelude.{ℕ, nat_lt, Bool, List, [], ◌∷◌, length, map, drop, slice_get, Option, Some, None}
use Rattle.groups.specs.declared.request.RequestId.{RequestId}
use Rattle.groups.specs.declared.stamp.Stamp.{Stamp}
use Rattle.journal.specs.declared.step.Step.{Step}
use Rattle.journal.specs.declared.step.Step.TheVariants.{Deliver}
use Rattle.picture.specs.Run.{Flight, flight_in, flight_of}
use Rattle.picture_shapes.specs.declared.facts.DeliveryFacts.{DeliveryFacts}
use Rattle.picture_shapes.specs.declared.facts.ReceiptFacts.{ReceiptFacts}
use Rattle.skeen_core.specs.declared.packet.Delivered.{Delivered}
use Rattle.skeen_core.specs.declared.packet.Packet.{Packet}
use Rattle.world.specs.World.{World}

-- ---- receipts

-- the step, the packet, its group's clock behind the step, and whether that rose
pub record Receipt : Type 0 where
  pub step : ℕ
  pub flight : Flight
  pub clock : ℕ
  pub rose : Bool

abbrev pub receipt_in : ReceiptFacts → Receipt
receipt_in r = record { step = r.step; flight = flight_in r.packet; clock = r.clock; rose = r.rose }

abbrev pub received_from : ℕ → World → Option Packet → World → List Receipt
received_from n old None new = []
received_from n old (Some p) new = record {
  step = n;
  flight = flight_of p;
  clock = (new.group p.to).clock;
  rose = nat_lt (old.group p.to).clock (new.group p.to).clock;
} ∷ []

-- a Deliver is the receipt of the packet at its place
abbrev pub received_by : ℕ → World → Step → World → List Receipt
received_by n old (Deliver k) new = received_from n old (slice_get old.packets k) new
received_by n old step new = []

-- ---- deliveries

-- the step, the group, and the request that it delivers then, with its final stamp
pub record Delivery : Type 0 where
  pub step : ℕ
  pub group : ℕ
  pub id : RequestId
  pub stamp : Stamp

abbrev pub delivery_in : DeliveryFacts → Delivery
delivery_in d = record { step = d.step; group = d.group; id = d.asked.id; stamp = d.stamp }

abbrev pub delivery_of : ℕ → ℕ → Delivered → Delivery
delivery_of n g d = record { step = n; group = g; id = d.id; stamp = d.stamp }

-- what stands behind what the packet's group had delivered
abbrev pub delivered_from : ℕ → World → Option Packet → World → List Delivery
delivered_from n old None new = []
delivered_from n old (Some p) new = map (delivery_of n p.to) (drop (length (old.queue p.to)) (new.queue p.to))

abbrev pub delivered_by : ℕ → World → Step → World → List Delivery
delivered_by n old (Deliver k) new = delivered_from n old (slice_get old.packets k) new
delivered_by n old step new = []
