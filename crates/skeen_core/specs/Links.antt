-- The packets under way.
use Rattle.std.specs.Prelude.{ℕ, List}
use Rattle.skeen_core.specs.declared.packet.Packet.{Packet}

-- the packets in order of sending, and how many more fit without memory
pub record UnderWay : Type 0 where
  pub packets : List Packet
  pub room : ℕ
