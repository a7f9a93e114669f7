-- Turns: steps that bring packets.
use Rattle.std.specs.Prelude.{◌≡◌, ◌≢◌, ℕ, ◌+◌, ◌≤◌, [], length}
use Rattle.cluster.specs.Histories.{HistoryView, IsMade, MayGoOn, kept_for}
use Rattle.cluster.specs.declared.fault.StepFault.{StepFault}
use Rattle.cluster.specs.declared.fault.StepFault.TheVariants as fault
use Rattle.journal.specs.declared.step.Step.TheVariants.{Deliver}
use Rattle.world.specs.Steps.{Made}

-- the packet that is picked came to its group
pub record Delivers (pick : ℕ → ℕ) (old new : HistoryView) : Type 0 where
  pub place : ℕ
  pub made : IsMade old (Deliver place) Made new
  pub picked : place ≡ pick (length old.front.multicast.packets)

-- Why no turn was made. Want of memory is told only where a packet is under way.
abbrev pub IsTurnFault : HistoryView → StepFault → Type 0
IsTurnFault h fault.Exhausted = h.max_steps ≤ length h.steps + kept_for h.front.out
IsTurnFault h fault.Memory = MayGoOn h (Deliver 0) × (h.front.multicast.packets ≢ [])
IsTurnFault h fault.Busy = ⊥
IsTurnFault h fault.NoConn = ⊥
IsTurnFault h fault.NoPacket = ⊥
IsTurnFault h fault.InFlight = ⊥
IsTurnFault h fault.NoLayer = ⊥
