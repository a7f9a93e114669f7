-- Why no packet is brought.
use Rattle.std.proofs.Common.{◌≢◌, ℕ, ◌<◌, List, [], length, subst, arith}
use Rattle.cluster.proofs.Worlds.{same_world}
use Rattle.cluster.specs.Histories.{HistoryView, IsLawful, IsFault}
use Rattle.cluster.specs.Turns.{IsTurnFault}
use Rattle.cluster.specs.declared.fault.StepFault.{StepFault}
use Rattle.cluster.specs.declared.fault.StepFault.TheVariants as fault
use Rattle.journal.specs.declared.step.Step.TheVariants.{Deliver}
use Rattle.skeen_core.specs.declared.packet.Packet.{Packet}
use Rattle.front.specs.Multicast.{ShowsMulticast}

some_there : (packets : List Packet) (place : ℕ) → place < length packets → packets ≢ []
some_there packets place there none = let k = subst (λ ps. place < length ps) none there in omega arith

-- of the packet at a place that is there
pub turn_fault : (h : HistoryView) (place : ℕ) (f : StepFault) → IsLawful h → place < length h.front.multicast.packets →
    IsFault h (Deliver place) f → IsTurnFault h f
turn_fault h place fault.NoPacket lawful there why =
    let none = why.1.refused in
    let same = same_world h.front.table h.steps lawful.world why.1.world lawful.leads why.1.leads in
    let shown = subst (λ w. ShowsMulticast h.front.table h.front.multicast w) same lawful.multicast in
    let some = subst (λ ps. place < length ps) shown.packets there in
    omega arith
turn_fault h place fault.Exhausted lawful there why = why
turn_fault h place fault.Memory lawful there why = (why.0, some_there h.front.multicast.packets place there)
turn_fault h place f lawful there why = why.1.refused
