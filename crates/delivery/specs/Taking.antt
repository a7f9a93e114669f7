-- What becomes of the queues when requests are popped, and what holds of a layer.
use Rattle.std.specs.Prelude.{◌≡◌, ℕ, cond, List, [], ◌∷◌, drop}
use Rattle.groups.specs.GroupSet.{has}
use Rattle.groups.specs.Units.{AreUnits}
use Rattle.skeen_core.specs.declared.packet.Delivered.{Delivered}
use Rattle.delivery.specs.Ready.{QueueOf, IsReady, IsLayer, left_in}
use Rattle.delivery.specs.Queues.{IsSound}

-- each of the request's groups loses the head of its queue
abbrev pub popped : Delivered → QueueOf → QueueOf
popped d queue g = cond (has d.groups g) (drop 1 (queue g)) (queue g)

-- the requests are popped one after another
abbrev pub popped_all : List Delivered → QueueOf → QueueOf
popped_all [] queue = queue
popped_all (d ∷ ds) queue = popped_all ds (popped d queue)

-- and each is ready when its turn comes
abbrev pub Poppable : QueueOf → List Delivered → Type 0
Poppable queue [] = Unit {0}
Poppable queue (d ∷ ds) = IsReady queue d × Poppable (popped d queue) ds

-- ---- the laws

-- a layer's requests can be popped in their order
abbrev pub LayersCanBePopped : Type 0
LayersCanBePopped = (queue : QueueOf) (layer : List Delivered) → IsSound queue → IsLayer queue layer → Poppable queue layer

-- which leaves in each queue what the layer leaves
abbrev pub PoppedIsLeft : Type 0
PoppedIsLeft =
    (queue : QueueOf) (layer : List Delivered) → IsSound queue → IsLayer queue layer →
    (g : ℕ) → popped_all layer queue g ≡ left_in layer (queue g)

-- no group is in two of its units: those that address one group alone are a unit of that group, and each other one is a
-- unit by itself
abbrev pub LayersAreUnits : Type 0
LayersAreUnits =
    (queue : QueueOf) (layer : List Delivered) → IsLayer queue layer → AreUnits (λ (d : Delivered). d.groups) (λ d. d.stamp) layer
