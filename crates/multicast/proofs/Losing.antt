-- A layer's requests, popped one after another.
use Rattle.std.proofs.Common.{◌≡◌, ℕ, List, ap, ◌∙◌}
use Rattle.delivery.specs.Queues.{IsSound}
use Rattle.delivery.specs.Ready.{QueueOf, IsLayer, left_in}
use Rattle.delivery.specs.Taking.{popped_all}
use Rattle.delivery.proofs.Layers.{popped_is_left}
use Rattle.skeen_core.specs.declared.packet.Delivered.{Delivered}

-- the queues once a layer is popped
pub once_popped : (was now : QueueOf) (layer : List Delivered) → IsSound was → IsLayer was layer → now ≡ popped_all layer was → (g : ℕ)
    → now g ≡ left_in layer (was g)
once_popped was now layer sound is popped g = ap (λ (q : QueueOf). q g) popped ∙ popped_is_left was layer sound is g
