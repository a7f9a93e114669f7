-- What is read of a front.
use Rattle.std.specs.Prelude.{◌≡◌, []}
use Rattle.delivery.specs.Queues.{queue_of}
use Rattle.delivery.specs.Ready.{IsReady}
use Rattle.front.specs.Fronts.{FrontView}
use Rattle.skeen_core.specs.declared.packet.Delivered.{Delivered}

-- no packet is under way, no layer is out, and no request is ready
pub record IsQuiet (f : FrontView) : Type 0 where
  pub packets : f.multicast.packets ≡ []
  pub out : f.out ≡ []
  pub none_ready : (d : Delivered) → ¬ IsReady (queue_of f.multicast.queues) d
