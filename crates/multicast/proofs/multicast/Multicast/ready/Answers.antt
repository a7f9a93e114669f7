use Rattle.std.proofs.Common.{sym, subst}
use Rattle.delivery.specs.Queues.{queue_of}
use Rattle.delivery.specs.Ready.{IsReady}
use Rattle.skeen_core.specs.declared.packet.Delivered.{Delivered}
use Rattle.multicast.specs.Multicast.{MulticastView}
use Rattle.multicast.proofs.multicast.Multicast.ready.Goals as goal

pub returns-clause-succeeds : goal.returns-clause-succeeds
returns-clause-succeeds c =
    λ none. c.ready.ensures.succeeds
    (subst (λ (v : MulticastView). (d : Delivered) → IsReady (queue_of v.queues) d → ⊥) (sym c.self.view_is) none)
