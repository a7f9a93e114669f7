-- When nothing is under way.
use Rattle.std.proofs.Common.{◌≡◌, [], Bool, true, false, not, IsTrue, ◌↔◌, refl}
use Rattle.std.proofs.lemmas.Bool.{both_ways}
use Rattle.delivery.specs.Queues.{queue_of}
use Rattle.delivery.specs.Ready.{IsReady}
use Rattle.skeen_core.specs.declared.packet.Delivered.{Delivered}
use Rattle.system.specs.System.{SystemView, IsQuiet}
use Rattle.system.specs.declared.stage.Stage.TheVariants.{Free}

-- with no packet and no layer it is quiet just where no request is ready
pub quiet_by : (ready : Bool) (s : SystemView) → s.halves.front.multicast.packets ≡ [] → s.halves.stage ≡ Free →
    (IsTrue ready ↔ ((d : Delivered) × IsReady (queue_of s.halves.front.multicast.queues) d)) → IsTrue (not ready) ↔ IsQuiet s
quiet_by true s packets free told = (
  λ no. absurd (both_ways _ refl no),
  λ quiet. let some = told.0 refl in absurd (quiet.none_ready some.0 some.1),
)
quiet_by false s packets free told = (
  λ yes. record { packets = packets; layer = free; none_ready = λ d ready. both_ways _ refl (told.1 (d, ready)) },
  λ quiet. refl,
)
