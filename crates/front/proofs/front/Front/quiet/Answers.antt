use Rattle.std.proofs.Common.{rules, ◌≡◌, ◌↔◌, [], Bool, true, false, not, IsTrue, refl, sym, ◌∙◌, subst}
use Rattle.std.proofs.lemmas.Bool.{both_ways}
use Rattle.delivery.specs.Queues.{queue_of}
use Rattle.delivery.specs.Ready.{IsReady}
use Rattle.std.proofs.lemmas.List.{nil_from_length}
use Rattle.front.proofs.Views.{seen}
use Rattle.front.specs.Fronts.{FrontView}
use Rattle.front.specs.Looking.{IsQuiet}
use Rattle.skeen_core.specs.declared.packet.Delivered.{Delivered}
use Rattle.front.proofs.front.Front.quiet.Goals as goal

-- with no packet and no layer it is quiet just where no request is ready
quiet_by : (ready : Bool) (f : FrontView) → f.multicast.packets ≡ [] → f.out ≡ [] →
    (IsTrue ready ↔ ((d : Delivered) × IsReady (queue_of f.multicast.queues) d)) → IsTrue (not ready) ↔ IsQuiet f
quiet_by true f packets out told = (
  λ no. absurd (both_ways _ refl no),
  λ quiet. let some = told.0 refl in absurd (quiet.none_ready some.0 some.1),
)
quiet_by false f packets out told = (
  λ yes. record { packets = packets; out = out; none_ready = λ d ready. both_ways _ refl (told.1 (d, ready)) },
  λ quiet. refl,
)

pub returns : goal.returns
returns c =
    let f = seen c.self.inside in
    let out : f.out ≡ [] = nil_from_length f.out (search rules) in
    let packets : f.multicast.packets ≡ [] = nil_from_length f.multicast.packets (sym c.packets.ensures ∙ c.if-packets-ne0.false) in
    subst (λ (g : FrontView). IsTrue (not c.has_ready.result) ↔ IsQuiet g) c.self.view_is
    (quiet_by c.has_ready.result f packets out c.has_ready.ensures)
