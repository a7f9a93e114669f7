-- When a layer can be taken.
use Rattle.std.proofs.Common.{◌≡◌, ◌≢◌, ◌↔◌, [], ◌∷◌, List, Bool, false, IsTrue, refl, sym, subst}
use Rattle.std.proofs.lemmas.Bool.{both_ways}
use Rattle.delivery.specs.Queues.{queue_of}
use Rattle.delivery.specs.Ready.{IsReady}
use Rattle.front.specs.Fronts.{FrontView}
use Rattle.cluster.specs.Histories.{HistoryView}
use Rattle.shared_cluster.specs.Turning.{MayTake}
use Rattle.skeen_core.specs.declared.packet.Delivered.{Delivered}

none_out : (ds : List Delivered) (out : Bool) → (IsTrue out ↔ (ds ≢ [])) → out ≡ false → ds ≡ []
none_out [] out told clear = refl
none_out (d ∷ ds) out told clear = absurd (both_ways out clear (told.1 (λ same. cc)))

-- none is out, so one may be taken where a request is ready
pub takes_ready : (h : HistoryView) (f : FrontView) (out ready : Bool) → f ≡ h.front → (IsTrue out ↔ (f.out ≢ [])) → out ≡ false
    → (IsTrue ready ↔ ((d : Delivered) × IsReady (queue_of f.multicast.queues) d)) → IsTrue ready ↔ MayTake h
takes_ready h f out ready is told clear some = (
  λ yes. let found = some.0 yes in
      record {
        out = subst (λ (x : FrontView). x.out ≡ []) is (none_out f.out out told clear);
        request = found.0;
        ready = subst (λ (x : FrontView). IsReady (queue_of x.multicast.queues) found.0) is found.1;
      },
  λ may. some.1 (may.request, subst (λ (x : FrontView). IsReady (queue_of x.multicast.queues) may.request) (sym is) may.ready),
)
