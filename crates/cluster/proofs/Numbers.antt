-- The number of the layer that is out, and lists of which both begin one.
use Rattle.std.proofs.Common.{◌≡◌, ◌≢◌, List, [], ◌++◌, length, refl, sym, ap, ◌∙◌, subst, append-nil, append_assoc, arith, length-append}
use mathlib.Core.List.{IsPrefix}
use Rattle.std.proofs.lemmas.List.{length-map, nil_from_length}
use Rattle.front.specs.Fronts.{IsOut, HasNotRun}
use Rattle.order_laws.proofs.Layers.{layers_are_in_turn, settles_counted}
use Rattle.order_laws.proofs.Lists.{shorter_begins}
use Rattle.order_laws.proofs.TakeLaws.{out_is_of_last_take}
use Rattle.order_laws.proofs.Yielding.{same_yield}
use Rattle.order_laws.specs.Layers.{run_by, not_settled, settles}
use Rattle.order_laws.specs.Takes.{HandsOut}
use Rattle.order_laws.specs.Truth.{ran_as}
use Rattle.cluster.specs.Histories.{HistoryView, IsTrueIn}
use Rattle.serial_store.specs.Serial.{layer_of}
use Rattle.skeen_core.specs.declared.packet.Delivered.{Delivered}
use Rattle.world.specs.Steps.{opening}
use Rattle.world.specs.World.{World, Layer, NoneTaken, Taken, HasRun}

-- what is out, where no layer has run that isn't settled, was taken
pub is_taken : (l : Layer) (out : List Delivered) → HasNotRun l → IsOut l out → out ≢ [] → l ≡ Taken out
is_taken NoneTaken out not_run is some = absurd (some is)
is_taken (Taken ds) out not_run is some = ap Taken (sym is.0)
is_taken (HasRun es) out not_run is some = absurd not_run

none_unsettled : (l : Layer) → HasNotRun l → not_settled l ≡ []
none_unsettled (HasRun es) not_run = absurd not_run
none_unsettled l not_run = refl

module _ (h : HistoryView) (w : World) (is : IsTrueIn h w) where
  -- as many layers were settled as the steps settle
  pub number_is : h.front.layers ≡ settles h.steps
  number_is =
      let t = h.front.table in
      let turns = layers_are_in_turn t h.steps w is.at.leads in
      let same : is.ran.ended ≡ turns.settled = (same_yield run_by t opening w w h.steps is.ran.ended turns.ran is.ran.runs turns.runs).0
      ∙ turns.of_runs ∙ ap (λ l. turns.settled ++ l) (none_unsettled w.layer is.not_run) ∙ append-nil turns.settled in
      is.layers ∙ sym (length-map h.ran (layer_of t)) ∙ ap length is.ran.each ∙ length-map is.ran.ended ran_as ∙ ap length same
      ∙ settles_counted t opening w h.steps turns.settled turns.settles

  -- what is out is what the Take of that number handed out
  pub out_is_handed : h.front.out ≢ [] → HandsOut h.front.table h.steps h.front.layers h.front.out
  out_is_handed some = subst (λ n. HandsOut h.front.table h.steps n h.front.out) (sym number_is)
      (out_is_of_last_take h.front.table h.steps w is.at.leads h.front.out (is_taken w.layer h.front.out is.not_run is.at.shows.out some))

-- of two lists that begin one, of one length, both are the same
pub same_begin : {A : Type 0} (xs ys zs : List A) → IsPrefix xs zs → IsPrefix ys zs → length xs ≡ length ys → xs ≡ ys
same_begin xs ys zs p q len =
    let begins = shorter_begins xs ys zs p q (omega (arith, len)) in
    let none = nil_from_length begins.0 (omega (arith, len, ap length begins.1, length-append xs begins.0)) in
    sym (append-nil xs) ∙ ap (λ l. xs ++ l) (sym none) ∙ begins.1

-- what begins a beginning begins the list
pub begins_more : {A : Type 0} (xs ys zs : List A) → IsPrefix (xs ++ ys) zs → IsPrefix xs zs
begins_more xs ys zs p = (ys ++ p.0, sym (append_assoc xs ys p.0) ∙ p.1)
