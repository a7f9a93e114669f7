use Rattle.std.proofs.Common.{ℕ, ◌+◌, refl, sym, ap, ◌∙◌, subst, arith, Vec, Global}
use Rattle.std.specs.List.{insert}
use Rattle.groups.specs.Order.{In}
use Rattle.layer_planner.specs.Units.{put_by_stamp}
use Rattle.layer_planner.proofs.FirstPlaces.{AreFirsts, no_firsts, first_more, first_none}
use Rattle.layer_planner.proofs.firsts.first_places.Goals.{then-begins+in_ok-insert, else-begins}
use Rattle.layer_planner.proofs.firsts.first_places.Goals as goal

pub loop-place-init : goal.loop-place-init
loop-place-init c = subst (AreFirsts c.args.jobs.now 0 c.empty-begun.result) (sym c.in_ok-places.ensures.items)
    (no_firsts c.args.jobs.now c.empty-begun.result c.empty-begun.ensures)

pub place_among-at-requires-clause-inside : goal.place_among-at-requires-clause-inside
place_among-at-requires-clause-inside c = λ k there.
    let low = c.loop-place.invariant.inside k (subst (In k) c.as_slice.ensures.value there) in
    let end = c.loop-place-test.true in
    omega (arith, low, end)

pub loop-place-preserved : goal.loop-place-preserved
loop-place-preserved c = elim c.if-begins.branch [
  | then-begins+in_ok-insert w ↦
      first_more c.args.jobs.now c.loop-place.place
      (c.loop-place.place + 1) refl c.loop-place.begun c.begins.new.begun c.loop-place.places.items
      c.groups_at.result c.groups_at.ensures c.loop-place.invariant c.begins.ensures.begun (sym c.begins.ensures.first ∙ w.if-begins.true)
      c.if-begins.places.items
      (ap (λ (v : Vec ℕ Global). v.items) w.places-is ∙ w.in_ok-insert.ensures.items
      ∙ ap (λ l. insert l w.place_among-at.result c.loop-place.place) (sym w.as_slice.ensures.value) ∙ w.place_among-at.ensures.at
      ∙ ap (put_by_stamp c.args.jobs.now c.loop-place.place) w.as_slice.ensures.value)
  | else-begins w ↦
      subst (λ (v : Vec ℕ Global). AreFirsts c.args.jobs.now (c.loop-place.place + 1) c.begins.new.begun v.items) (sym w.places-is)
      (first_none c.args.jobs.now c.loop-place.place (c.loop-place.place + 1) refl c.loop-place.begun c.begins.new.begun
      c.loop-place.places.items
      c.groups_at.result c.groups_at.ensures c.loop-place.invariant c.begins.ensures.begun (sym c.begins.ensures.first ∙ w.if-begins.false))
]
