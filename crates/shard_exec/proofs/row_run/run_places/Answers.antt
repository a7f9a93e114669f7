use Rattle.std.proofs.Common.{arith, ◌≡◌, ◌+◌, ◌<◌, ◌∷◌, Some, length, drop, get_or, slice_get, slice_set, sym, ap, ◌∙◌, subst, add-one}
use Rattle.std.proofs.Common.{length-drop}
use Rattle.std.proofs.Math.Seq.{drop-cons}
use Rattle.std.proofs.lemmas.List.{length-set}
use Rattle.std.specs.List.{AllByRecursion}
use Rattle.shard_exec.specs.Dealing.{CanTake}
use Rattle.shard_exec.specs.RowRuns.{FitAt, HaveRunAt}
use Rattle.shard_exec.proofs.RowLaws.{own_row}
use Rattle.shard_exec.proofs.Slots.{still}
use Rattle.shard_workers.proofs.Zips.{zip_length}
use Rattle.shard_exec.proofs.row_run.run_places.Goals as goal

pub take_job-placed-requires : goal.take_job-placed-requires
take_job-placed-requires g c =
    (subst (CanTake c.loop-place.slots.items) (drop-cons c.args.places.now c.loop-place.place-index 0 (omega arith))
    c.loop-place.invariant.there).0

pub unreachable-requires : goal.unreachable-requires
unreachable-requires g c =
    let e = zip_length _ _ _ c.loop-place.invariant.room in let d = length-drop c.loop-place.place-index c.args.places.now in
    absurd (omega (arith, e, d, c.in_default.ensures.len, c.in_default.ensures.cases, c.loop-place-test.true))

pub run_in_row-requires-clause-room : goal.run_in_row-requires-clause-room
run_in_row-requires-clause-room g c =
    let at = c.loop-place.place-index in let places = c.args.places.now in let i = get_or places at 0 in
    let rest = drop (at + 1) places in let inv = c.loop-place.invariant in
    let next : drop at places ≡ i ∷ rest = drop-cons places at 0 c.loop-place-test.true ∙ ap (λ k. i ∷ drop k places) (sym (add-one at)) in
    (subst (λ s. FitAt c.args.slots.items (i ∷ rest) s) c.in-Some.ensures.items
    (subst (λ l. FitAt c.args.slots.items l c.loop-place.spans.rest.items) next inv.room)).0 c.take_job-placed.result.job
    (inv.among i c.take_job-placed.result.job c.take_job-placed.ensures.taken.there)

pub loop-place-preserved : goal.loop-place-preserved
loop-place-preserved g c =
    let at = c.loop-place.place-index in let places = c.args.places.now in let i = get_or places at 0 in
    let rest = drop (at + 1) places in let inv = c.loop-place.invariant in let slots = c.loop-place.slots.items in
    let row = c.loop-place.row.items in let mid = c.run_in_row.new.row.items in let rans = c.loop-place.rans.items in
    let t = c.take_job-placed.result in let r = c.run_in_row.result in let table = c.args.table.now in let skip = c.args.skip.now in
    let next : drop at places ≡ i ∷ rest = drop-cons places at 0 c.loop-place-test.true ∙ ap (λ k. i ∷ drop k places) (sym (add-one at)) in
    record {
      ran = λ given left h. inv.ran given left
          (subst (λ is. HaveRunAt table skip slots row is rans given left) (sym next) (
            t,
            r,
            mid,
            c.take_job-placed.ensures.taken,
            c.run_in_row.ensures.ran,
            subst (λ s. HaveRunAt table skip s mid rest (slice_set rans i (Some r)) given left) c.take_job-placed.ensures.left h,
          ));
      there = subst (λ s. CanTake s rest) (sym c.take_job-placed.ensures.left) (subst (CanTake slots) next inv.there).1;
      among = λ k j e. inv.among k j (still slots i k j (subst (λ s. slice_get s k ≡ Some (Some j)) c.take_job-placed.ensures.left e));
      room = (subst (λ s. FitAt c.args.slots.items (i ∷ rest) s) c.in-Some.ensures.items
          (subst (λ l. FitAt c.args.slots.items l c.loop-place.spans.rest.items) next inv.room)).1;
      inside = (subst (AllByRecursion (λ k. k < length c.args.rans.items)) next inv.inside).1;
      own = own_row table row mid t.job.groups inv.own c.run_in_row.ensures.ran.over.own c.run_in_row.ensures.ran.others;
      len = c.run_in_row.ensures.shards ∙ inv.len;
      len_rans = length-set rans i (Some r) ∙ inv.len_rans;
    }

pub run_in_row-requires-clause-groups : goal.run_in_row-requires-clause-groups
run_in_row-requires-clause-groups g c =
    let i = get_or c.args.places.now c.loop-place.place-index 0 in let job = c.take_job-placed.result.job in
    c.requires.groups i job (c.loop-place.invariant.among i job c.take_job-placed.ensures.taken.there)
