use Rattle.std.proofs.Common.{◌<◌, None, length, sym, ap, ◌∙◌, subst}
use Rattle.std.proofs.Math.ListN.{replicate}
use Rattle.std.proofs.lemmas.List.{length-map, length-replicate}
use Rattle.std.specs.List.{AllByRecursion, concat}
use Rattle.layer_planner.specs.Units.{groups_each}
use Rattle.shards.proofs.PutBack.{works_in_turn}
use Rattle.shard_exec.specs.Dealing.{CanTake, filled}
use Rattle.shard_exec.specs.RowRuns.{FitAt, HaveRunAt}
use Rattle.shard_exec.specs.Rooms.{FitsRuns, FitsAt}
use Rattle.shard_exec.proofs.Plans.{places_below}
use Rattle.shard_exec.proofs.RowLaws.{row_given}
use Rattle.shard_exec.proofs.Slots.{at_filled, can_take, length-filled, once_in, some_there, within}
use Rattle.shard_exec.proofs.UnitLaws.{address_at, zip_map}
use Rattle.shard_exec.proofs.layer_run.run_units.Goals as goal

pub run_places-requires-clause-there : goal.run_places-requires-clause-there
run_places-requires-clause-there g c =
    let layer = filled c.args.slots.items in let fits = subst (FitsRuns layer) c.in-InRow.is c.requires.fits in
    subst (CanTake c.args.slots.items) (sym c.places.ensures)
    (can_take c.args.slots.items (concat c.in-InRow.part) (once_in (length (groups_each layer)) c.in-InRow.part fits.0.once)
    (λ i there. some_there c.args.slots.items c.requires.full i
    (subst (λ n. i < n) (length-map layer (λ j. j.groups) ∙ length-filled c.args.slots.items c.requires.full)
    (within (length (groups_each layer)) c.in-InRow.part fits.0.once i there))))

pub run_places-requires-clause-groups : goal.run_places-requires-clause-groups
run_places-requires-clause-groups g c place j e =
    address_at c.args.table.now (filled c.args.slots.items) c.requires.groups place j
    (at_filled c.args.slots.items c.requires.full place j e)

pub run_places-requires-clause-room : goal.run_places-requires-clause-room
run_places-requires-clause-room g c =
    let layer = filled c.args.slots.items in let fits = subst (FitsRuns layer) c.in-InRow.is c.requires.fits in
    subst (λ is. FitAt c.args.slots.items is c.in-InRow.spans.items) (sym c.places.ensures)
    (zip_map (FitsAt layer) _ (λ i span f j e. f j (at_filled c.args.slots.items c.requires.full i j e)) (concat c.in-InRow.part)
    c.in-InRow.spans.items fits.1)

pub run_places-requires-clause-inside : goal.run_places-requires-clause-inside
run_places-requires-clause-inside g c =
    let layer = filled c.args.slots.items in let fits = subst (FitsRuns layer) c.in-InRow.is c.requires.fits in
    subst (AllByRecursion (λ i. i < length c.args.rans.items)) (sym c.places.ensures)
    (places_below layer c.in-InRow.part fits.0 (length c.args.rans.items)
    (ap (λ (l : _). length l) c.requires.none ∙ length-replicate _ _ ∙ sym (length-filled c.args.slots.items c.requires.full)))

pub returns-in-InRow-clause-given : goal.returns-in-InRow-clause-given
returns-in-InRow-clause-given g c =
    let layer = filled c.args.slots.items in let fits = subst (FitsRuns layer) c.in-InRow.is c.requires.fits in
    row_given c.args.table.now c.args.row.now.items c.args.skip.now layer c.requires.is_table c.requires.own c.requires.groups
    works_in_turn c.in-InRow.part c.args.slots.items c.args.rans.items c.run_places.result.items c.run_places.new.row.items fits.0
    (at_filled c.args.slots.items c.requires.full)
    (c.requires.none ∙ ap (λ n. replicate n None) (sym (length-filled c.args.slots.items c.requires.full)))
    (subst (λ is. HaveRunAt c.args.table.now c.args.skip.now c.args.slots.items c.args.row.now.items is c.args.rans.items
    c.run_places.result.items c.run_places.new.row.items) c.places.ensures c.run_places.ensures.ran)

pub returns-in-InRow-clause-own : goal.returns-in-InRow-clause-own
returns-in-InRow-clause-own g c =
    let layer = filled c.args.slots.items in let fits = subst (FitsRuns layer) c.in-InRow.is c.requires.fits in
    (row_given c.args.table.now c.args.row.now.items c.args.skip.now layer c.requires.is_table c.requires.own c.requires.groups
    works_in_turn c.in-InRow.part c.args.slots.items c.args.rans.items c.run_places.result.items c.run_places.new.row.items fits.0
    (at_filled c.args.slots.items c.requires.full)
    (c.requires.none ∙ ap (λ n. replicate n None) (sym (length-filled c.args.slots.items c.requires.full)))
    (subst (λ is. HaveRunAt c.args.table.now c.args.skip.now c.args.slots.items c.args.row.now.items is c.args.rans.items
    c.run_places.result.items c.run_places.new.row.items) c.places.ensures c.run_places.ensures.ran)).done.own
