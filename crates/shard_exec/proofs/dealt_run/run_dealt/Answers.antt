use Rattle.std.proofs.Common.{◌<◌, List, None, length, map, sym, ap, ◌∙◌, subst}
use Rattle.std.proofs.Math.ListN.{replicate}
use Rattle.std.proofs.lemmas.List.{length-map, length-replicate}
use Rattle.std.specs.FinMap.{empty}
use Rattle.std.specs.List.{concat}
use Rattle.layer_planner.specs.Parts.{units_in}
use Rattle.layer_planner.specs.Units.{groups_each}
use Rattle.shards.proofs.PutBack.{parts_in_turn, taken_out_as_they_were}
use Rattle.shards.proofs.Rows.{length-emptied_each}
use Rattle.shards.specs.Joined.{HasOwnKeys}
use Rattle.shard_exec.specs.Dealing.{filled, all_works, all_rans}
use Rattle.shard_exec.specs.DealtRooms.{all_rooms}
use Rattle.shard_exec.proofs.DealtLaws.{all_ready, dealt_given, have_rooms, made_left, ready_loads, rooms_in, rooms_inside, spans_inside}
use Rattle.shard_exec.proofs.DealtLaws.{jobs_inside, zip_loads}
use Rattle.shard_exec.proofs.Slots.{at_filled, can_take, length-filled, once_in, some_there, within}
use Rattle.shard_exec.proofs.StoreRows.{own_left}
use Rattle.shard_exec.proofs.dealt_run.run_dealt.Goals as goal

pub take_loads-loads-requires-clause-there : goal.take_loads-loads-requires-clause-there
take_loads-loads-requires-clause-there g c =
    let layer = filled c.args.slots.items in let units = units_in c.args.plan.now in
    can_take c.args.slots.items (concat units) (once_in (length (groups_each layer)) units c.requires.units.once)
    (λ i there. some_there c.args.slots.items c.requires.full i
    (subst (λ n. i < n) (length-map layer (λ j. j.groups) ∙ length-filled c.args.slots.items c.requires.full)
    (within (length (groups_each layer)) units c.requires.units.once i there)))

pub take_loads-loads-requires-clause-rooms : goal.take_loads-loads-requires-clause-rooms
take_loads-loads-requires-clause-rooms g c =
    have_rooms (groups_each (filled c.args.slots.items)) c.args.plan.now c.args.dealt.rooms.items c.requires.fits.rooms

pub take_loads-loads-requires-clause-inside : goal.take_loads-loads-requires-clause-inside
take_loads-loads-requires-clause-inside g c =
    let layer = filled c.args.slots.items in
    rooms_inside c.args.table.now layer (units_in c.args.plan.now) (length c.args.row.now.items) c.requires.shards c.requires.groups
    c.requires.units (units_in c.args.plan.now) (all_rooms c.args.dealt.rooms.items) (λ u i. i)
    (rooms_in (groups_each layer) c.args.plan.now c.args.dealt.rooms.items c.requires.fits.rooms)

pub run_loads-requires-clause-ready : goal.run_loads-requires-clause-ready
run_loads-requires-clause-ready g c =
    let layer = filled c.args.slots.items in let units = units_in c.args.plan.now in
    ready_loads c.args.table.now c.take_loads-loads.result.items
    (all_ready c.args.table.now c.args.row.now.items layer units (all_rooms c.args.dealt.rooms.items)
    (all_works c.take_loads-loads.result.items) c.take_loads-loads.new.row.items c.args.slots.items c.requires.is_table c.requires.own
    c.requires.groups c.requires.units (rooms_in (groups_each layer) c.args.plan.now c.args.dealt.rooms.items c.requires.fits.rooms)
    (at_filled c.args.slots.items c.requires.full) c.take_loads-loads.ensures.made taken_out_as_they_were)

pub put_all-requires-clause-shards : goal.put_all-requires-clause-shards
put_all-requires-clause-shards g c =
    let layer = filled c.args.slots.items in let units = units_in c.args.plan.now in
    spans_inside c.args.table.now c.args.row.now.items layer units (all_rooms c.args.dealt.rooms.items)
    (all_works c.take_loads-loads.result.items) c.take_loads-loads.new.row.items c.args.slots.items c.requires.is_table c.requires.own
    c.requires.groups c.requires.units (rooms_in (groups_each layer) c.args.plan.now c.args.dealt.rooms.items c.requires.fits.rooms)
    (at_filled c.args.slots.items c.requires.full) c.take_loads-loads.ensures.made taken_out_as_they_were
    c.args.skip.now (all_rans c.in-Ok.results.items) (zip_loads c.args.table.now c.args.skip.now c.take_loads-loads.result.items
    c.in-Ok.results.items c.in-Ok.ensures.each)
    (length c.take_loads-loads.new.row.items)
    (ap (λ (l : List _). length l) (made_left c.args.slots.items c.args.row.now.items units
    (all_rooms c.args.dealt.rooms.items) (all_works c.take_loads-loads.result.items) c.take_loads-loads.new.row.items
    c.take_loads-loads.ensures.made)
    ∙ length-emptied_each empty c.args.row.now.items (map (λ m. m.groups) (all_rooms c.args.dealt.rooms.items)) ∙ c.requires.shards)

pub put_all-requires-clause-places : goal.put_all-requires-clause-places
put_all-requires-clause-places g c =
    let layer = filled c.args.slots.items in let units = units_in c.args.plan.now in
    jobs_inside c.args.table.now c.args.row.now.items layer units (all_rooms c.args.dealt.rooms.items)
    (all_works c.take_loads-loads.result.items) c.take_loads-loads.new.row.items c.args.slots.items c.requires.is_table c.requires.own
    c.requires.groups c.requires.units (rooms_in (groups_each layer) c.args.plan.now c.args.dealt.rooms.items c.requires.fits.rooms)
    (at_filled c.args.slots.items c.requires.full) c.take_loads-loads.ensures.made taken_out_as_they_were
    c.args.skip.now (all_rans c.in-Ok.results.items) (zip_loads c.args.table.now c.args.skip.now c.take_loads-loads.result.items
    c.in-Ok.results.items c.in-Ok.ensures.each)
    (length c.args.rans.items)
    (ap (λ (l : List _). length l) c.requires.none ∙ length-replicate _ _ ∙ sym (length-filled c.args.slots.items c.requires.full))

pub returns-clause-given : goal.returns-clause-given
returns-clause-given g c =
    let layer = filled c.args.slots.items in let units = units_in c.args.plan.now in
    dealt_given c.args.table.now c.args.row.now.items layer units (all_rooms c.args.dealt.rooms.items)
    (all_works c.take_loads-loads.result.items) c.take_loads-loads.new.row.items c.args.slots.items c.requires.is_table c.requires.own
    c.requires.groups c.requires.units (rooms_in (groups_each layer) c.args.plan.now c.args.dealt.rooms.items c.requires.fits.rooms)
    (at_filled c.args.slots.items c.requires.full) c.take_loads-loads.ensures.made taken_out_as_they_were
    c.args.skip.now (all_rans c.in-Ok.results.items) (zip_loads c.args.table.now c.args.skip.now c.take_loads-loads.result.items
    c.in-Ok.results.items c.in-Ok.ensures.each)
    parts_in_turn c.requires.shards c.args.rans.items c.put_all.result.items c.put_all.new.row.items
    (c.requires.none ∙ ap (λ n. replicate n None) (sym (length-filled c.args.slots.items c.requires.full)))
    c.put_all.ensures.placed c.put_all.ensures.row

pub returns-in-Err-clause-shards : goal.returns-in-Err-clause-shards
returns-in-Err-clause-shards g c =
    ap (λ (l : List _). length l) (made_left c.args.slots.items c.args.row.now.items (units_in c.args.plan.now)
    (all_rooms c.args.dealt.rooms.items) (all_works c.take_loads-loads.result.items) c.take_loads-loads.new.row.items
    c.take_loads-loads.ensures.made)
    ∙ length-emptied_each empty c.args.row.now.items (map (λ m. m.groups) (all_rooms c.args.dealt.rooms.items))

pub returns-in-Err-clause-own : goal.returns-in-Err-clause-own
returns-in-Err-clause-own g c =
    subst (HasOwnKeys c.args.table.now) (sym (made_left c.args.slots.items c.args.row.now.items (units_in c.args.plan.now)
    (all_rooms c.args.dealt.rooms.items) (all_works c.take_loads-loads.result.items) c.take_loads-loads.new.row.items
    c.take_loads-loads.ensures.made))
    (own_left c.args.table.now c.args.row.now.items (map (λ m. m.groups) (all_rooms c.args.dealt.rooms.items)) c.requires.own)

pub returns-clause-shards : goal.returns-clause-shards
returns-clause-shards g c =
    c.put_all.ensures.len
    ∙ ap (λ (l : List _). length l) (made_left c.args.slots.items c.args.row.now.items (units_in c.args.plan.now)
    (all_rooms c.args.dealt.rooms.items) (all_works c.take_loads-loads.result.items) c.take_loads-loads.new.row.items
    c.take_loads-loads.ensures.made)
    ∙ length-emptied_each empty c.args.row.now.items (map (λ m. m.groups) (all_rooms c.args.dealt.rooms.items))

pub returns-clause-own : goal.returns-clause-own
returns-clause-own g c =
    let layer = filled c.args.slots.items in let units = units_in c.args.plan.now in
    (dealt_given c.args.table.now c.args.row.now.items layer units (all_rooms c.args.dealt.rooms.items)
    (all_works c.take_loads-loads.result.items) c.take_loads-loads.new.row.items c.args.slots.items c.requires.is_table c.requires.own
    c.requires.groups c.requires.units (rooms_in (groups_each layer) c.args.plan.now c.args.dealt.rooms.items c.requires.fits.rooms)
    (at_filled c.args.slots.items c.requires.full) c.take_loads-loads.ensures.made taken_out_as_they_were
    c.args.skip.now (all_rans c.in-Ok.results.items) (zip_loads c.args.table.now c.args.skip.now c.take_loads-loads.result.items
    c.in-Ok.results.items c.in-Ok.ensures.each)
    parts_in_turn c.requires.shards c.args.rans.items c.put_all.result.items c.put_all.new.row.items
    (c.requires.none ∙ ap (λ n. replicate n None) (sym (length-filled c.args.slots.items c.requires.full)))
    c.put_all.ensures.placed c.put_all.ensures.row).done.own
