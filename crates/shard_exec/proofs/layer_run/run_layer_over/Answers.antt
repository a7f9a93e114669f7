use Rattle.std.proofs.Common.{arith, length, map, sym, ap, ◌∙◌, subst}
use Rattle.std.specs.List.{AllZip, AllByRecursion}
use Rattle.std.specs.Option.{IsSome}
use Rattle.shard_exec.specs.Dealing.{filled}
use Rattle.shard_exec.specs.Layers.{AddressTheirGroups, HasItsGroups, IsDone, ended_of}
use Rattle.shard_exec.specs.Rooms.{FitsRuns}
use Rattle.shard_exec.proofs.Slots.{filled-some, full-some}
use Rattle.shard_exec.proofs.UnitLaws.{groups_in_row, raised_same}
use Rattle.shard_exec.proofs.layer_run.run_layer_over.Goals as goal

pub run_units-requires-clause-full : goal.run_units-requires-clause-full
run_units-requires-clause-full g c = subst (AllByRecursion IsSome) (sym c.in_slots-slots.ensures) (full-some c.args.jobs.items)

pub run_units-requires-clause-groups : goal.run_units-requires-clause-groups
run_units-requires-clause-groups g c =
    subst (AddressTheirGroups c.args.table.now) (sym (ap filled c.in_slots-slots.ensures ∙ filled-some c.args.jobs.items)) c.requires.groups

pub run_units-requires-clause-fits : goal.run_units-requires-clause-fits
run_units-requires-clause-fits g c =
    subst (λ js. FitsRuns js c.args.room.runs) (sym (ap filled c.in_slots-slots.ensures
    ∙ filled-some c.args.jobs.items)) c.requires.fits.runs

pub tell_all-requires-clause-inside : goal.tell_all-requires-clause-inside
tell_all-requires-clause-inside g c =
    groups_in_row c.args.table.now (length c.args.lasts.now.items) c.args.jobs.items (filled c.in-Ok.rans.items) c.requires.lasts
    c.requires.groups
    (subst (λ js. AllZip HasItsGroups js (filled c.in-Ok.rans.items)) (ap filled c.in_slots-slots.ensures ∙ filled-some c.args.jobs.items)
    c.in-Ok.ensures.given.groups)

pub tell_all-requires-clause-room : goal.tell_all-requires-clause-room
tell_all-requires-clause-room g c =
    let n = c.in-Ok.ensures.given.as_many in
    let m = ap (λ (l : _). length l) (ap filled c.in_slots-slots.ensures ∙ filled-some c.args.jobs.items) in
    let r = c.requires.fits.done in omega (arith, n, m, r)

pub returns-clause-done : goal.returns-clause-done
returns-clause-done g c =
    subst (λ e. IsDone c.args.table.now c.args.row.now.items c.args.skip.now c.args.jobs.items e c.run_units.new.row.items)
    (sym c.tell_all.ensures.done)
    (subst (λ js. IsDone c.args.table.now c.args.row.now.items c.args.skip.now js (map ended_of (filled c.in-Ok.rans.items))
    c.run_units.new.row.items)
    (ap filled c.in_slots-slots.ensures ∙ filled-some c.args.jobs.items) c.in-Ok.ensures.given.done)

pub returns-clause-lasts : goal.returns-clause-lasts
returns-clause-lasts g c =
    c.tell_all.ensures.lasts
    ∙ raised_same c.args.jobs.items (filled c.in-Ok.rans.items) c.args.lasts.now.items
    (subst (λ js. AllZip HasItsGroups js (filled c.in-Ok.rans.items)) (ap filled c.in_slots-slots.ensures ∙ filled-some c.args.jobs.items)
    c.in-Ok.ensures.given.groups)
