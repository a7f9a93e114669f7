use Rattle.std.proofs.Common.{◌<◌, sym, subst}
use Rattle.std.proofs.lemmas.List.{length-map}
use Rattle.layer_planner.specs.declared.job.Job.{Job}
use Rattle.layer_planner.specs.Units.{groups_each}
use Rattle.std.proofs.Common.{slice_index_or}
use Rattle.layer_planner.proofs.Chains.{along_first, along_next}
use Rattle.layer_planner.proofs.planning.push_unit.Goals as goal

pub loop-place-init : goal.loop-place-init
loop-place-init c = along_first (groups_each c.args.jobs.now) c.args.first c.args.places.now.items
    (subst (λ n. c.args.first < n) (sym (length-map c.args.jobs.now (λ (j : Job). j.groups))) c.requires.inside) c.requires.first

pub loop-place-preserved : goal.loop-place-preserved
loop-place-preserved c =
    let inside = subst (λ n. c.loop-place.place < n) (sym (length-map c.args.jobs.now (λ (j : Job). j.groups))) c.loop-place-test.true in
    along_next (groups_each c.args.jobs.now) c.args.first c.loop-place.place (slice_index_or c.args.nexts.now c.loop-place.place 0)
    c.args.places.now.items c.loop-place.places.items c.push.new.self.items c.loop-place.invariant inside
    (c.requires.nexts.each c.loop-place.place inside) c.in_ok-push.ensures.items
