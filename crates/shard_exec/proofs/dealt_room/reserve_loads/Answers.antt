use Rattle.std.proofs.Common.{◌++◌, ◌∷◌, [], sym, ap, ◌∙◌, subst, take}
use Rattle.std.specs.List.{AllZip}
use Rattle.std.proofs.lemmas.List.{take_more}
use Rattle.layer_planner.specs.Units.{groups_each}
use Rattle.shard_exec.specs.DealtRooms.{FitsLoad}
use Rattle.shard_workers.proofs.Zips.{zip_push}
use Rattle.shard_exec.proofs.dealt_room.reserve_loads.Goals as goal

pub loop-part-preserved : goal.loop-part-preserved
loop-part-preserved c =
    let part = c.part-item.result in let fits = FitsLoad (groups_each c.args.jobs.now) in
    let taken = take_more c.args.plan.now c.loop-part.part-index part c.loop-part-test.true
    ∙ ap (λ j. take c.loop-part.part-index c.args.plan.now ++ j ∷ []) (sym c.part-item.is) in
    subst (λ l. AllZip fits l c.push.new.self.items) (sym taken)
    (subst (AllZip fits _) (sym c.in_ok-push.ensures.items)
    (zip_push fits _ _ part c.in_ok-reserve_load.field-0 c.loop-part.invariant c.in_ok-reserve_load.ensures))
