use Rattle.std.proofs.Common.{◌≡◌, ◌+◌, ◌<◌, ◌++◌, ◌∷◌, [], sym, ap, ◌∙◌, subst, take, get_or, length, ◌≤◌, vec_capacity}
use Rattle.std.specs.List.{AllZip}
use Rattle.std.proofs.lemmas.List.{take_more}
use Rattle.layer_planner.specs.Units.{groups_each}
use Rattle.layer_planner.specs.declared.job.Job.{Job}
use Rattle.shard_exec.specs.DealtRooms.{AreInLayer, HasRoomFor, IsForGroups}
use Rattle.shard_exec.proofs.Plans.{by_at}
use Rattle.shard_exec.proofs.UnitLaws.{set_at}
use Rattle.shard_workers.proofs.Zips.{zip_push}
use Rattle.shard_exec.proofs.dealt_room.reserve_units.Goals as goal

pub loop-number-preserved : goal.loop-number-preserved
loop-number-preserved c =
    let n = c.loop-number.number in let part = c.args.part.now in let u = c.unit-unit.result.now in let jobs = c.args.jobs.now in
    let room = c.in_ok-reserve_unit.field-0 in let made = c.in_ok-reserve_unit.ensures in
    let inside : n < length part = subst (λ k. n < k) c.len-number-end.ensures c.loop-number-test.true in
    let taken : take (n + 1) part ≡ take n part ++ u ∷ [] =
    take_more part n [] inside ∙ ap (λ x. take n part ++ x ∷ []) (sym c.unit-unit.ensures) in
    let places : AreInLayer (length jobs) u =
    subst (AreInLayer (length jobs)) (sym c.unit-unit.ensures) (by_at (AreInLayer (length jobs)) part n [] c.requires inside) in
    let below : get_or u 0 0 < length jobs = by_at (λ i. i < length jobs) u 0 0 places.1 places.0 in
    let fits : HasRoomFor u room = record {
      no_jobs = made.no_jobs;
      jobs = made.jobs;
      none_run = made.none_run;
      rans = made.rans;
      no_shards = made.no_shards;
      span = subst (λ g. length g ≤ vec_capacity room.span) (sym made.groups) made.span;
    } in
    let its : IsForGroups (groups_each jobs) u room =
    made.groups ∙ ap (λ (j : Job). j.groups) (sym c.index-jobs-unit.is)
    ∙ sym (set_at jobs (get_or u 0 0) c.index-jobs-unit.result c.index-jobs-unit.is below) in
    record {
      room = subst (λ l. AllZip HasRoomFor l c.push.new.self.items) (sym taken)
          (subst (AllZip HasRoomFor _) (sym c.in_ok-push.ensures.items) (zip_push HasRoomFor _ _ u room c.loop-number.invariant.room fits));
      groups = subst (λ l. AllZip (IsForGroups (groups_each jobs)) l c.push.new.self.items) (sym taken)
          (subst (AllZip (IsForGroups (groups_each jobs)) _) (sym c.in_ok-push.ensures.items)
          (zip_push (IsForGroups (groups_each jobs)) _ _ u room c.loop-number.invariant.groups its));
    }
