use Rattle.std.proofs.Common.{sym, subst, get_or}
use Rattle.std.specs.List.{AllZip}
use Rattle.std.proofs.lemmas.List.{take_more}
use Rattle.shard_exec.specs.Rooms.{FitsAt, FitsAlone}
use Rattle.shard_workers.proofs.Zips.{zip_push}
use Rattle.shard_exec.proofs.Slots.{get_at}
use Rattle.shard_exec.proofs.layer_room.reserve_spans.Goals as goal

pub loop-place-preserved : goal.loop-place-preserved
loop-place-preserved c =
    let n = c.loop-place.place-index in let places = c.args.places.now in let jobs = c.args.jobs.now in let i = get_or places n 0 in
    let span = c.in_ok-reserve_alone.field-0 in let job = c.index-jobs-place.result in
    let fits : FitsAt jobs i span = λ j at. subst (λ x. FitsAlone x span)
    (get_at jobs i job j c.index-jobs-place.is at) c.in_ok-reserve_alone.ensures in
    subst (λ l. AllZip (FitsAt jobs) l c.push.new.self.items) (sym (take_more places n 0 c.loop-place-test.true))
    (subst (AllZip (FitsAt jobs) _) (sym c.in_ok-push.ensures.items) (zip_push (FitsAt jobs) _ _ i span c.loop-place.invariant fits))
