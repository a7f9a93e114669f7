use Rattle.back.proofs.Fitting.{fits_ended, count_ended}
use Rattle.back.proofs.running.run_over.Goals as goal

pub tell_all-requires-clause-room : goal.tell_all-requires-clause-room
tell_all-requires-clause-room g c =
    fits_ended c.jobs.result.now c.in-Ok.layer c.in-Ok-run_layer.ended.items c.reserve.new.self c.jobs.ensures.jobs
    c.in-Ok-run_layer.ensures.done.done.told c.in-Ok-reserve.ensures.fits

pub tell_all-requires-clause-rows : goal.tell_all-requires-clause-rows
tell_all-requires-clause-rows g c =
    count_ended c.jobs.result.now c.in-Ok.layer c.in-Ok-run_layer.ended.items c.reserve.new.rows.room c.jobs.ensures.jobs
    c.in-Ok-run_layer.ensures.done.done.told c.in-Ok-reserve.ensures.room
