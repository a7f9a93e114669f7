use Rattle.std.proofs.Common.{◌≡◌, ◌++◌, map, take}
use Rattle.picture.specs.Layers.{reply_in}
use Rattle.picture.specs.Notes.{ids_in, replies_noted}
use Rattle.picture.proofs.layers.put_replies.Given as goal

abbrev pub invariant-loop-job : goal.invariant-loop-job
invariant-loop-job l =
    map reply_in l.replies.items
    ≡ map reply_in l.fn.replies.items ++ replies_noted l.step l.system (ids_in (take l.job-index l.jobs))
