use Rattle.std.proofs.Common.{◌≡◌, take}
use Rattle.back.specs.Rooms.{words_of}
use Rattle.back.proofs.room.copy_words.Given as goal

-- the requests looked at so far have their copies
abbrev pub invariant-loop-job : goal.invariant-loop-job
invariant-loop-job l = l.words.items ≡ words_of (take l.job-index l.jobs)
