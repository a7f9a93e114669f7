use Rattle.std.proofs.Common.{map, suc, drop}
use Rattle.resp.specs.Content.{content, contents}
use Rattle.replay.specs.Running.{AreToldBy}
use Rattle.replay.proofs.running.are_told_by.Given as goal

-- if it is told of the places from here on, it is of all
abbrev pub invariant-loop-place : goal.invariant-loop-place
invariant-loop-place l =
    AreToldBy l.skip (suc l.place) (contents (map content (drop l.place l.replies))) →
    AreToldBy l.skip 1 (contents (map content l.replies))
