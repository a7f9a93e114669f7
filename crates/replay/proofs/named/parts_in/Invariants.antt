use Rattle.std.proofs.Common.{◌≡◌, ◌++◌, drop}
use Rattle.groups.specs.Skips.{parts_of}
use Rattle.replay.proofs.named.parts_in.Given as goal

-- those so far, and those that follow, are all
abbrev pub invariant-loop-name : goal.invariant-loop-name
invariant-loop-name l = l.parts.items ++ parts_of (drop l.name-index l.names) l.id ≡ parts_of l.names l.id
