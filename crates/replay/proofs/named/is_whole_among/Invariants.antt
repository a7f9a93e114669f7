use Rattle.std.proofs.Common.{◌≡◌, drop}
use Rattle.groups.specs.Skips.{names_whole}
use Rattle.replay.proofs.named.is_whole_among.Given as goal

-- none of those so far is
abbrev pub invariant-loop-name : goal.invariant-loop-name
invariant-loop-name l = names_whole l.names l.id ≡ names_whole (drop l.name-index l.names) l.id
