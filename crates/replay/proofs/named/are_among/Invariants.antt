use Rattle.std.proofs.Common.{◌≡◌, true, take}
use Rattle.std.specs.List.{list_all}
use Rattle.replay.specs.Names.{is_named}
use Rattle.replay.proofs.named.are_among.Given as goal

-- those so far are
abbrev pub invariant-loop-name : goal.invariant-loop-name
invariant-loop-name l = list_all (is_named l.others) (take l.name-index l.names) ≡ true
