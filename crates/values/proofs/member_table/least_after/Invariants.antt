use Rattle.std.proofs.Common.{◌≡◌, take}
use Rattle.values.specs.Items.{lent}
use Rattle.values.specs.SetValue.{members_after, members_seen}
use Rattle.values.proofs.member_table.least_after.Given as goal

-- the least of the members so far
abbrev pub invariant-loop-key : goal.invariant-loop-key
invariant-loop-key l = lent l.least ≡ take 1 (members_after l.fn.after (members_seen (take l.key-index l.keys)))
