use Rattle.std.proofs.Common.{◌≡◌, ◌+◌, ◌≤◌, ◌++◌, reverse}
use Rattle.values.proofs.list_value.push_head.Given as goal

-- what is still to be pushed, last first, before what stands there
abbrev pub invariant-loop-item : goal.invariant-loop-item
invariant-loop-item l = record {
  there : l.items.items ++ l.texts.items ≡ reverse l.fn.items.items ++ l.fn.texts.items;
  room : l.texts.len + l.items.len ≤ l.texts.cap;
}

abbrev pub decreases-loop-item : goal.decreases-loop-item
decreases-loop-item l = l.items.len
