use Rattle.std.proofs.Common.{◌≡◌, ◌+◌, ◌≤◌, ◌++◌, length}
use Rattle.std.specs.Vec.{vec_capacity}
use Rattle.skeen_core.specs.Pending.{front, behind, forgotten}
use Rattle.skeen_core.proofs.pending.pop_settled.Given as goal

-- what is taken out so far, and what is still to be taken out, is all of the settled front
abbrev pub invariant-loop-pending : goal.invariant-loop-pending
invariant-loop-pending l = record {
  delivered : l.delivered.items ++ front l.pending.entries ≡ l.fn.delivered.items ++ front l.fn.pending.entries;
  pending : behind l.pending.entries ≡ behind l.fn.pending.entries;
  proposals : forgotten (front l.pending.entries) l.proposals ≡ forgotten (front l.fn.pending.entries) l.fn.proposals;
  room : length l.delivered.items + length (front l.pending.entries) ≤ vec_capacity l.delivered;
}

abbrev pub decreases-loop-pending : goal.decreases-loop-pending
decreases-loop-pending l = length l.pending.entries
