use Rattle.std.proofs.Common.{◌≡◌, fold, length}
use Rattle.placement.specs.Slot.{fnv1a, fnv1a_step, opened}
use Rattle.placement.proofs.slots.hash_of_plain.Given as goal

-- what is left to be hashed, and to be searched for an opening brace
abbrev pub invariant-loop-rest : goal.invariant-loop-rest
invariant-loop-rest l = (fold fnv1a_step l.hash l.rest ≡ fnv1a l.key) × (opened l.key ≡ opened l.rest)

abbrev pub decreases-loop-rest : goal.decreases-loop-rest
decreases-loop-rest l = length l.rest

abbrev pub invariant-loop-rest-2 : goal.invariant-loop-rest-2
invariant-loop-rest-2 l = (fold fnv1a_step l.hash l.rest ≡ fnv1a l.key) × (opened l.key ≡ opened l.rest)

abbrev pub decreases-loop-rest-2 : goal.decreases-loop-rest-2
decreases-loop-rest-2 l = length l.rest
