use Rattle.std.proofs.Common.{length, IsTrue}
use Rattle.std.specs.List.{AllByRecursion}
use Rattle.keyspace.specs.Map.{Map}
use Rattle.string_commands.specs.Before.{LeadsTo}
use Rattle.string_commands.proofs.pairs.put_back.Given as goal

-- what is left leads here from each map from which all leads to the start, and there is one
abbrev pub invariant-loop-key : goal.invariant-loop-key
invariant-loop-key g l =
    let contents = g.K.Keyspace.contents in
    record {
      led : (m : Map) × LeadsTo m l.before.items (contents l.keyspace);
      still : (m : Map) → LeadsTo m l.fn.before.items (contents l.fn.keyspace) → LeadsTo m l.before.items (contents l.keyspace);
      covered : AllByRecursion (λ b. IsTrue (g.K.Keyspace.covered b.0.items)) l.before.items;
    }

abbrev pub decreases-loop-key : goal.decreases-loop-key
decreases-loop-key g l = length l.before.items
