use Rattle.std.proofs.Common.{◌≡◌, List, ℕ, true, length, reverse, IsSome, IsTrue}
use Rattle.std.specs.FinMap.{get}
use Rattle.command_cases.specs.Shapes.{with_pairs}
use Rattle.keyspace.specs.Map.{among}
use Rattle.texts.specs.Texts.{firsts, pairs_of, texts_of}
use Rattle.string_commands.proofs.pairs.replace_each.Given as goal

-- what is left of the turns, last first, leaves from here what all pairs leave from the start; each of its keys is
-- there
abbrev pub invariant-loop-key : goal.invariant-loop-key
invariant-loop-key g l =
    let contents = g.K.Keyspace.contents in
    let rest = pairs_of (reverse (texts_of l.turns.items)) in
    record {
      puts : with_pairs (contents l.keyspace) rest ≡ with_pairs (contents l.fn.keyspace) l.fn.pairs;
      covered : (q : List ℕ) → among (firsts rest) q ≡ true → IsTrue (g.K.Keyspace.covered q);
      there : (q : List ℕ) → among (firsts rest) q ≡ true → IsSome (get (contents l.keyspace) q);
    }

abbrev pub decreases-loop-key : goal.decreases-loop-key
decreases-loop-key g l = length l.turns.items
