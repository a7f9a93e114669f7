use Rattle.std.proofs.Common.{◌≡◌, ◌+◌, ◌≤◌, ℕ, List, None, length, reverse, true, IsTrue}
use Rattle.std.specs.FinMap.{get}
use Rattle.std.specs.List.{AllByRecursion}
use Rattle.std.specs.Prelude.{vec_capacity}
use Rattle.command_cases.specs.Shapes.{with_pairs}
use Rattle.keyspace.specs.Map.{among}
use Rattle.string_commands.specs.Before.{LeadsTo}
use Rattle.texts.specs.Texts.{firsts, pairs_of, texts_of}
use Rattle.string_commands.proofs.pairs.put_all.Given as goal

-- what is left of the turns, last first, leaves from here what all pairs leave from the start, and its keys are among theirs; what was
-- put leads here
abbrev pub invariant-loop-key : goal.invariant-loop-key
invariant-loop-key g l =
    let contents = g.K.Keyspace.contents in
    let rest = pairs_of (reverse (texts_of l.turns.items)) in
    record {
      puts : with_pairs (contents l.keyspace) rest ≡ with_pairs (contents l.fn.keyspace) l.fn.pairs;
      within : (q : List ℕ) → among (firsts rest) q ≡ true → among (firsts l.fn.pairs) q ≡ true;
      absent : (q : List ℕ) → get (contents l.keyspace) q ≡ None → get (contents l.fn.keyspace) q ≡ None;
      led : LeadsTo (contents l.fn.keyspace) l.before.items (contents l.keyspace);
      covered : AllByRecursion (λ b. IsTrue (g.K.Keyspace.covered b.0.items)) l.before.items;
      room : length l.before.items + length rest ≤ vec_capacity l.before;
    }

abbrev pub decreases-loop-key : goal.decreases-loop-key
decreases-loop-key g l = length l.turns.items
