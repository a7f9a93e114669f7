use Rattle.std.proofs.Common.{◌≡◌, ◌+◌, ◌≤◌, length, reverse}
use Rattle.indexmap.specs.IndexMap.{index_map_len, spare}
use Rattle.texts.specs.Texts.{texts_of, pairs_of}
use Rattle.values.specs.HashValue.{pairs_seen, with_fields}
use Rattle.values.proofs.pair_table.insert_each.Given as goal

-- what is left of the turns, last first, sets from here what all of them set from the start
abbrev pub invariant-loop-field : goal.invariant-loop-field
invariant-loop-field l = record {
  set :
      with_fields (pairs_seen l.pairs.entries) (pairs_of (reverse (texts_of l.turns.items)))
      ≡ with_fields (pairs_seen l.fn.pairs.entries) (pairs_of (texts_of l.fn.turns.items));
  room : length l.turns.items ≤ spare l.pairs + spare l.pairs + 1;
  bound : index_map_len l.fn.pairs ≤ index_map_len l.pairs;
}

abbrev pub decreases-loop-field : goal.decreases-loop-field
decreases-loop-field l = length l.turns.items
