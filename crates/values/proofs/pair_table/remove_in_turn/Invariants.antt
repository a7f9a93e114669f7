use Rattle.std.proofs.Common.{◌≡◌, ◌≤◌, drop}
use Rattle.indexmap.specs.IndexMap.{index_map_len}
use Rattle.texts.specs.Texts.{texts_of}
use Rattle.values.specs.HashValue.{pairs_seen, without_fields}
use Rattle.values.proofs.pair_table.remove_in_turn.Given as goal

-- what the fields that are left take away, from here, is what all of them take away from the start
abbrev pub invariant-loop-field : goal.invariant-loop-field
invariant-loop-field l = record {
  left :
      without_fields (pairs_seen l.pairs.entries) (texts_of (drop l.field-index l.fields))
      ≡ without_fields (pairs_seen l.fn.pairs.entries) (texts_of l.fn.fields);
  bound : index_map_len l.pairs ≤ index_map_len l.fn.pairs;
}
