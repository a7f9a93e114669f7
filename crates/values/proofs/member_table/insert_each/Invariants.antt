use Rattle.std.proofs.Common.{◌≡◌, ◌≤◌, length, reverse}
use Rattle.indexmap.specs.IndexSet.{index_set_len, spare}
use Rattle.texts.specs.Texts.{texts_of}
use Rattle.values.specs.SetValue.{members_seen, with_members}
use Rattle.values.proofs.member_table.insert_each.Given as goal

-- the members that are left, last first, give from here what all of them give from the start
abbrev pub invariant-loop-member : goal.invariant-loop-member
invariant-loop-member l = record {
  joined :
      with_members (members_seen l.there.keys) (reverse (texts_of l.members.items))
      ≡ with_members (members_seen l.fn.there.keys) (texts_of l.fn.members.items);
  room : length l.members.items ≤ spare l.there;
  bound : index_set_len l.fn.there ≤ index_set_len l.there;
}

abbrev pub decreases-loop-member : goal.decreases-loop-member
decreases-loop-member l = length l.members.items
