use Rattle.std.proofs.Common.{◌≡◌, ◌≤◌, drop}
use Rattle.indexmap.specs.IndexSet.{index_set_len}
use Rattle.texts.specs.Texts.{texts_of}
use Rattle.values.specs.SetValue.{members_seen, without_members}
use Rattle.values.proofs.member_table.remove_each.Given as goal

-- what the members that are left take away, from here, is what all of them take away from the start
abbrev pub invariant-loop-member : goal.invariant-loop-member
invariant-loop-member l = record {
  left :
      without_members (members_seen l.there.keys) (texts_of (drop l.member-index l.members))
      ≡ without_members (members_seen l.fn.there.keys) (texts_of l.fn.members);
  bound : index_set_len l.there ≤ index_set_len l.fn.there;
}
