use Rattle.std.proofs.Common.{◌≡◌, ◌+◌, ◌≤◌, length, map, take}
use Rattle.values.proofs.member_table.borrowed.Given as goal

-- the members so far are lent, and there is room for the rest
abbrev pub invariant-loop-member : goal.invariant-loop-member
invariant-loop-member l = record {
  lent : map (λ member. member.now) l.members.items ≡ take l.member-index l.member-items;
  room : l.members.len + length l.member-items ≤ l.members.cap + l.member-index;
}
