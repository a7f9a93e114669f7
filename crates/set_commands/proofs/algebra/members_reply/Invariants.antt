use Rattle.std.proofs.Common.{◌≡◌, Some, map, take}
use Rattle.set_commands.specs.Lent.{lent_texts}
use Rattle.set_commands.proofs.algebra.members_reply.Given as goal

-- the members so far are copied
abbrev pub invariant-loop-member : goal.invariant-loop-member
invariant-loop-member l = l.texts ≡ map Some (lent_texts (take l.member-index l.combined))
