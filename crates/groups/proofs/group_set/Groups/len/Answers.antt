use Rattle.std.proofs.Common.{sym}
use Rattle.groups.specs.BitLaws.{length-ones, IsGroupSet-ones}
use Rattle.groups.proofs.group_set.Groups.len.Goals as goal

pub returns-clause-count : goal.returns-clause-count
returns-clause-count c = rw (← c.self.view_is) (sym (length-ones c.self.inside.bits c.self.invariant))

pub returns-clause-set : goal.returns-clause-set
returns-clause-set c = rw (← c.self.view_is) (IsGroupSet-ones c.self.inside.bits)
