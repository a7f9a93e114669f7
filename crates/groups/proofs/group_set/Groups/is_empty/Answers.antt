use Rattle.groups.specs.BitLaws.{none_of-zero}
use Rattle.groups.proofs.group_set.Groups.is_empty.Goals as goal

pub returns : goal.returns
returns c = rw (← c.self.view_is) (none_of-zero c.self.inside.bits c.self.invariant)
