use Rattle.std.proofs.Common.{arith}
use Rattle.groups.specs.BitLaws.{has-ones}
use Rattle.groups.proofs.group_set.Groups.contains.Goals as goal

pub returns : goal.returns
returns c = rw (c.number.ensures.same, ← c.self.view_is) (has-ones c.self.inside.bits c.args.group (omega arith))
