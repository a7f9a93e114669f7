use Rattle.std.proofs.Common.{arith}
use Rattle.groups.specs.BitLaws.{ones_of-set, set_fits}
use Rattle.groups.proofs.group_set.Groups.with.Goals as goal

pub invariant_of-result : goal.invariant_of-result
invariant_of-result c = set_fits c.self.inside.bits c.number.result c.self.invariant

pub returns : goal.returns
returns c = rw (c.number.ensures.same, ← c.self.view_is) (ones_of-set c.self.inside.bits c.args.group (omega arith))
