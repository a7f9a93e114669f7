use Rattle.groups.specs.BitLaws.{ones_of-zero}
use Rattle.groups.proofs.group_set.Groups.empty.Goals as goal

pub returns : goal.returns
returns c = ones_of-zero
