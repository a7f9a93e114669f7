use Rattle.set_commands.proofs.Kept.{intersection_members, union_members, difference_members}
use Rattle.set_commands.proofs.combined_members.Goals as goal

pub returns-clause-intersection : goal.returns-clause-intersection
returns-clause-intersection c = intersection_members

pub returns-clause-union : goal.returns-clause-union
returns-clause-union c = union_members

pub returns-clause-difference : goal.returns-clause-difference
returns-clause-difference c = difference_members
