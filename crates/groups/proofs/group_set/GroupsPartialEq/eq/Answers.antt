use Rattle.std.proofs.lemmas.Bool.Decides.{same_from_decides}
use Rattle.std.proofs.lemmas.Slice.Eq.{bytes_eq-Decides}
use Rattle.groups.specs.BitLaws.{Decides-words}
use Rattle.groups.proofs.group_set.GroupsPartialEq.eq.Goals as goal

pub returns-clause-same : goal.returns-clause-same
returns-clause-same c =
    rw (← c.self.view_is, ← c.other.view_is)
    (same_from_decides _ _ (Decides-words _ _ c.self.invariant c.other.invariant) (bytes_eq-Decides _ _))

pub returns-clause-equal : goal.returns-clause-equal
returns-clause-equal c =
    rw (← c.self.view_is, ← c.other.view_is) (Decides-words _ _ c.self.invariant c.other.invariant)
