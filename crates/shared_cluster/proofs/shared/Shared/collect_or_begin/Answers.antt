use Rattle.shared_cluster.proofs.shared.Shared.collect_or_begin.Goals as goal

pub returns-in-Ok-Some-clause-begun : goal.returns-in-Ok-Some-clause-begun
returns-in-Ok-Some-clause-begun g c = rw c.in-Ok-Some.field-0-is at c.in-Ok-Some.ensures.replied

pub returns-in-Ok-Taken-clause-begun : goal.returns-in-Ok-Taken-clause-begun
returns-in-Ok-Taken-clause-begun g c = (
  rw c.in-Ok-None.field-0-is at c.in-Ok-None.ensures.unasked,
  (_, rw c.in-Ok-Taken.field-0-is at c.in-Ok-Taken.ensures.made),
)
