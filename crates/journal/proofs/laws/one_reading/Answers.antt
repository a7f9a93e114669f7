use Rattle.journal.proofs.OneReading.{spells-one, one-version, one-fault, no-fault-of-trace}
use Rattle.journal.proofs.laws.one_reading.Goals as goal

pub returns-clause-one_trace : goal.returns-clause-one_trace
returns-clause-one_trace c = spells-one

pub returns-clause-one_version : goal.returns-clause-one_version
returns-clause-one_version c = one-version

pub returns-clause-one_fault : goal.returns-clause-one_fault
returns-clause-one_fault c = one-fault

pub returns-clause-not_both : goal.returns-clause-not_both
returns-clause-not_both c = no-fault-of-trace
