use Rattle.resp_decoder.proofs.Streams.{one_fault, open_no_fault}
use Rattle.resp_decoder.proofs.laws.one_fault.Goals as goal

pub returns-clause-unique : goal.returns-clause-unique
returns-clause-unique c = one_fault

pub returns-clause-none_in_open : goal.returns-clause-none_in_open
returns-clause-none_in_open c = open_no_fault
