use Rattle.resp_decoder.proofs.Known as known
use Rattle.resp_decoder.proofs.laws.known_texts.Goals as goal

pub returns-clause-requests : goal.returns-clause-requests
returns-clause-requests c = known.known_texts

pub returns-clause-faults : goal.returns-clause-faults
returns-clause-faults c = known.known_faults
