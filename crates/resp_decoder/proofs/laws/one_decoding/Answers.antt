use Rattle.resp_decoder.proofs.Streams.{one_decoding, some_decoding}
use Rattle.resp_decoder.proofs.laws.one_decoding.Goals as goal

pub returns-clause-exists : goal.returns-clause-exists
returns-clause-exists c = some_decoding

pub returns-clause-unique : goal.returns-clause-unique
returns-clause-unique c = one_decoding
