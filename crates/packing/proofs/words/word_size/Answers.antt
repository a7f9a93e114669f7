use Rattle.std.proofs.Common.{arith}
use Rattle.packing.proofs.words.word_size.Goals as goal

pub returns-clause-fits : goal.returns-clause-fits
returns-clause-fits c = record { size = omega arith; bytes = λ i. (c.type_inv.word i).fits }
