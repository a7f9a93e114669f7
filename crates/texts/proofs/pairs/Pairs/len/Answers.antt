use Rattle.std.proofs.Common.{ap, length, arith}
use Rattle.texts.proofs.Paired.{length-pairs_of}
use Rattle.texts.proofs.pairs.Pairs.len.Goals as goal

pub returns : goal.returns
returns c =
    let half = length-pairs_of c.self.inside.texts.items in
    omega (arith, half.0, half.1, ap length c.self.view_is, ap length c.as_slice.ensures.value)
