use Rattle.std.proofs.Common.{ap, ◌∙◌}
use Rattle.packing.specs.Codes.{words_at}
use Rattle.packing.proofs.PackedLaws.{words_at-nil, packed_none}
use Rattle.packing.proofs.packed.PackedWords.new.Goals as goal

pub invariant_of-result : goal.invariant_of-result
invariant_of-result c = rw c.new.ensures.items packed_none

pub returns : goal.returns
returns c = ap (λ b. (words_at b).0) c.new.ensures.items ∙ words_at-nil
