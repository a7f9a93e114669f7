use Rattle.std.proofs.Common.{sym, ap, ◌∙◌}
use Rattle.packing.specs.Codes.{number_at}
use Rattle.packing.specs.CodeLaws.{length-words_at}
use Rattle.packing.proofs.packed.PackedWords.len.Goals as goal

pub returns : goal.returns
returns c = rw (← c.self.view_is)
    (c.take_number.ensures.number ∙ ap (λ b. (number_at b).0) c.as_slice.ensures.value ∙ sym (length-words_at c.self.inside.bytes.items))
