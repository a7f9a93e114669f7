use Rattle.std.proofs.Common.{◌++◌, ap, ◌∙◌}
use Rattle.packing.specs.Codes.{words_code}
use Rattle.packing.proofs.PackedLaws.{packed_read, packed_some}
use Rattle.packing.proofs.packed.PackedWords.set.Goals as goal

pub invariant_of-self-2 : goal.invariant_of-self-2
invariant_of-self-2 c =
    let put = c.put_words.ensures.items ∙ ap (λ b. b ++ words_code c.args.words.now) c.in_ok-make_room.ensures.none.0 in
    packed_some _ _ put c.in-Some.ensures.1

pub returns-clause-set : goal.returns-clause-set
returns-clause-set c =
    let put = c.put_words.ensures.items ∙ ap (λ b. b ++ words_code c.args.words.now) c.in_ok-make_room.ensures.none.0 in
    packed_read _ _ put c.in-Some.ensures.1
