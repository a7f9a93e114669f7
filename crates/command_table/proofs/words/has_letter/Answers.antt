use Rattle.std.proofs.Common.{◌≡◌, nat_eq, slice_get, get_or, Some, ap, sym, ◌∙◌, rules, tests}
use Rattle.std.proofs.lemmas.Iterator.{YieldsList-from_slice}
use Rattle.std.proofs.lemmas.Iterator.Search.{any_from_yields_List}
use Rattle.std.proofs.lemmas.Option.{slice_get-get_or}
use Rattle.command_table.specs.Words.{is_one_of}
use Rattle.command_table.proofs.words.has_letter.Goals as goal

pub returns : goal.returns
returns c =
    let found = get_or c.args.word.now c.args.place 0 in
    let there : slice_get c.args.word.now c.args.place ≡ Some found =
    slice_get-get_or c.args.word.now c.args.place 0 c.if-place-word.false in
    any_from_yields_List (λ letter. nat_eq letter found) _ _ _ c.any.ensures.ran
    (YieldsList-from_slice c.args.letters.now cc) (λ x b q k. search (rules, tests))
    ∙ ap (is_one_of c.args.letters.now) (sym there)
