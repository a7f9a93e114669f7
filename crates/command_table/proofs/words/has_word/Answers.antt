use Rattle.std.proofs.Common.{sym, ◌∙◌, rules, tests}
use Rattle.std.proofs.lemmas.Iterator.{YieldsList-from_slice}
use Rattle.std.proofs.lemmas.Iterator.Search.{any_from_yields_List}
use Rattle.command_table.specs.Words.{is_word}
use Rattle.texts.proofs.Lists.{any_text}
use Rattle.command_table.proofs.words.has_word.Goals as goal

pub returns : goal.returns
returns c =
    any_from_yields_List (λ w. is_word c.args.text.now w.items) _ _ _ c.any.ensures.ran (YieldsList-from_slice c.args.words.now cc)
    (λ x b q k. search (rules, tests))
    ∙ sym (any_text (is_word c.args.text.now) c.args.words.now)
