use Rattle.std.proofs.Common.{ℕ, sym, ◌∙◌, rules, tests}
use Rattle.std.proofs.lemmas.Iterator.{YieldsList-from_slice}
use Rattle.std.proofs.lemmas.Iterator.Search.{all_from_yields_List}
use Rattle.std.specs.Global.{Vec}
use Rattle.command_table.specs.StringCommands.{is_option}
use Rattle.std.proofs.lemmas.List.Folds.{list_all-map}
use Rattle.command_table.proofs.string_commands.are_options.Goals as goal

pub returns : goal.returns
returns c =
    all_from_yields_List (λ w. is_option w.items) _ _ _ c.all.ensures.ran (YieldsList-from_slice c.args.words.now cc)
    (λ x b q k. search (rules, tests))
    ∙ sym (list_all-map is_option (λ (w : Vec ℕ). w.items) c.args.words.now)
