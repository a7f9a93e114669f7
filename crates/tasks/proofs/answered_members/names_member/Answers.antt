use Rattle.std.proofs.Common.{◌∙◌, rules, tests}
use Rattle.std.proofs.lemmas.Iterator.{YieldsList-from_slice}
use Rattle.std.proofs.lemmas.Iterator.Search.{any_from_yields_List}
use Rattle.tasks.proofs.Named.{any-names_part}
use Rattle.tasks.specs.Skips.{names_part}
use Rattle.tasks.proofs.answered_members.names_member.Goals as goal

pub returns : goal.returns
returns c =
    any_from_yields_List (names_part c.args.id c.args.number) _ _ _ c.any.ensures.ran (YieldsList-from_slice c.args.names.now cc)
    (λ x b q k. search (rules, tests))
    ∙ any-names_part c.args.id c.args.number c.args.names.now
