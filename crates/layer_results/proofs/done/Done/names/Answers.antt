use Rattle.std.proofs.Common.{◌++◌, ◌∙◌, ap, sym, subst}
use Rattle.journal.specs.Names.{AreNumbered}
use Rattle.layer_results.specs.Results.{names_of}
use Rattle.layer_results.proofs.Names.{names_numbered}
use Rattle.layer_results.proofs.done.Done.names.Goals as goal

pub new-requires : goal.new-requires
new-requires c =
    let rows = c.args.self.now in
    let told = c.push_names.ensures.items ∙ ap (λ ns. ns ++ names_of rows) c.in_ok-names.ensures.items in
    subst AreNumbered (sym told) (names_numbered rows)
