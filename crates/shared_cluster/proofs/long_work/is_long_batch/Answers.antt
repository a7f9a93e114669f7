use Rattle.std.proofs.Common.{sym, ap, ◌∙◌, rules, tests}
use Rattle.std.proofs.lemmas.Iterator.{YieldsList-from_slice}
use Rattle.std.proofs.lemmas.Iterator.Search.{any_from_yields_List}
use Rattle.std.specs.List.{list_any}
use Rattle.shared_cluster.specs.LongWork.{is_long_member, is_long_batch}
use Rattle.shared_cluster.proofs.long_work.is_long_batch.Goals as goal

pub returns-in-Exec : goal.returns-in-Exec
returns-in-Exec c =
    any_from_yields_List is_long_member _ _ _ c.any.ensures.ran (YieldsList-from_slice c.as_slice.result.now cc)
    (λ x b q k. search (rules, tests))
    ∙ ap (list_any is_long_member) c.as_slice.ensures.members ∙ ap is_long_batch (sym c.in-Exec.is)
