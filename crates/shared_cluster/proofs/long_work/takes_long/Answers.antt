use Rattle.std.proofs.Common.{ap, ◌∙◌, rules, tests}
use Rattle.std.proofs.lemmas.Iterator.{YieldsList-from_slice}
use Rattle.std.proofs.lemmas.Iterator.Search.{any_from_yields_List}
use Rattle.std.specs.List.{list_any}
use Rattle.shared_cluster.specs.LongWork.{is_long_job}
use Rattle.shared_cluster.proofs.long_work.takes_long.Goals as goal

pub returns : goal.returns
returns c =
    any_from_yields_List is_long_job _ _ _ c.any.ensures.ran (YieldsList-from_slice c.jobs.result.now cc)
    (λ x b q k. search (rules, tests))
    ∙ ap (list_any is_long_job) c.jobs.ensures.jobs
