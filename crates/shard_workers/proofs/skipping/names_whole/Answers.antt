use Rattle.std.proofs.Common.{rules, tests, sym, ◌∙◌}
use Rattle.std.proofs.lemmas.Iterator.{YieldsList-from_slice}
use Rattle.std.proofs.lemmas.Iterator.Search.{any_from_yields_List}
use Rattle.shard_workers.proofs.WholeNames.{one_names_whole}
use Rattle.shard_workers.specs.WholeNames.{is_whole_of}
use Rattle.shard_workers.proofs.skipping.names_whole.Goals as goal

pub returns : goal.returns
returns c =
    any_from_yields_List (λ name. is_whole_of name c.args.id.now) _ _ _ c.any.ensures.ran
    (YieldsList-from_slice c.args.names.now cc) (λ x b q k. search (rules, tests))
    ∙ sym (one_names_whole c.args.names.now c.args.id.now)
