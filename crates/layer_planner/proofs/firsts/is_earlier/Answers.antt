use Rattle.std.proofs.Common.{slice_index_or, sym, ap, ◌∙◌}
use Rattle.std.proofs.lemmas.List.{get_or-map}
use Rattle.groups.specs.Stamp.{stamp_lt}
use Rattle.layer_planner.specs.Units.{stamp_at}
use Rattle.layer_planner.specs.declared.job.Job.{Job}
use Rattle.layer_planner.proofs.firsts.is_earlier.Goals as goal

pub returns : goal.returns
returns c =
    c.is_before.ensures
    ∙ ap (λ s. stamp_lt s (slice_index_or c.args.jobs.now c.args.other c.index-jobs-other.result).stamp)
    (sym (get_or-map (λ (j : Job). j.stamp) c.args.jobs.now c.args.place c.index-jobs-place.result
    (record { clock = 0; group = 0 }) c.requires.place))
    ∙ ap (stamp_lt (stamp_at c.args.jobs.now c.args.place))
    (sym (get_or-map (λ (j : Job). j.stamp) c.args.jobs.now c.args.other c.index-jobs-other.result
    (record { clock = 0; group = 0 }) c.requires.other))
