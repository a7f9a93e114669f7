use Rattle.std.proofs.Common.{[], sym}
use Rattle.std.proofs.lemmas.List.{get_or-map}
use Rattle.layer_planner.specs.declared.job.Job.{Job}
use Rattle.layer_planner.proofs.firsts.groups_at.Goals as goal

pub returns : goal.returns
returns c = sym (get_or-map (λ (j : Job). j.groups) c.args.jobs.now c.args.place c.index-jobs-place.result [] c.requires)
