-- Layers: lists of jobs that may run at once, in units.
use Rattle.std.specs.Prelude.{◌≡◌, true, List}
use Rattle.std.specs.List.{AllByRecursion}
use Rattle.groups.specs.GroupSet.{has}
use Rattle.groups.specs.Units.{AreUnits}
use Rattle.layer_planner.specs.declared.job.Job.{Job}

-- no group is in two units, and the stamps of a unit rise
abbrev pub StandTogether : List Job → Type 0
StandTogether jobs = AreUnits (λ (j : Job). j.groups) (λ (j : Job). j.stamp) jobs

-- the stamp of each job is of one of its own groups, so a job has some
abbrev pub HaveOwnStamps : List Job → Type 0
HaveOwnStamps jobs = AllByRecursion (λ (j : Job). has j.groups j.stamp.group ≡ true) jobs

-- the jobs may be one layer
pub record MayStand (jobs : List Job) : Type 0 where
  pub together : StandTogether jobs
  pub stamps : HaveOwnStamps jobs
