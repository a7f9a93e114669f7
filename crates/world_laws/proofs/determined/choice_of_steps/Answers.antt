use Rattle.world_laws.proofs.DeterminedLaws.{steps_determine, histories_determine, refused_is_not_accepted}
use Rattle.world_laws.proofs.RunningAgain.{runs_again}
use Rattle.world_laws.proofs.determined.choice_of_steps.Goals as goal

pub returns : goal.returns
returns c = record {
  steps_determine = steps_determine;
  histories_determine = histories_determine;
  runs_again = runs_again;
  refused_is_not_accepted = refused_is_not_accepted;
}
