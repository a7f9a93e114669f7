use Rattle.world_laws.proofs.CollectingLaws.{collected_once}
use Rattle.world_laws.proofs.Sessions.{sessions_of_trace}
use Rattle.world_laws.proofs.Telling.{asked_as_submitted, collects_its_own}
use Rattle.world_laws.proofs.collecting.collecting_of_outcomes.Goals as goal

pub returns : goal.returns
returns c = record {
  asked_as_submitted = asked_as_submitted;
  collects_its_own = collects_its_own;
  collected_once = collected_once;
  sessions_are_of_trace = sessions_of_trace;
}
