use Rattle.world_laws.proofs.BoundLaws.{turns_are_bounded}
use Rattle.world_laws.proofs.QuietLaws.{quiet_means_ended, quiet_is_refused}
use Rattle.world_laws.proofs.ending.ending_of_requests.Goals as goal

pub returns : goal.returns
returns c = record { quiet_means_ended = quiet_means_ended; quiet_is_refused = quiet_is_refused; turns_are_bounded = turns_are_bounded }
