use Rattle.std.proofs.Common.{refl}
use Rattle.clap.proofs.BuiltLemmas.{on_ok_always}
use Rattle.clap.proofs.OnLiterals.{clap_on_literals}
use Rattle.options.proofs.picture.read_options.Goals as goal

pub found_in-requires : goal.found_in-requires
unfolding clap_on_literals
found_in-requires g c = refl

pub returns-in-Ok-clause-taken : goal.returns-in-Ok-clause-taken
returns-in-Ok-clause-taken g c = on_ok_always c.asked_in.result c.in-Ok.ensures.taken
