use Rattle.std.proofs.Common.{map, refl}
use Rattle.clap.proofs.BuiltLemmas.{on_ok_always}
use Rattle.clap.proofs.OnLiterals.{clap_on_literals}
use Rattle.options.proofs.Refusals.{lacking}
use Rattle.options.specs.Refusals.{names_none}
use Rattle.options.specs.Replay.{IsOutOfBounds, line}
use Rattle.options.proofs.replay.read_options.Goals as goal

pub found_in-requires : goal.found_in-requires
unfolding clap_on_literals
found_in-requires g c = refl

pub returns-in-Ok-clause-taken : goal.returns-in-Ok-clause-taken
returns-in-Ok-clause-taken g c = on_ok_always c.asked_in.result c.in-Ok.ensures.taken

pub returns-in-Ok-clause-refused : goal.returns-in-Ok-clause-refused
returns-in-Ok-clause-refused g c =
    lacking line IsOutOfBounds names_none (map g.S.AsStr.text c.args.words.now) c.asked_in.result _ c.in-Ok.ensures.found
    c.asked_in.ensures.refused
