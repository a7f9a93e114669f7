use Rattle.std.proofs.Common.{List, refl, subst}
use Rattle.std.specs.Result.{IfOk}
use Rattle.clap.specs.Words.{Row}
use Rattle.clap.proofs.BuiltLemmas.{on_ok_always}
use Rattle.clap.proofs.OnLiterals.{clap_on_literals}
use Rattle.options.specs.Server.{AreSaidBy}
use Rattle.options.proofs.server.read_options.Goals as goal

pub found_in-requires : goal.found_in-requires
unfolding clap_on_literals
found_in-requires g c = refl

pub returns-in-Ok-clause-taken : goal.returns-in-Ok-clause-taken
returns-in-Ok-clause-taken g c = on_ok_always c.options_of.result c.in-Ok.ensures.taken

pub returns-in-Ok-clause-said : goal.returns-in-Ok-clause-said
returns-in-Ok-clause-said g c =
    subst (λ (rows : List Row). IfOk c.options_of.result (AreSaidBy rows)) c.in-Ok.ensures.found c.options_of.ensures.said
