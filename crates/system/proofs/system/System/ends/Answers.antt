use Rattle.std.proofs.Common.{subst}
use Rattle.system.proofs.Lasting.{seen}
use Rattle.system.proofs.Endings.{each_has_ended, some_may_be_made, turns_are_few}
use Rattle.system.specs.Endings.{EachHasEnded, SomeMayBeMade, TurnsAreFew}
use Rattle.system.specs.Reads.{progress_of}
use Rattle.system.specs.System.{SystemView, IsQuiet}
use Rattle.system.proofs.system.System.ends.Goals as goal

pub returns : goal.returns
returns c = record {
  ended = subst (λ (s : SystemView). IsQuiet s → EachHasEnded s) c.self.view_is (each_has_ended (seen c.self.inside));
  goes_on = subst (λ (s : SystemView). ¬ IsQuiet s → SomeMayBeMade (progress_of s) s) c.self.view_is
      (some_may_be_made (seen c.self.inside) c.self.invariant);
  bounded = subst (λ (s : SystemView). TurnsAreFew s) c.self.view_is (turns_are_few (seen c.self.inside));
}
