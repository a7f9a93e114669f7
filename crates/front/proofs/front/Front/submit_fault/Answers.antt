use Rattle.std.proofs.Common.{sym, subst}
use Rattle.front.proofs.Refusals.{submit_refused}
use Rattle.front.proofs.Views.{seen}
use Rattle.front.specs.Refusing.{IsFault}
use Rattle.journal.specs.declared.step.Step.TheVariants.{Submit}
use Rattle.front.proofs.front.Front.submit_fault.Goals as goal

pub returns-in-Err-clause-some : goal.returns-in-Err-clause-some
returns-in-Err-clause-some c = λ words.
    subst (λ f. IsFault f (Submit c.args.conn words) c.from.result) c.self.view_is
    (subst (λ fault. IsFault (seen c.self.inside) (Submit c.args.conn words) fault) (sym c.from.ensures)
    (submit_refused (seen c.self.inside) c.args.conn words c.in-Err.refused c.in-Err.ensures.may_not.1))
