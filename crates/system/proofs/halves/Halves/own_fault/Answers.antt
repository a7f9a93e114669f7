use Rattle.std.proofs.Common.{sym, subst}
use Rattle.std.specs.Prelude.{IfSome, IfNone}
use Rattle.std.proofs.lemmas.Option.{IfSome_then}
use Rattle.front.proofs.Refusals.{none_of}
use Rattle.system.proofs.Fronting.{alone}
use Rattle.system.specs.Refusing.{IsFault, RefusesNot}
use Rattle.system.proofs.halves.Halves.own_fault.Goals as goal

pub returns-in-Take-clause-some : goal.returns-in-Take-clause-some
returns-in-Take-clause-some c =
    subst (λ s. IfSome c.take_fault.result (IsFault c.args.self.now s)) (sym c.in-Take.is)
    c.take_fault.ensures.some

pub returns-in-Take-clause-none : goal.returns-in-Take-clause-none
returns-in-Take-clause-none c =
    subst (λ s. IfNone c.take_fault.result (RefusesNot c.args.self.now s)) (sym c.in-Take.is)
    c.take_fault.ensures.none

pub returns-in-Run-clause-some : goal.returns-in-Run-clause-some
returns-in-Run-clause-some c =
    subst (λ s. IfSome c.run_fault.result (IsFault c.args.self.now s)) (sym c.in-Run.is)
    (IfSome_then c.run_fault.result c.run_fault.ensures.some (λ fault why. why c.in-Run.starved))

pub returns-in-Run-clause-none : goal.returns-in-Run-clause-none
returns-in-Run-clause-none c =
    subst (λ s. IfNone c.run_fault.result (RefusesNot c.args.self.now s)) (sym c.in-Run.is)
    (none_of c.run_fault.result (λ none. none c.in-Run.starved) c.run_fault.ensures.none)

pub returns-in-Settle-clause-some : goal.returns-in-Settle-clause-some
returns-in-Settle-clause-some c =
    subst (λ s. IfSome c.settle_fault.result (IsFault c.args.self.now s)) (sym c.in-Settle.is)
    c.settle_fault.ensures.some

pub returns-in-Settle-clause-none : goal.returns-in-Settle-clause-none
returns-in-Settle-clause-none c =
    subst (λ s. IfNone c.settle_fault.result (RefusesNot c.args.self.now s)) (sym c.in-Settle.is)
    c.settle_fault.ensures.none

pub front_fault-requires : goal.front_fault-requires
front_fault-requires c = alone c.args.step.now c.in_default.not-Take c.in_default.not-Run c.in_default.not-Settle
