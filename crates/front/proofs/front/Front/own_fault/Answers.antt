use Rattle.std.proofs.Common.{sym, subst}
use Rattle.std.specs.Prelude.{IfSome, IfNone}
use Rattle.front.specs.Refusing.{IsFault, RefusesNot}
use Rattle.std.proofs.lemmas.Option.{IfSome_then}
use Rattle.front.proofs.Refusals.{none_of}
use Rattle.front.proofs.front.Front.own_fault.Goals as goal

pub returns-in-Submit-clause-some : goal.returns-in-Submit-clause-some
returns-in-Submit-clause-some c =
    subst (λ s. IfSome c.submit_fault.result (IsFault c.args.self.now s)) (sym c.in-Submit.is)
    (IfSome_then c.submit_fault.result c.submit_fault.ensures.some (λ fault why. why c.in-Submit.words))

pub returns-in-Submit-clause-none : goal.returns-in-Submit-clause-none
returns-in-Submit-clause-none c =
    subst (λ s. IfNone c.submit_fault.result (RefusesNot c.args.self.now s)) (sym c.in-Submit.is)
    (none_of c.submit_fault.result (λ none. none c.in-Submit.words) c.submit_fault.ensures.none)

pub returns-in-Deliver-clause-some : goal.returns-in-Deliver-clause-some
returns-in-Deliver-clause-some c =
    subst (λ s. IfSome c.deliver_fault.result (IsFault c.args.self.now s)) (sym c.in-Deliver.is)
    (IfSome_then c.deliver_fault.result c.deliver_fault.ensures.some (λ fault why. why.0))

pub returns-in-Deliver-clause-none : goal.returns-in-Deliver-clause-none
returns-in-Deliver-clause-none c =
    subst (λ s. IfNone c.deliver_fault.result (RefusesNot c.args.self.now s)) (sym c.in-Deliver.is)
    (none_of c.deliver_fault.result (λ none. none.0) c.deliver_fault.ensures.none)

pub returns-in-Repeat-clause-some : goal.returns-in-Repeat-clause-some
returns-in-Repeat-clause-some c =
    subst (λ s. IfSome c.deliver_fault-in-Repeat.result (IsFault c.args.self.now s)) (sym c.in-Repeat.is)
    (IfSome_then c.deliver_fault-in-Repeat.result c.deliver_fault-in-Repeat.ensures.some (λ fault why. why.1))

pub returns-in-Repeat-clause-none : goal.returns-in-Repeat-clause-none
returns-in-Repeat-clause-none c =
    subst (λ s. IfNone c.deliver_fault-in-Repeat.result (RefusesNot c.args.self.now s)) (sym c.in-Repeat.is)
    (none_of c.deliver_fault-in-Repeat.result (λ none. none.1) c.deliver_fault-in-Repeat.ensures.none)

pub returns-in-Collect-clause-some : goal.returns-in-Collect-clause-some
returns-in-Collect-clause-some c =
    subst (λ s. IfSome c.collect_fault.result (IsFault c.args.self.now s)) (sym c.in-Collect.is)
    (IfSome_then c.collect_fault.result c.collect_fault.ensures.some (λ fault why. why.0))

pub returns-in-Collect-clause-none : goal.returns-in-Collect-clause-none
returns-in-Collect-clause-none c =
    subst (λ s. IfNone c.collect_fault.result (RefusesNot c.args.self.now s)) (sym c.in-Collect.is)
    (none_of c.collect_fault.result (λ none. none.0) c.collect_fault.ensures.none)

pub returns-in-Close-clause-some : goal.returns-in-Close-clause-some
returns-in-Close-clause-some c =
    subst (λ s. IfSome c.collect_fault-in-Close.result (IsFault c.args.self.now s)) (sym c.in-Close.is)
    (IfSome_then c.collect_fault-in-Close.result c.collect_fault-in-Close.ensures.some (λ fault why. why.1))

pub returns-in-Close-clause-none : goal.returns-in-Close-clause-none
returns-in-Close-clause-none c =
    subst (λ s. IfNone c.collect_fault-in-Close.result (RefusesNot c.args.self.now s)) (sym c.in-Close.is)
    (none_of c.collect_fault-in-Close.result (λ none. none.1) c.collect_fault-in-Close.ensures.none)
