use Rattle.std.proofs.Common.{false, sym, subst}
use Rattle.std.specs.Prelude.{IfSome, IfNone}
use Rattle.system.proofs.Lasting.{refused_still, seen}
use Rattle.std.proofs.lemmas.Option.{IfSome_then}
use Rattle.front.proofs.Refusals.{none_of}
use Rattle.system.specs.System.{MayGoOn, IsAdmitted, IsRefused}
use Rattle.system.proofs.system.System.refuses.Goals as goal

pub returns-in-None-clause-some : goal.returns-in-None-clause-some
returns-in-None-clause-some c =
    let may = subst MayGoOn (sym c.self.view_is) c.in-None.ensures.none in
    subst (λ s. IfSome c.own_fault.result (λ fault. IsRefused false s c.args.step.now fault s)) c.self.view_is
    (IfSome_then c.own_fault.result c.own_fault.ensures.some
    (λ fault why. refused_still (seen c.self.inside) c.args.step.now fault may why))

pub returns-in-None-clause-none : goal.returns-in-None-clause-none
returns-in-None-clause-none c =
    let may = subst MayGoOn (sym c.self.view_is) c.in-None.ensures.none in
    subst (λ s. IfNone c.own_fault.result (IsAdmitted s c.args.step.now)) c.self.view_is
    (none_of c.own_fault.result (λ none. record { goes_on = may; not_refused = none }) c.own_fault.ensures.none)
