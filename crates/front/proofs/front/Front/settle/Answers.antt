use Rattle.std.proofs.Common.{sym, subst}
use Rattle.front.proofs.SettleMakes.{front_after, may_go, settles, once_settled}
use Rattle.front.proofs.Views.{seen}
use Rattle.front.specs.Outcomes.{MayGo, HaveGone}
use Rattle.front.specs.Settling.{IsTrueOf, Settles}
use Rattle.front.proofs.front.Front.settle.Goals as goal

pub hand_rows-requires : goal.hand_rows-requires
hand_rows-requires c =
    let old = seen c.self.inside in
    let truth = subst (λ f. IsTrueOf f c.args.done) (sym c.self.view_is) c.requires.truth in
    subst (λ l. MayGo l old.router) (sym c.into_rows.ensures) (may_go old c.args.done truth)

pub invariant_of-self : goal.invariant_of-self
invariant_of-self c =
    let old = seen c.self.inside in
    let done = c.args.done in
    let r = c.hand_rows.new.router in
    let truth = subst (λ f. IsTrueOf f done) (sym c.self.view_is) c.requires.truth in
    let gone = subst (λ l. HaveGone l old.router r) c.into_rows.ensures c.hand_rows.ensures in
    once_settled old (front_after old r c.clear.new.self.items) done c.self.invariant truth
    (settles old done r gone c.clear.new.self.items c.clear.ensures.items)

pub returns : goal.returns
returns c =
    let old = seen c.self.inside in
    let done = c.args.done in
    let r = c.hand_rows.new.router in
    let gone = subst (λ l. HaveGone l old.router r) c.into_rows.ensures c.hand_rows.ensures in
    subst (λ f. Settles f done (front_after old r c.clear.new.self.items)) c.self.view_is
    (settles old done r gone c.clear.new.self.items c.clear.ensures.items)
