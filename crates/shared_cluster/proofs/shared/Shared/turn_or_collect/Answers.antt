use Rattle.std.proofs.Common.{inl, inr, refl}
use Rattle.std.proofs.lemmas.Result.{IfOk-weaker}
use Rattle.front.proofs.Refusals.{none_of}
use Rattle.shared_cluster.proofs.Hands.{if_ok, if_on_ok, if_none, on_some, on_err}
use Rattle.shared_cluster.proofs.shared.Shared.turn_or_collect.Goals as goal

pub returns-then-may_look-clause-free : goal.returns-then-may_look-clause-free
returns-then-may_look-clause-free g c = if_ok c.look.result (λ reply. on_some reply (c.may_look.ensures c.if-may_look.true))

pub returns-then-may_look-clause-turned : goal.returns-then-may_look-clause-turned
returns-then-may_look-clause-turned g c = if_ok c.look.result (λ reply. on_some reply (inl (c.may_look.ensures c.if-may_look.true)))

pub returns-then-may_look-clause-goes_on : goal.returns-then-may_look-clause-goes_on
returns-then-may_look-clause-goes_on g c =
    IfOk-weaker c.look.result _ _ (λ reply. none_of reply (λ none. inl (none, refl))) c.look.ensures.none

pub returns-then-may_look-clause-let_go : goal.returns-then-may_look-clause-let_go
returns-then-may_look-clause-let_go g c = on_err c.look.result (c.may_look.ensures c.if-may_look.true)

pub settle_and_collect-requires : goal.settle_and_collect-requires
settle_and_collect-requires g c = c.has_run.ensures c.if-has_run.true

pub returns-then-has_run-clause-turned : goal.returns-then-has_run-clause-turned
returns-then-has_run-clause-turned g c =
    if_on_ok c.settle_and_collect.result c.settle_and_collect.ensures.turned (λ turned reply. on_some reply (inr turned))

pub returns-then-has_run-clause-goes_on : goal.returns-then-has_run-clause-goes_on
returns-then-has_run-clause-goes_on g c =
    if_on_ok c.settle_and_collect.result c.settle_and_collect.ensures.turned (λ turned reply. if_none reply (inr turned))
