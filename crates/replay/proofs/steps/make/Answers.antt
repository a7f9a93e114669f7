use Rattle.std.proofs.Common.{◌≡◌, ◌∙◌, true, subst, sym}
use Rattle.std.specs.List.{list_all}
use Rattle.replay.proofs.Making.{stands_next, named_all}
use Rattle.replay.specs.Names.{is_named}
use Rattle.replay.specs.Replay.{starved_at}
use Rattle.replay.proofs.steps.make.Goals as goal

pub returns-then-are_named-clause-made : goal.returns-then-are_named-clause-made
returns-then-are_named-clause-made g c = λ t most before stands.
    stands_next t most before c.args.system.now c.step-2.new.self c.args.step c.in-Ok.effect c.in-Ok.ensures.made
    (named_all c.args.step c.in-Ok.effect c.in_ok-named.named.items c.in_ok-named.ensures
    (subst (λ l. list_all (is_named l) (starved_at c.in-Ok.effect) ≡ true) c.as_slice.ensures.value
    (sym c.are_named.ensures ∙ c.if-are_named.true))) stands
