use Rattle.std.proofs.Common.{◌≤◌, ◌<◌, ◌-◌, ◌++◌, ◌∷◌, [], ap, ◌∙◌, subst}
use Rattle.layer_planner.proofs.PartLaws.{dealt_first, dealt_next, dealt_all}
use Rattle.layer_planner.proofs.planning.deal_part.Goals as goal

pub loop-number-init : goal.loop-number-init
loop-number-init c = dealt_first c.args.units.now c.args.parts c.args.first c.unit.result.now c.in_ok-dealt.dealt c.requires.first
    c.requires.parts c.unit.ensures
    (c.in_ok-dealt.ensures ∙ ap (λ l. l ++ c.unit.result.now ∷ []) c.empty.ensures)

pub loop-number-preserved : goal.loop-number-preserved
loop-number-preserved c = dealt_next c.args.units.now c.args.parts c.args.first c.loop-number.number c.unit-in-loop-number.result.now
    c.loop-number.dealt c.in_ok-dealt-2.dealt c.requires.first c.loop-number.invariant
    (subst (λ n. c.args.parts < n - c.loop-number.number) c.len.ensures c.loop-number-test.true)
    c.unit-in-loop-number.ensures c.in_ok-dealt-2.ensures

pub returns : goal.returns
returns c = dealt_all c.args.units.now c.args.parts c.args.first c.loop-number.number c.loop-number.dealt c.loop-number.invariant
    (subst (λ n. n - c.loop-number.number ≤ c.args.parts) c.len.ensures c.loop-number-test.false)
