use Rattle.std.proofs.Common.{[], refl, sym, ap, ◌∙◌, subst, arith}
use Rattle.back.specs.Backs.{BackState}
use Rattle.placement.specs.Layout.{IsTable}
use Rattle.system.proofs.Opening.{IsOpening, opening_shown}
use Rattle.system.specs.declared.stage.Stage.TheVariants.{Free}
use Rattle.world.specs.Steps.{opening}
use Rattle.system.proofs.system.System.with_hasher.Goals as goal

is_opening : (c : goal.After-new-3) → IsOpening c.args.table (record {
  front = c.in_ok-front.front;
  back = c.in_ok-back.back;
  stage = Free;
  starved = c.new-3.result;
})
is_opening c = record {
  front = c.in_ok-front.ensures;
  back = c.in_ok-back.ensures;
  stage = refl;
  starved = c.new-3.ensures.items;
}

pub invariant_of-result : goal.invariant_of-result
invariant_of-result c =
    let few = c.requires.few in
    let some = c.requires.some in
    let front = c.in_ok-front.ensures in
    record {
      is_table = subst IsTable (front.table ∙ sym (ap (λ (b : BackState). b.store.table) c.in_ok-back.ensures))
          c.holds.ensures.is_front.is_table;
      within = omega arith;
      few = c.requires.few;
      shows = λ alive. ([], opening, record { at = opening_shown c.args.table _ (is_opening c); count = refl });
      counted = λ alive. let steps = front.no_steps in let layers = front.no_layers in omega arith;
    }

pub returns : goal.returns
returns c = record {
  max_steps = refl;
  none = refl;
  table = ap (λ (b : BackState). b.store.table) c.in_ok-back.ensures;
  lives = ap (λ (b : BackState). b.store.failed) c.in_ok-back.ensures;
  shows = record { at = opening_shown c.args.table _ (is_opening c); count = refl };
}
