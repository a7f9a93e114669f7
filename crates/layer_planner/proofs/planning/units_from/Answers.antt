use Rattle.std.proofs.Common.{◌≡◌, [], ◌∷◌, ◌++◌, length, slice_index_or, sym, ap, ◌∙◌, subst, arith, rules}
use Rattle.std.proofs.lemmas.List.{length-append, map_more}
use Rattle.groups.proofs.Lists.{In-get}
use Rattle.layer_planner.specs.Parts.{cut, AreEnds}
use Rattle.layer_planner.specs.Units.{groups_each, unit_at}
use Rattle.layer_planner.proofs.Cuts.{cut-push, AreEnds-push}
use Rattle.layer_planner.proofs.planning.units_from.Goals as goal

pub push_unit-requires-clause-inside : goal.push_unit-requires-clause-inside
push_unit-requires-clause-inside c = c.requires.inside (slice_index_or c.args.firsts.now c.loop-first.first-index 0)
    (In-get c.args.firsts.now c.loop-first.first-index 0 c.loop-first-test.true)

pub push_unit-requires-clause-first : goal.push_unit-requires-clause-first
push_unit-requires-clause-first c = c.requires.firsts (slice_index_or c.args.firsts.now c.loop-first.first-index 0)
    (In-get c.args.firsts.now c.loop-first.first-index 0 c.loop-first-test.true)

pub loop-first-preserved : goal.loop-first-preserved
loop-first-preserved c =
    let count : c.len.result ≡ length c.push_unit.new.places.items = search rules in
    let unit = unit_at (groups_each c.args.jobs.now) (slice_index_or c.args.firsts.now c.loop-first.first-index 0) in
    let long = ap (λ l. length l) c.in_ok-push_unit.ensures ∙ length-append c.loop-first.places.items unit in
    let ends = c.in_ok-push.ensures.items ∙ ap (λ n. c.loop-first.ends.items ++ n ∷ []) count in
    record {
      ends = subst (λ e. AreEnds 0 e (length c.push_unit.new.places.items)) (sym ends)
          (AreEnds-push 0 c.loop-first.ends.items (length c.loop-first.places.items) (length c.push_unit.new.places.items)
          c.loop-first.invariant.ends (omega (arith, long)));
      units = ap (cut 0 c.push_unit.new.places.items) ends
          ∙ ap (λ l. cut 0 l (c.loop-first.ends.items ++ length l ∷ [])) c.in_ok-push_unit.ensures
          ∙ cut-push 0 c.loop-first.places.items unit c.loop-first.ends.items c.loop-first.invariant.ends
          ∙ ap (λ l. l ++ unit ∷ []) c.loop-first.invariant.units
          ∙ sym (map_more (unit_at (groups_each c.args.jobs.now)) c.args.firsts.now c.loop-first.first-index 0 c.loop-first-test.true);
    }
