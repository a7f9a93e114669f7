use Rattle.std.proofs.Common.{rules, ◌≡◌, Some, ap, sym, ◌∙◌}
use Rattle.std.specs.FinMap.{get}
use Rattle.list_commands.specs.ListCommand.{at_list, first_or_null, pop_step}
use Rattle.values.specs.declared.Value.TheVariants as kind
use Rattle.list_commands.proofs.text_plan.plan_for_end.Goals as goal

pub returns-in-Some-List : goal.returns-in-Some-List
returns-in-Some-List g c =
    let items = c.in-Some-List.list in
    let m = g.K.Keyspace.contents c.args.keyspace.now in
    let there : get m c.args.key.now ≡ Some (kind.List items) = search rules in
    λ case answers. c.for_bulk.ensures case m
    (answers ∙ ap (λ o. (at_list (pop_step c.args.end) o).1) there ∙ ap first_or_null (sym c.item_at_end.ensures))
