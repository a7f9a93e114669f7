use Rattle.std.proofs.Common.{rules, ◌≡◌, Some, ap, ◌∙◌}
use Rattle.std.specs.FinMap.{get}
use Rattle.string_commands.specs.StringCommand.{get_step}
use Rattle.values.specs.declared.Value.TheVariants as kind
use Rattle.string_commands.proofs.text_plan.plan_for_string.Goals as goal

pub returns-in-Some-Str : goal.returns-in-Some-Str
returns-in-Some-Str g c =
    let m = g.K.Keyspace.contents c.args.keyspace.now in
    let there : get m c.args.key.now ≡ Some (kind.Str c.as_slice-in-Some-Str.result.now) = search rules in
    λ case answers. c.for_bulk.ensures case m (answers ∙ ap (λ o. (get_step o).1) there)
