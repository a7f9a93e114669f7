use Rattle.std.proofs.Common.{◌≡◌, [], ap, ◌∙◌, rules}
use Rattle.std.specs.List.{filter}
use Rattle.set_commands.proofs.Kept.{kept-in_order}
use Rattle.set_commands.specs.Combination.{found_sets, is_in_all}
use Rattle.set_commands.specs.Lent.{lent_texts}
use Rattle.values.specs.SetValue.{with_members}
use Rattle.set_commands.proofs.combine.kept_in_each.Goals as goal

pub returns : goal.returns
returns c =
    let test = is_in_all (found_sets c.args.before.now) (found_sets c.args.after.now) in
    let read = c.in_any_order-members.result in
    let kept : lent_texts c.loop-member.kept.items ≡ filter test read = search rules in
    ap (with_members []) kept ∙ kept-in_order test read c.args.set.now c.in_any_order-members.ensures
