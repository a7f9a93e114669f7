use Rattle.std.proofs.Common.{◌≡◌, [], ◌∷◌, ◌++◌, Some, None, IfOk, sym, ap, subst, ◌∙◌, rules}
use Rattle.std.specs.List.{AllByRecursion}
use Rattle.std.specs.Option.{option_copied}
use Rattle.set_commands.proofs.Found.{found-apart}
use Rattle.set_commands.proofs.Kept.{intersection-kept}
use Rattle.set_commands.specs.Combination.{found_members, found_sets, intersection}
use Rattle.set_commands.specs.Lent.{lent_texts}
use Rattle.values.specs.SetValue.{IsAscending, with_members}
use Rattle.set_commands.proofs.combine.intersection.Goals as goal

pub returns-in_default-set : goal.returns-in_default-set
returns-in_default-set c =
    let sets = c.args.sets.now in
    let before = c.split_at.result.0.now in
    let after = c.in-Some.after.now in
    let missing : c.in-Some.set.now ≡ None = search rules in
    let whole : found_sets sets ≡ found_sets before ++ [] ∷ found_sets after =
    found-apart sets before c.split_at.result.1.now after c.in-Some.set.now c.smallest.result c.split_at.ensures.front
    c.split_at.ensures.back
    c.in-Some.ensures.cases.0
    ∙ ap (λ s. found_sets before ++ found_members (option_copied s) ∷ found_sets after) missing in
    ap (λ l. with_members [] (lent_texts l)) c.new-in_default-set.ensures.items
    ∙ intersection-kept (found_sets before) (found_sets after) []
    (subst (AllByRecursion IsAscending) whole c.smallest.ensures.ascending)
    ∙ sym (ap intersection whole)

pub returns : goal.returns
returns c =
    let sets = c.args.sets.now in
    let before = c.split_at.result.0.now in
    let after = c.in-Some.after.now in
    let set = c.in-Some-set.set.now in
    let there : c.in-Some.set.now ≡ Some c.in-Some-set.set = search rules in
    let whole : found_sets sets ≡ found_sets before ++ set ∷ found_sets after =
    found-apart sets before c.split_at.result.1.now after c.in-Some.set.now c.smallest.result c.split_at.ensures.front
    c.split_at.ensures.back
    c.in-Some.ensures.cases.0
    ∙ ap (λ s. found_sets before ++ found_members (option_copied s) ∷ found_sets after) there in
    subst (λ members. IfOk c.kept_in_each.result (λ kept. with_members [] (lent_texts kept.items) ≡ members))
    (intersection-kept (found_sets before) (found_sets after) set
    (subst (AllByRecursion IsAscending) whole c.smallest.ensures.ascending)
    ∙ sym (ap intersection whole))
    c.kept_in_each.ensures
