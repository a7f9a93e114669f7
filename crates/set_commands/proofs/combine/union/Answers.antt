use Rattle.std.proofs.Common.{◌≡◌, ◌+◌, [], ◌++◌, drop, sym, ap, ◌∙◌}
use Rattle.std.specs.List.{flat_map}
use Rattle.std.specs.Option.{option_copied}
use Rattle.set_commands.proofs.Found.{found-turn}
use Rattle.set_commands.proofs.Kept.{joined-in_order}
use Rattle.set_commands.specs.Combination.{found_members, found_sets}
use Rattle.set_commands.specs.Lent.{lent_texts}
use Rattle.values.specs.SetValue.{with_members}
use Rattle.set_commands.proofs.combine.union.Goals as goal

pub loop-set-preserved : goal.loop-set-preserved
loop-set-preserved c =
    let sets = c.args.sets.now in
    let i = c.loop-set.set-index in
    let set = found_members (option_copied c.set-item.result) in
    let rest = flat_map (λ members. members) (found_sets (drop (i + 1) sets)) in
    let done = lent_texts c.loop-set.all.items in
    let pushed = c.in_ok-push_members.ensures in
    let turn : flat_map (λ members. members) (found_sets (drop i sets)) ≡ set ++ rest =
    ap (flat_map (λ members. members)) (found-turn sets i c.set-item.result c.loop-set-test.true c.set-item.is) in
    ap (λ l. with_members [] (l ++ rest)) pushed.1 ∙ joined-in_order done pushed.0 rest set pushed.2
    ∙ ap (λ l. with_members [] (done ++ l)) (sym turn) ∙ c.loop-set.invariant
