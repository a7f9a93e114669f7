use Rattle.std.proofs.Common.{◌≡◌, ap, sym, ◌∙◌, map, reverse, [], ◌++◌, arith}
use Rattle.std.proofs.lemmas.List.{map-append}
use Rattle.values.proofs.Lists.{nothing_long}
use Rattle.values.proofs.Mapped.{map-reverse}
use Rattle.values.proofs.list_value.push_head.Goals as goal

pub returns-clause-ok : goal.returns-clause-ok
returns-clause-ok c =
    let none : c.loop-item.items.items ≡ [] =
    nothing_long c.loop-item.items.items (omega (arith, c.loop-item.items.ok, c.in_default.ensures.cases.0)) in
    let all : c.loop-item.texts.items ≡ reverse c.args.items.items ++ c.args.texts.now.items =
    ap (λ l. l ++ c.loop-item.texts.items) (sym none) ∙ c.loop-item.invariant.there in
    ap (map (λ t. t.items)) all ∙ map-append (λ t. t.items) (reverse c.args.items.items) c.args.texts.now.items
    ∙ ap (λ l. l ++ map (λ t. t.items) c.args.texts.now.items) (map-reverse (λ t. t.items) c.args.items.items)
