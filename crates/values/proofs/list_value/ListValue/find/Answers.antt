use Rattle.std.proofs.Common.{◌≡◌, ◌<◌, [], get_or, length, ap, sym, ◌∙◌, arith}
use Rattle.std.proofs.lemmas.List.{get_or-map, length-map}
use Rattle.std.specs.Str.{bytes_eq}
use Rattle.values.proofs.Lists.{position-first, position-none, fails_more}
use Rattle.values.proofs.list_value.ListValue.find.Goals as goal

pub returns-then-eq : goal.returns-then-eq
returns-then-eq c =
    let xs = c.self.inside.texts.items in
    let i = c.loop-place.place in
    let long : length xs ≡ length c.args.self.now = sym (length-map xs (λ t. t.items)) ∙ ap length c.self.view_is in
    let within : i < length xs = omega (arith, c.self.inside.texts.ok.0, c.len-place-end.ensures) in
    let there : get_or c.args.self.now i [] ≡ c.as_slice.result.now =
    ap (λ l. get_or l i []) (sym c.self.view_is) ∙ get_or-map (λ t. t.items) xs i c.index.result.now [] within
    ∙ ap (λ t. t.items) (sym c.index.ensures) ∙ sym c.as_slice.ensures.value in
    position-first (bytes_eq c.args.item.now) c.args.self.now i [] (omega (arith, long, within)) c.loop-place.invariant
    (ap (bytes_eq c.args.item.now) there ∙ sym c.eq.ensures ∙ c.if-eq.true)

pub loop-place-preserved : goal.loop-place-preserved
loop-place-preserved c =
    let xs = c.self.inside.texts.items in
    let i = c.loop-place.place in
    let within : i < length xs = omega (arith, c.self.inside.texts.ok.0, c.len-place-end.ensures) in
    let there : get_or c.args.self.now i [] ≡ c.as_slice.result.now =
    ap (λ l. get_or l i []) (sym c.self.view_is) ∙ get_or-map (λ t. t.items) xs i c.index.result.now [] within
    ∙ ap (λ t. t.items) (sym c.index.ensures) ∙ sym c.as_slice.ensures.value in
    fails_more (bytes_eq c.args.item.now) c.args.self.now i [] c.loop-place.invariant
    (ap (bytes_eq c.args.item.now) there ∙ sym c.eq.ensures ∙ c.if-eq.false)

pub returns : goal.returns
returns c =
    let xs = c.self.inside.texts.items in
    let long : length xs ≡ length c.args.self.now = sym (length-map xs (λ t. t.items)) ∙ ap length c.self.view_is in
    position-none (bytes_eq c.args.item.now) c.args.self.now c.loop-place.place []
    (omega (arith, long, c.self.inside.texts.ok.0, c.len-place-end.ensures, c.loop-place-test.false)) c.loop-place.invariant
