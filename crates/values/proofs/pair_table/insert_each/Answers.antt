use Rattle.std.proofs.Common.{◌≡◌, [], ◌∷◌, length, reverse, ap, sym, ◌∙◌, arith}
use Rattle.std.proofs.lemmas.List.{length-append, length-reverse, reverse-reverse}
use Rattle.texts.specs.Texts.{texts_of, pairs_of}
use Rattle.values.proofs.Mapped.{map-reverse, reverse-map_pushed}
use Rattle.values.specs.HashValue.{pairs_seen, with_field, with_fields}
use Rattle.values.proofs.pair_table.insert_each.Goals as goal

pub loop-field-init : goal.loop-field-init
loop-field-init c =
    let turns = c.args.turns.items in
    let seen = pairs_seen c.args.pairs.now.entries in
    let turned : reverse (texts_of c.reverse.new.self.items) ≡ texts_of turns =
    ap (λ l. reverse (texts_of l)) c.reverse.ensures.items ∙ ap reverse (map-reverse (λ t. t.items) turns)
    ∙ reverse-reverse (texts_of turns) in
    record {
      set = ap (λ l. with_fields seen (pairs_of l)) turned;
      room = omega (arith, ap length c.reverse.ensures.items, length-reverse turns, c.requires);
      bound = omega arith;
    }

pub loop-field-preserved : goal.loop-field-preserved
loop-field-preserved c =
    let before = c.loop-field.turns.items in
    let between = c.pop.new.self.items in
    let after = c.pop-in-loop-field.new.self.items in
    let field = c.in-Some-Some.field in
    let value = c.in-Some-Some.value in
    let seen = pairs_seen c.loop-field.pairs.entries in
    let turn : reverse (texts_of before) ≡ field.items ∷ value.items ∷ reverse (texts_of after) =
    ap (λ l. reverse (texts_of l)) c.in-Some-Some.ensures.items ∙ reverse-map_pushed (λ t. t.items) between field
    ∙ ap (λ l. field.items ∷ reverse (texts_of l)) c.in-Some-Some.ensures'.items
    ∙ ap (λ l. field.items ∷ l) (reverse-map_pushed (λ t. t.items) after value) in
    let set_here : pairs_seen c.set.new.pairs.entries ≡ with_field seen field.items value.items =
    c.in-Ok.ensures.ok in
    record {
      set =
          ap (λ ps. with_fields ps (pairs_of (reverse (texts_of after)))) set_here
          ∙ ap (λ l. with_fields seen (pairs_of l)) (sym turn) ∙ c.loop-field.invariant.set;
      room = omega (
        arith,
        ap length c.in-Some-Some.ensures.items,
        length-append between (field ∷ []),
        ap length c.in-Some-Some.ensures'.items,
        length-append after (value ∷ []),
        c.loop-field.invariant.room,
        c.in-Ok.ensures.spare,
      );
      bound = omega (arith, c.in-Ok.ensures.bound, c.loop-field.invariant.bound);
    }
