use Rattle.std.proofs.Common.{◌≡◌, ◌+◌, ◌∷◌, drop, ap, sym, ◌∙◌, arith}
use Rattle.texts.specs.Texts.{texts_of}
use Rattle.values.proofs.Mapped.{map-drop_turn}
use Rattle.values.specs.HashValue.{pairs_seen, without_field, without_fields}
use Rattle.values.proofs.pair_table.remove_in_turn.Goals as goal

pub loop-field-preserved : goal.loop-field-preserved
loop-field-preserved c =
    let fields = c.args.fields.now in
    let i = c.loop-field.field-index in
    let field = c.as_slice.result.now in
    let rest = texts_of (drop (i + 1) fields) in
    let seen = pairs_seen c.loop-field.pairs.entries in
    let turn : texts_of (drop i fields) ≡ field ∷ rest =
    map-drop_turn (λ t. t.items) fields i c.field-item.result c.loop-field-test.true c.field-item.is
    ∙ ap (λ t. t ∷ rest) (sym c.as_slice.ensures.value) in
    let removed : pairs_seen c.remove.new.pairs.entries ≡ without_field seen field =
    c.remove.ensures.left in
    record {
      left =
          ap (λ ps. without_fields ps rest) removed ∙ ap (without_fields seen) (sym turn) ∙ c.loop-field.invariant.left;
      bound = omega (arith, c.remove.ensures.bound, c.loop-field.invariant.bound);
    }
