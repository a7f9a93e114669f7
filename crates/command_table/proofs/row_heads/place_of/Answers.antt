use Rattle.std.proofs.Common.{Err, sym, ap, ◌∙◌}
use Rattle.std.specs.Str.{bytes_eq}
use Rattle.command_table.specs.declared.refusal.Refusal.TheVariants.{Arity}
use Rattle.command_table.proofs.RowHeads.{found_at, refused_at, later_than}
use Rattle.command_table.proofs.row_heads.place_of.Goals as goal

pub returns-then-admits : goal.returns-then-admits
returns-then-admits c =
    let found = found_at c.args.heads.now c.loop-place.place _ c.args.name.now c.args.words c.loop-place-test.true
    (ap (bytes_eq c.args.name.now) (sym c.as_bytes.ensures.value) ∙ sym c.eq.ensures ∙ c.if-eq.true)
    (sym c.admits.ensures ∙ c.if-admits.true) in
    sym (c.loop-place.invariant ∙ found)

pub returns-then-eq : goal.returns-then-eq
returns-then-eq c =
    let refused = refused_at c.args.heads.now c.loop-place.place _ c.args.name.now c.args.words c.loop-place-test.true
    (ap (bytes_eq c.args.name.now) (sym c.as_bytes.ensures.value) ∙ sym c.eq.ensures ∙ c.if-eq.true)
    (sym c.admits.ensures ∙ c.if-admits.false) in
    ap (λ name. Err (Arity name)) c.of.ensures ∙ sym (c.loop-place.invariant ∙ refused)

pub loop-place-preserved : goal.loop-place-preserved
loop-place-preserved c =
    let later = later_than c.args.heads.now c.loop-place.place _ c.args.name.now c.args.words c.loop-place-test.true
    (ap (bytes_eq c.args.name.now) (sym c.as_bytes.ensures.value) ∙ sym c.eq.ensures ∙ c.if-eq.false) in
    c.loop-place.invariant ∙ later
