use Rattle.std.proofs.Common.{Some, ap, sym, ◌∙◌}
use Rattle.std.specs.Option.{option_map}
use Rattle.values.proofs.PairsSeen.{lookup-seen, insert-seen}
use Rattle.values.specs.HashValue.{pairs_seen, field_value, with_field}
use Rattle.values.proofs.pair_table.insert.Goals as goal

pub returns-in-Ok-Some-clause-before : goal.returns-in-Ok-Some-clause-before
returns-in-Ok-Some-clause-before c =
    let entries = c.args.pairs.now.entries in
    ap Some c.from.ensures ∙ ap (option_map (λ v. v.items)) (sym c.in-Ok-Some.field-0-is ∙ c.in-Ok-Some.ensures.old)
    ∙ lookup-seen c.from-key.result entries ∙ ap (field_value (pairs_seen entries)) c.from-key.ensures

pub returns-in-Ok-None-clause-before : goal.returns-in-Ok-None-clause-before
returns-in-Ok-None-clause-before c =
    let entries = c.args.pairs.now.entries in
    ap (option_map (λ v. v.items)) (sym c.in-Ok-None.field-0-is ∙ c.in-Ok-None.ensures.old)
    ∙ lookup-seen c.from-key.result entries ∙ ap (field_value (pairs_seen entries)) c.from-key.ensures

pub returns-in-Ok-Some-clause-ok : goal.returns-in-Ok-Some-clause-ok
returns-in-Ok-Some-clause-ok c =
    let entries = c.args.pairs.now.entries in
    ap pairs_seen c.in-Ok-Some.ensures.entries ∙ insert-seen c.from-key.result c.args.value entries
    ∙ ap (λ field. with_field (pairs_seen entries) field c.args.value.items) c.from-key.ensures

pub returns-in-Ok-None-clause-ok : goal.returns-in-Ok-None-clause-ok
returns-in-Ok-None-clause-ok c =
    let entries = c.args.pairs.now.entries in
    ap pairs_seen c.in-Ok-None.ensures.entries ∙ insert-seen c.from-key.result c.args.value entries
    ∙ ap (λ field. with_field (pairs_seen entries) field c.args.value.items) c.from-key.ensures

pub returns-clause-absent : goal.returns-clause-absent
returns-clause-absent c =
    let entries = c.args.pairs.now.entries in
    ap (field_value (pairs_seen entries)) (sym c.from-key.ensures) ∙ sym (lookup-seen c.from-key.result entries)
    ∙ ap (option_map (λ v. v.items)) c.in-Err.ensures.absent
