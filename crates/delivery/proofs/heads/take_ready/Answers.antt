use Rattle.std.proofs.Common.{ap, ◌∙◌, arith}
use Rattle.std.specs.List.{remove}
use Rattle.skeen_core.specs.declared.packet.Delivered.{Delivered}
use Rattle.delivery.specs.Heads.{place_of}
use Rattle.delivery.proofs.Apart.{removed, none_taken}
use Rattle.delivery.proofs.heads.take_ready.Goals as goal

pub returns-then-place-len-clause-items : goal.returns-then-place-len-clause-items
returns-then-place-len-clause-items c =
    let xs = c.args.ready.now.items in
    c.remove.ensures.items ∙ ap (λ n. remove xs n) (c.place_among-place.ensures
    ∙ ap (λ l. place_of (λ (d : Delivered). d.id) c.args.id l) c.as_slice.ensures.value) ∙ removed (λ (d : Delivered). d.id) c.args.id xs

pub returns-else-place-len-clause-items : goal.returns-else-place-len-clause-items
returns-else-place-len-clause-items c =
    let xs = c.args.ready.now.items in
    let at = c.place_among-place.ensures ∙ ap (λ l. place_of (λ (d : Delivered). d.id) c.args.id l) c.as_slice.ensures.value in
    let long = c.args.ready.now.ok.0 in
    none_taken (λ (d : Delivered). d.id) c.args.id xs (omega arith)
