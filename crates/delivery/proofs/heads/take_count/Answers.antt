use Rattle.std.proofs.Common.{◌≡◌, slice_index_or, sym, ap, ◌∙◌, arith}
use Rattle.std.specs.List.{remove}
use Rattle.delivery.specs.Heads.{place_of}
use Rattle.delivery.specs.declared.heads.Heading.{Heading}
use Rattle.delivery.proofs.Apart.{removed, none_taken, counted_past, counted_at}
use Rattle.delivery.proofs.heads.take_count.Goals as goal

pub returns-then-place-len-clause-count : goal.returns-then-place-len-clause-count
returns-then-place-len-clause-count c =
    let xs = c.args.partly.now.items in
    let i = c.args.id in
    let is : c.place_counted-place.result ≡ place_of (λ (h : Heading). h.id) i xs =
    c.place_counted-place.ensures ∙ ap (λ l. place_of (λ (h : Heading). h.id) i l) c.as_slice.ensures.value in
    let long = c.args.partly.now.ok.0 in
    ap (λ (h : Heading). h.count) (c.remove.ensures.value ∙ ap (λ n. slice_index_or xs n c.remove.result) is)
    ∙ counted_at xs i c.remove.result (omega arith)

pub returns-then-place-len-clause-items : goal.returns-then-place-len-clause-items
returns-then-place-len-clause-items c =
    let xs = c.args.partly.now.items in
    c.remove.ensures.items ∙ ap (λ n. remove xs n) (c.place_counted-place.ensures
    ∙ ap (λ l. place_of (λ (h : Heading). h.id) c.args.id l) c.as_slice.ensures.value) ∙ removed (λ (h : Heading). h.id) c.args.id xs

pub returns-else-place-len-clause-count : goal.returns-else-place-len-clause-count
returns-else-place-len-clause-count c =
    let xs = c.args.partly.now.items in
    let is = c.place_counted-place.ensures ∙ ap (λ l. place_of (λ (h : Heading). h.id) c.args.id l) c.as_slice.ensures.value in
    let long = c.args.partly.now.ok.0 in
    sym (counted_past xs c.args.id (omega arith))

pub returns-else-place-len-clause-items : goal.returns-else-place-len-clause-items
returns-else-place-len-clause-items c =
    let xs = c.args.partly.now.items in
    let is = c.place_counted-place.ensures ∙ ap (λ l. place_of (λ (h : Heading). h.id) c.args.id l) c.as_slice.ensures.value in
    let long = c.args.partly.now.ok.0 in
    none_taken (λ (h : Heading). h.id) c.args.id xs (omega arith)
