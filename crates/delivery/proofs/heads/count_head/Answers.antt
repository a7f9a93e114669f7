use Rattle.std.proofs.Common.{List, length, ap, arith}
use Rattle.delivery.specs.declared.heads.Heading.{Heading}
use Rattle.delivery.proofs.Apart.{no_longer}
use Rattle.delivery.proofs.heads.count_head.Goals as goal

pub push_reserved-requires : goal.push_reserved-requires
push_reserved-requires c =
    let taken = c.take_count-count in
    let left = no_longer (λ (h : Heading). h.id) c.args.request.now.id c.args.partly.now.items in
    let same = ap (λ (hs : List Heading). length hs) taken.ensures.items in
    let long = taken.new.partly.ok.0 in
    let was = c.args.partly.now.ok.0 in
    omega (arith, taken.ensures.capacity, c.requires.partly_room)
