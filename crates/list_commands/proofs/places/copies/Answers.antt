use Rattle.std.proofs.Common.{◌++◌, Some, map, sym, ap, ◌∙◌}
use Rattle.std.proofs.lemmas.List.{map-append}
use Rattle.std.proofs.lemmas.Simd.{map-map}
use Rattle.list_commands.proofs.places.copies.Goals as goal

-- the copies are those of the two slices, which are the items
pub returns : goal.returns
returns c =
    let head = c.slices.result.0.now in
    let tail = c.slices.result.1.now in
    c.in_ok-with_all.ensures
    ∙ ap (λ l. l ++ map (λ item. Some item.items) tail)
    (c.in_ok-texts.ensures ∙ ap (λ l. l ++ map (λ item. Some item.items) head) c.in_ok-with_room.ensures.none)
    ∙ sym (map-append (λ item. Some item.items) head tail) ∙ sym (map-map Some (λ item. item.items) (head ++ tail))
    ∙ ap (map Some) c.slices.ensures
