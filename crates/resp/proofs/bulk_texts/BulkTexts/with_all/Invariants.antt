use Rattle.std.proofs.Common.{◌≡◌, ◌++◌, Some, map, take}
use Rattle.std.specs.List.{flat_map}
use Rattle.resp.specs.Bulks.{bulk_text, bulks_at}
use Rattle.resp.proofs.bulk_texts.BulkTexts.with_all.Given as goal

-- the texts are of these, and of the items so far
abbrev pub invariant-loop-item : goal.invariant-loop-item
invariant-loop-item l = record {
  texts : l.text.items ≡ flat_map bulk_text (bulks_at l.count l.text.items);
  read : bulks_at l.count l.text.items ≡ l.fn.self ++ map (λ item. Some item.items) (take l.item-index l.items);
}
