use Rattle.std.proofs.Common.{◌≡◌, map, take, drop}
use Rattle.std.specs.List.{flat_map}
use Rattle.std.specs.Option.{option_copied}
use Rattle.resp.specs.Bulks.{bulk_text}
use Rattle.resp.proofs.bulk_texts.BulkTexts.first.Given as goal

-- so many are read, and the others' texts are left
abbrev pub invariant-loop : goal.invariant-loop
invariant-loop l = record {
  read : map option_copied l.items.items ≡ take l.counter l.self;
  left : l.texts ≡ flat_map bulk_text (drop l.counter l.self);
}
