use Rattle.std.proofs.Common.{◌≡◌, map, take}
use Rattle.std.specs.Option.{option_copied}
use Rattle.resp.proofs.bulk_texts.BulkTexts.copy_of.Given as goal

-- the items read so far are written
abbrev pub invariant-loop-item : goal.invariant-loop-item
invariant-loop-item l = l.texts ≡ map option_copied (take l.item-index l.items)
