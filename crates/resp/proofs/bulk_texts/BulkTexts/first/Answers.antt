use Rattle.std.proofs.Common.{◌≡◌, min, ◌+◌, ◌^◌, ◌<◌, ◌++◌, [], ◌∷◌, None, length, map, take, drop, get_or, ap, sym, ◌∙◌, arith}
use Rattle.std.proofs.lemmas.List.{drop_more, map_push, take_min}
use Rattle.std.specs.List.{flat_map}
use Rattle.std.specs.Option.{option_copied}
use Rattle.resp.specs.Bulks.{bulk_text}
use Rattle.resp.proofs.Bulks.{length-bulks_at}
use Rattle.resp.proofs.BulksRead.{first_more}
use Rattle.resp.proofs.bulk_texts.BulkTexts.first.Goals as goal

pub bulk_of-requires : goal.bulk_of-requires
bulk_of-requires c =
    let items = c.args.self.now in let i = c.loop.counter in
    let number = sym (length-bulks_at c.self.inside.count c.self.inside.text.items) ∙ ap length c.self.view_is in
    let within : i < length items = omega (arith, c.min-count.ensures, c.loop-test.true, number) in
    let rest = flat_map bulk_text (drop (i + 1) items) in
    (get_or items i None, rest, c.loop.invariant.left ∙ ap (flat_map bulk_text) (drop_more items i None within))

pub loop-init : goal.loop-init
loop-init c = record {
  read = ap (map option_copied) c.in_ok-items.ensures.items;
  left = c.as_slice-texts.ensures.value ∙ c.self.invariant ∙ ap (flat_map bulk_text) c.self.view_is;
}

pub loop-preserved : goal.loop-preserved
loop-preserved c =
    let items = c.args.self.now in let i = c.loop.counter in
    let item = c.bulk_of.result.0 in
    let number = sym (length-bulks_at c.self.inside.count c.self.inside.text.items) ∙ ap length c.self.view_is in
    let within : i < length items = omega (arith, c.min-count.ensures, c.loop-test.true, number) in
    let same = ap (λ xs. length (flat_map bulk_text xs)) c.self.view_is in
    let fits : length (flat_map bulk_text items) < 2 ^ 64 = omega (arith, same, ap length c.self.invariant, c.self.inside.text.ok) in
    let more = first_more items i c.loop.texts.now (option_copied item) c.bulk_of.result.1.now within fits c.loop.invariant.left
    c.bulk_of.ensures in
    record {
      read =
          ap (map option_copied) c.in_ok-push.ensures.items ∙ map_push option_copied c.loop.items.items item
          ∙ ap (λ xs. xs ++ option_copied item ∷ []) c.loop.invariant.read ∙ sym more.0;
      left = more.1;
    }

pub returns : goal.returns
returns c =
    let items = c.args.self.now in
    let number = sym (length-bulks_at c.self.inside.count c.self.inside.text.items) ∙ ap length c.self.view_is in
    let end : c.loop.counter ≡ min c.args.most (length items) = omega (arith, c.min-count.ensures, c.loop-test.false, number) in
    c.loop.invariant.read ∙ ap (λ n. take n items) end ∙ take_min c.args.most items
