use Rattle.std.proofs.Common.{◌≡◌, ◌+◌, ◌++◌, [], ◌∷◌, Some, map, take, ap, sym, ◌∙◌, arith, append_assoc}
use Rattle.std.proofs.lemmas.List.{map_push, take_more}
use Rattle.resp.specs.Bulks.{bulk_text}
use Rattle.resp.proofs.Bulks.{bulks_more}
use Rattle.resp.proofs.bulk_texts.BulkTexts.with_all.Goals as goal

pub overflow_add-count : goal.overflow_add-count
overflow_add-count c =
    let put : c.put_bulk.new.out.items ≡ c.loop-item.text.items ++ bulk_text (Some c.as_slice.result.now) =
    c.in_ok-put_bulk.ensures.ok ∙ simp append_assoc in
    let more = bulks_more c.loop-item.count c.loop-item.text.items c.put_bulk.new.out.items (Some c.as_slice.result.now)
    c.loop-item.invariant.texts put (omega (arith, c.put_bulk.new.out.ok)) in
    omega (arith, more.2)

pub loop-item-preserved : goal.loop-item-preserved
loop-item-preserved c =
    let item = c.item-item.result in
    let items = c.args.items.now in
    let i = c.loop-item.item-index in
    let goes : c.put_bulk.new.out.items ≡ c.loop-item.text.items ++ bulk_text (Some c.as_slice.result.now) =
    c.in_ok-put_bulk.ensures.ok ∙ simp append_assoc in
    let put : c.put_bulk.new.out.items ≡ c.loop-item.text.items ++ bulk_text (Some item.items) =
    goes ∙ ap (λ bytes. c.loop-item.text.items ++ bulk_text (Some bytes)) c.as_slice.ensures.value in
    let more = bulks_more c.loop-item.count c.loop-item.text.items c.put_bulk.new.out.items (Some item.items)
    c.loop-item.invariant.texts put (omega (arith, c.put_bulk.new.out.ok)) in
    let goes_on : take (i + 1) items ≡ take i items ++ item ∷ [] =
    take_more items i item c.loop-item-test.true ∙ ap (λ x. take i items ++ x ∷ []) (sym c.item-item.is) in
    record {
      texts = more.1;
      read =
          more.0 ∙ ap (λ l. l ++ Some item.items ∷ []) c.loop-item.invariant.read
          ∙ append_assoc c.args.self (map (λ it. Some it.items) (take i items)) (Some item.items ∷ [])
          ∙ ap (λ l. c.args.self ++ l) (sym (ap (map (λ it. Some it.items)) goes_on ∙ map_push (λ it. Some it.items) (take i items) item));
    }
