use Rattle.std.proofs.Common.{◌≡◌, ◌++◌, Some, arith, append_assoc, ◌∙◌}
use Rattle.resp.specs.Bulks.{bulk_text}
use Rattle.resp.proofs.Bulks.{bulks_more}
use Rattle.resp.proofs.bulk_texts.BulkTexts.push.Goals as goal

pub overflow_add-self : goal.overflow_add-self
overflow_add-self c =
    let put : c.put_bulk.new.out.items ≡ c.self.inside.text.items ++ bulk_text (Some c.args.bytes.now) =
    c.in_ok-put_bulk.ensures.ok ∙ simp append_assoc in
    let more = bulks_more c.self.inside.count c.self.inside.text.items c.put_bulk.new.out.items (Some c.args.bytes.now) c.self.invariant
    put (omega (arith, c.put_bulk.new.out.ok)) in
    omega (arith, more.2)

pub invariant_of-self-2 : goal.invariant_of-self-2
invariant_of-self-2 c =
    let put : c.put_bulk.new.out.items ≡ c.self.inside.text.items ++ bulk_text (Some c.args.bytes.now) =
    c.in_ok-put_bulk.ensures.ok ∙ simp append_assoc in
    (bulks_more c.self.inside.count c.self.inside.text.items c.put_bulk.new.out.items (Some c.args.bytes.now) c.self.invariant
    put (omega (arith, c.put_bulk.new.out.ok))).1

pub returns-clause-ok : goal.returns-clause-ok
returns-clause-ok c =
    let put : c.put_bulk.new.out.items ≡ c.self.inside.text.items ++ bulk_text (Some c.args.bytes.now) =
    c.in_ok-put_bulk.ensures.ok ∙ simp append_assoc in
    rw (← c.self.view_is)
    (bulks_more c.self.inside.count c.self.inside.text.items c.put_bulk.new.out.items (Some c.args.bytes.now) c.self.invariant
    put (omega (arith, c.put_bulk.new.out.ok))).0
