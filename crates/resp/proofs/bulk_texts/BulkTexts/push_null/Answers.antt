use Rattle.std.proofs.Common.{None, arith}
use Rattle.resp.proofs.Bulks.{bulks_more}
use Rattle.resp.proofs.bulk_texts.BulkTexts.push_null.Goals as goal

pub overflow_add-self : goal.overflow_add-self
overflow_add-self c =
    let more = bulks_more c.self.inside.count c.self.inside.text.items c.extend_from_slice.new.self.items None c.self.invariant
    c.in_ok-extend_from_slice.ensures.items (omega (arith, c.extend_from_slice.new.self.ok)) in
    omega (arith, more.2)

pub invariant_of-self-2 : goal.invariant_of-self-2
invariant_of-self-2 c =
    (bulks_more c.self.inside.count c.self.inside.text.items c.extend_from_slice.new.self.items None c.self.invariant
    c.in_ok-extend_from_slice.ensures.items (omega (arith, c.extend_from_slice.new.self.ok))).1

pub returns-clause-ok : goal.returns-clause-ok
returns-clause-ok c =
    rw (← c.self.view_is)
    (bulks_more c.self.inside.count c.self.inside.text.items c.extend_from_slice.new.self.items None c.self.invariant
    c.in_ok-extend_from_slice.ensures.items (omega (arith, c.extend_from_slice.new.self.ok))).0
