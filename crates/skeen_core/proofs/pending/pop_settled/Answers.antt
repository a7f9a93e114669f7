use Rattle.std.proofs.Common.{[], ◌∷◌, ◌++◌, length, append_assoc, length-append, refl, sym, ap, ◌∙◌, arith, List}
use Rattle.skeen_core.specs.Pending.{front, forgotten, delivered}
use Rattle.skeen_core.specs.declared.packet.Delivered.{Delivered}
use Rattle.skeen_core.proofs.Fronts.{front_more, front_ends, forget_more, forget_none}
use Rattle.skeen_core.proofs.pending.pop_settled.Goals as goal

pub loop-pending-preserved : goal.loop-pending-preserved
loop-pending-preserved c =
    let d = delivered (c.in-Some.stamp, c.in-Some.request) in
    let rest = front c.pop_first.new.self.entries in
    let more = front_more c.loop-pending.pending.entries (c.in-Some.stamp, c.in-Some.request) c.pop_first.new.self.entries
    c.in-Some.ensures.removal (sym c.first_is_settled.ensures ∙ c.loop-pending-test.true) in
    record {
      delivered = ap (λ l. l ++ rest) c.push_reserved.ensures.items ∙ append_assoc c.loop-pending.delivered.items (d ∷ []) rest
          ∙ ap (λ l. c.loop-pending.delivered.items ++ l) (sym more.0) ∙ c.loop-pending.invariant.delivered;
      pending = sym more.1 ∙ c.loop-pending.invariant.pending;
      proposals = forget_more c.in-Some.request.id d rest c.loop-pending.proposals c.forget.new.self refl c.forget.ensures
          ∙ ap (λ l. forgotten l c.loop-pending.proposals) (sym more.0) ∙ c.loop-pending.invariant.proposals;
      room =
          let room = c.loop-pending.invariant.room in
          let same = c.push_reserved.ensures.capacity in
          let pushed = ap (λ (l : List Delivered). length l) c.push_reserved.ensures.items
          ∙ length-append c.loop-pending.delivered.items (d ∷ []) in
          let longer = ap (λ (l : List Delivered). length l) more.0 in
          omega arith;
    }

pub returns-after-loop-pending-clause-proposals : goal.returns-after-loop-pending-clause-proposals
returns-after-loop-pending-clause-proposals c =
    let ends = front_ends c.loop-pending.pending.entries (sym c.first_is_settled.ensures ∙ c.loop-pending-test.false) in
    sym (ap (λ l. forgotten l c.loop-pending.proposals) ends.0 ∙ forget_none c.loop-pending.proposals)
    ∙ c.loop-pending.invariant.proposals
