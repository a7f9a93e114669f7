use Rattle.std.proofs.Common.{sym, ◌∙◌, subst, arith, ne_eqb}
use Rattle.std.proofs.lemmas.Bool.{not-true, not_from_false, eqb-false}
use Rattle.delivery.specs.Ready.{IsReady}
use Rattle.delivery.specs.Queues.{queue_of, requests_of}
use Rattle.delivery.proofs.Rows.{same_queues}
use Rattle.delivery.proofs.Counting.{some_ready, ready_some}
use Rattle.delivery.proofs.queues.Queues.has_ready.Goals as goal

pub returns : goal.returns
returns c =
    let qs = c.self.inside.queues.items in
    let same = same_queues qs c.args.self.now c.self.view_is in
    let ds = c.self.inside.ready in
    let long = ds.ok.0 in (
      (λ t.
          let ne = eqb-false ds.len 0 (sym c.is_empty.ensures ∙ not-true c.is_empty.result t) in
          let w = some_ready (queue_of (requests_of qs)) ds.items c.self.invariant.counted.ready (omega arith) in
          (w.0, subst (λ l. IsReady (queue_of l) w.0) same w.1)),
      (λ w.
          let some = ready_some (queue_of (requests_of qs)) ds.items w.0 c.self.invariant.counted.ready
          (subst (λ l. IsReady (queue_of l) w.0) (sym same) w.1) in
          not_from_false c.is_empty.result (c.is_empty.ensures ∙ ne_eqb ds.len 0 (omega arith))),
    )
