use Rattle.std.proofs.Common.{◌<◌, length, sym, ap, ◌∙◌, subst}
use Rattle.std.specs.List.{AllByRecursion}
use Rattle.shard_exec.specs.Dealing.{placed, jobs_of, spans_of, all_jobs, all_spans, all_rans, AreInside}
use Rattle.shard_exec.proofs.DealtLaws.{all_first, jobs_of-append, spans_of-append, put_spans-append}
use Rattle.shard_exec.proofs.Slots.{placed-append}
use Rattle.shards.specs.Rows.{put_spans}
use Rattle.shard_exec.proofs.dealt_run.put_all.Goals as goal

pub put_load-requires-clause-shards : goal.put_load-requires-clause-shards
put_load-requires-clause-shards c =
    let is = c.in-Some.ensures.steps.0 in let rans = c.in-Some.rans.items in let rest = all_rans c.next.new.self.rest.items in
    subst (λ n. AllByRecursion (AllByRecursion (λ s. s.0 < n)) (spans_of rans)) (sym c.loop-rans.invariant.len)
    (all_first _ (spans_of rans) (spans_of rest)
    (subst (AllByRecursion (AllByRecursion (λ s. s.0 < length c.args.row.now.items))) (ap all_spans is ∙ spans_of-append rans rest)
    c.loop-rans.invariant.shards)).0

pub put_load-requires-clause-places : goal.put_load-requires-clause-places
put_load-requires-clause-places c =
    let is = c.in-Some.ensures.steps.0 in let rans = c.in-Some.rans.items in let rest = all_rans c.next.new.self.rest.items in
    subst (λ n. AreInside n (jobs_of rans)) (sym c.loop-rans.invariant.len_slots)
    (all_first _ (jobs_of rans) (jobs_of rest)
    (subst (AreInside (length c.args.slots.items)) (ap all_jobs is ∙ jobs_of-append rans rest) c.loop-rans.invariant.places)).0

pub loop-rans-preserved : goal.loop-rans-preserved
loop-rans-preserved c =
    let is = c.in-Some.ensures.steps.0 in let rans = c.in-Some.rans.items in let rest = all_rans c.next.new.self.rest.items in
    let inv = c.loop-rans.invariant in let row = c.loop-rans.row.items in let slots = c.loop-rans.slots.items in
    record {
      row = ap (λ r. put_spans r (spans_of rest)) c.put_load.ensures.row ∙ sym (put_spans-append row (spans_of rans) (spans_of rest))
          ∙ ap (put_spans row) (sym (ap all_spans is ∙ spans_of-append rans rest)) ∙ inv.row;
      placed = ap (λ s. placed s (jobs_of rest)) c.put_load.ensures.placed ∙ sym (placed-append slots (jobs_of rans) (jobs_of rest))
          ∙ ap (placed slots) (sym (ap all_jobs is ∙ jobs_of-append rans rest)) ∙ inv.placed;
      shards = (all_first _ (spans_of rans) (spans_of rest)
          (subst (AllByRecursion (AllByRecursion (λ s. s.0 < length c.args.row.now.items))) (ap all_spans is ∙ spans_of-append rans rest)
          inv.shards)).1;
      places = (all_first _ (jobs_of rans) (jobs_of rest)
          (subst (AreInside (length c.args.slots.items)) (ap all_jobs is ∙ jobs_of-append rans rest) inv.places)).1;
      len = c.put_load.ensures.len ∙ inv.len;
      len_slots = c.put_load.ensures.len_slots ∙ inv.len_slots;
    }
