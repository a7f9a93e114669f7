use Rattle.std.proofs.Common.{◌<◌, length, sym, ap, ◌∙◌, subst}
use Rattle.std.specs.List.{AllByRecursion}
use Rattle.shard_exec.specs.Dealing.{placed, jobs_of, spans_of, AreInside}
use Rattle.shard_exec.proofs.DealtLaws.{all_first}
use Rattle.shard_exec.proofs.Slots.{placed-append}
use Rattle.shards.specs.Rows.{put_spans}
use Rattle.shard_exec.proofs.dealt_run.put_load.Goals as goal

pub put_back-requires : goal.put_back-requires
put_back-requires c =
    let is = c.in-Some.ensures.steps.0 in
    subst (λ n. AllByRecursion (λ s. s.0 < n) c.in-Some.ran.shards.items) (sym c.loop-ran.invariant.len)
    (subst (AllByRecursion (AllByRecursion (λ s. s.0 < length c.args.row.now.items))) (ap spans_of is) c.loop-ran.invariant.shards).0

pub place_rans-requires : goal.place_rans-requires
place_rans-requires c =
    let is = c.in-Some.ensures.steps.0 in let jobs = c.in-Some.ran.jobs.items in
    subst (λ n. AreInside n jobs) (sym c.loop-ran.invariant.len_slots)
    (all_first _ jobs (jobs_of c.next.new.self.rest.items)
    (subst (AreInside (length c.args.slots.now.items)) (ap jobs_of is) c.loop-ran.invariant.places)).0

pub loop-ran-preserved : goal.loop-ran-preserved
loop-ran-preserved c =
    let is = c.in-Some.ensures.steps.0 in let jobs = c.in-Some.ran.jobs.items in let rest = c.next.new.self.rest.items in
    let inv = c.loop-ran.invariant in let row = c.loop-ran.row.items in let slots = c.loop-ran.slots.items in
    record {
      row = ap (λ r. put_spans r (spans_of rest)) c.put_back.ensures.row ∙ ap (λ l. put_spans row (spans_of l)) (sym is) ∙ inv.row;
      placed = ap (λ s. placed s (jobs_of rest)) c.place_rans.ensures.placed ∙ sym (placed-append slots jobs (jobs_of rest))
          ∙ ap (λ l. placed slots (jobs_of l)) (sym is) ∙ inv.placed;
      shards = (subst (AllByRecursion (AllByRecursion (λ s. s.0 < length c.args.row.now.items))) (ap spans_of is) inv.shards).1;
      places = (all_first _ jobs (jobs_of rest) (subst (AreInside (length c.args.slots.now.items)) (ap jobs_of is) inv.places)).1;
      len = c.put_back.ensures.len ∙ inv.len;
      len_slots = c.place_rans.ensures.len ∙ inv.len_slots;
    }
