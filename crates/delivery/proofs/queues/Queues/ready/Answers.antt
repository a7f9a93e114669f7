use Rattle.std.proofs.Common.{◌≡◌, ◌++◌, List, [], length, sym, ap, ◌∙◌, subst, arith}
use Rattle.std.proofs.lemmas.Bool.{false≢true}
use Rattle.std.specs.List.Sorted.{IsPermutation}
use Rattle.skeen_core.specs.declared.packet.Delivered.{Delivered}
use Rattle.delivery.specs.Ready.{IsReady, IsLayer}
use Rattle.delivery.specs.Queues.{QueueView, queue_of, requests_of}
use Rattle.delivery.specs.Runs.{runs_of}
use Rattle.delivery.proofs.Rows.{same_queues}
use Rattle.delivery.proofs.Counting.{as_few, none_ready}
use Rattle.delivery.proofs.LinedUp.{ready_layer, sorted_layer}
use Rattle.delivery.proofs.queues.Queues.ready.Goals as goal

pub returns-in_err-layer-clause-succeeds : goal.returns-in_err-layer-clause-succeeds
returns-in_err-layer-clause-succeeds c = λ none.
    let qs = c.self.inside.queues.items in
    let same = same_queues qs c.args.self.now c.self.view_is in
    let no_one : c.self.inside.ready.items ≡ [] =
    none_ready (queue_of (requests_of qs)) c.self.inside.ready.items c.self.invariant.counted.ready
    (λ d r. none d (subst (λ l. IsReady (queue_of l) d) same r)) in
    let heads : c.deref-2.result.now ≡ [] = c.deref-2.ensures.value ∙ no_one in
    let long = ap (λ (ds : List Delivered). length (runs_of (queue_of (requests_of c.deref.result.now)) ds)) heads in
    let counted = c.count_runs-count.ensures in
    let zero : c.count_runs-count.result ≡ 0 = omega arith in
    absurd (false≢true (c.in_err-layer.ensures.succeeds zero))

pub returns-then-count-len-clause-layer : goal.returns-then-count-len-clause-layer
returns-then-count-len-clause-layer c =
    let qs = c.self.inside.queues.items in
    let ds = c.self.inside.ready.items in
    let queue = queue_of (requests_of qs) in
    let few = as_few (requests_of qs) ds c.self.invariant.counted.ready in
    let most = c.self.invariant.few in
    let counted = c.count_runs-count.ensures in
    let taken : length (runs_of (queue_of (requests_of c.deref.result.now)) c.deref-2.result.now) ≡ length (runs_of queue ds) =
    ap (λ (l : List QueueView). length (runs_of (queue_of (requests_of l)) c.deref-2.result.now)) c.deref.ensures.value
    ∙ ap (λ (l : List Delivered). length (runs_of queue l)) c.deref-2.ensures.value in
    let as_many : c.count_runs-count.result ≡ length ds = c.if-count-len.true ∙ c.len.ensures ∙ c.self.inside.ready.ok.0 in
    let same : length (runs_of queue ds) ≡ length ds = omega arith in
    let is : c.extend_from_slice.new.self.items ≡ ds =
    c.in_ok-extend_from_slice.ensures.items ∙ ap (λ (l : List Delivered). l ++ c.as_slice.result.now) c.in_ok-layer.ensures.items
    ∙ c.as_slice.ensures.value in
    subst (λ l. IsLayer (queue_of l) c.extend_from_slice.new.self.items) (same_queues qs c.args.self.now c.self.view_is)
    (subst (λ l. IsLayer queue l) (sym is) (ready_layer queue ds c.self.invariant.sound c.self.invariant.counted.ready same))

pub returns-in_err-append_runs-clause-succeeds : goal.returns-in_err-append_runs-clause-succeeds
returns-in_err-append_runs-clause-succeeds c = λ none.
    let qs = c.self.inside.queues.items in
    let same = same_queues qs c.args.self.now c.self.view_is in
    let no_one : c.self.inside.ready.items ≡ [] =
    none_ready (queue_of (requests_of qs)) c.self.inside.ready.items c.self.invariant.counted.ready
    (λ d r. none d (subst (λ l. IsReady (queue_of l) d) same r)) in
    let heads : c.deref-2.result.now ≡ [] = c.deref-2.ensures.value ∙ no_one in
    let long = ap (λ (ds : List Delivered). length (runs_of (queue_of (requests_of c.deref.result.now)) ds)) heads in
    let counted = c.count_runs-count.ensures in
    let len : c.len.result ≡ 0 = c.len.ensures ∙ c.self.inside.ready.ok.0 ∙ ap (λ (ds : List Delivered). length ds) no_one in
    absurd (c.if-count-len.false (omega arith))

pub returns-clause-layer : goal.returns-clause-layer
returns-clause-layer c =
    let qs = c.self.inside.queues.items in
    let ds = c.self.inside.ready.items in
    let queue = queue_of (requests_of qs) in
    let appended : c.append_runs.new.layer.items ≡ runs_of queue ds =
    c.in_ok-append_runs.ensures
    ∙ ap (λ (l : List Delivered). l ++ runs_of (queue_of (requests_of c.deref-3.result.now)) c.deref-4.result.now)
    c.in_ok-layer.ensures.items
    ∙ ap (λ (l : List QueueView). runs_of (queue_of (requests_of l)) c.deref-4.result.now) c.deref-3.ensures.value
    ∙ ap (λ (l : List Delivered). runs_of queue l) c.deref-4.ensures.value in
    subst (λ l. IsLayer (queue_of l) c.sort_by_stamp.new.requests.items) (same_queues qs c.args.self.now c.self.view_is)
    (sorted_layer queue ds c.sort_by_stamp.new.requests.items c.self.invariant.sound c.self.invariant.counted.ready
    (subst (λ (l : List Delivered). IsPermutation l c.sort_by_stamp.new.requests.items) appended c.sort_by_stamp.ensures.permutation)
    c.sort_by_stamp.ensures.sorted)
