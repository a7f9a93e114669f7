use Rattle.std.proofs.Common.{ℕ, ◌<◌, List, [], ◌∷◌, ◌++◌, length, sym, ap, ◌∙◌, subst, arith}
use Rattle.std.proofs.lemmas.List.{length-set}
use Rattle.skeen_core.specs.declared.packet.Delivered.{Delivered}
use Rattle.delivery.specs.Queues.{QueuesView, queue_of}
use Rattle.layer_tests.specs.Seen.{AreSeen, GoesWithAll}
use Rattle.layer_tests.proofs.Seen.{may_append, seen_more, seen_appended}
use Rattle.layer_tests.proofs.queue_runs.Fed.deliver.Goals as goal

pub append-requires-clause-may_append : goal.append-requires-clause-may_append
append-requires-clause-may_append c =
    let goes = subst (λ (l : List (ℕ × Delivered)). GoesWithAll l c.args.group c.args.request.now) c.as_slice.ensures.value
    (c.may_come.ensures c.if-not-may_come.false) in
    may_append c.self.inside.seen.items c.self.inside.queues.queues c.args.group c.args.request.now c.self.invariant.1 goes
    (sym c.contains.ensures ∙ c.if-not-contains.false)

pub invariant_of-self : goal.invariant_of-self
invariant_of-self c = (
  c.self.invariant.0,
  subst (λ (l : List (ℕ × Delivered)). AreSeen l c.self.inside.queues.queues) (sym c.in_err-push.ensures.items) c.self.invariant.1,
)

pub invariant_of-self-in_err-append : goal.invariant_of-self-in_err-append
invariant_of-self-in_err-append c =
    let more = seen_more c.self.inside.seen.items (c.args.group, c.args.request.now) c.self.inside.queues.queues c.self.invariant.1 in
    let same = ap (λ (q : QueuesView). q.queues) c.in_err-append.ensures.unchanged in (
      ap (λ (l : List (List Delivered)). length l) same ∙ c.self.invariant.0,
      subst (λ (l : List (ℕ × Delivered)). AreSeen l c.append.new.self.queues) (sym c.in_ok-push.ensures.items)
          (subst (λ (l : List (List Delivered)). AreSeen (c.self.inside.seen.items ++ (c.args.group, c.args.request.now) ∷ []) l)
          (sym same) more),
    )

pub invariant_of-self-2 : goal.invariant_of-self-2
invariant_of-self-2 c =
    let qs = c.self.inside.queues.queues in
    let four = c.self.invariant.0 in
    let low : c.args.group < length qs = let below = c.requires in omega arith in
    let is = c.in_ok-append.ensures.appended in (
      ap (λ (l : List (List Delivered)). length l) is
          ∙ length-set qs c.args.group (queue_of qs c.args.group ++ c.args.request.now ∷ []) ∙ four,
      subst (λ (l : List (ℕ × Delivered)). AreSeen l c.append.new.self.queues) (sym c.in_ok-push.ensures.items)
          (seen_appended c.self.inside.seen.items qs c.append.new.self.queues c.args.group c.args.request.now low is c.self.invariant.1),
    )
