use Rattle.std.proofs.Common.{ℕ, [], ◌∷◌, ◌++◌, slice_set, sym, ap, ◌∙◌, subst}
use Rattle.delivery.specs.Queues.{queue_of, MayAppend}
use Rattle.layer_tests.proofs.Seen.{behind_one, behind_two}
use Rattle.layer_tests.proofs.queues.fill.Goals as goal

pub append-requires-2-clause-may_append : goal.append-requires-2-clause-may_append
append-requires-2-clause-may_append c =
    let qs = c.args.queues.now.queues in
    let d = c.args.first.now in
    let e = c.args.second.now in
    let first = c.in_ok-append.ensures.appended ∙ ap (λ k. slice_set qs k (queue_of qs k ++ d ∷ [])) c.new.ensures in
    subst (λ (k : ℕ). MayAppend (queue_of c.append.new.self.queues) k e) (sym c.new-2.ensures)
    (behind_one d e c.requires.order c.requires.differ qs c.append.new.self.queues c.requires.none c.requires.two first c.requires.second)

pub append-requires-3-clause-may_append : goal.append-requires-3-clause-may_append
append-requires-3-clause-may_append c =
    let qs = c.args.queues.now.queues in
    let one = c.append.new.self.queues in
    let d = c.args.first.now in
    let e = c.args.second.now in
    let first = c.in_ok-append.ensures.appended ∙ ap (λ k. slice_set qs k (queue_of qs k ++ d ∷ [])) c.new.ensures in
    let second = c.in_ok-append-2.ensures.appended ∙ ap (λ k. slice_set one k (queue_of one k ++ e ∷ [])) c.new-2.ensures in
    subst (λ (k : ℕ). MayAppend (queue_of c.append-2.new.self.queues) k e) (sym c.new-3.ensures)
    (behind_two d e c.requires.order c.requires.differ qs one c.requires.none c.requires.two first c.append-2.new.self.queues second
    c.requires.second_elsewhere)
