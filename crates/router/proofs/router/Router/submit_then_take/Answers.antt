use Rattle.std.proofs.Common.{◌≡◌, List, [], ◌∷◌, ◌++◌, ◌∙◌, ap, subst, sym}
use Rattle.worded.specs.declared.worded.Worded.{Worded}
use Rattle.router.specs.Submitting.{TakesOut}
use Rattle.router.proofs.router.Router.submit_then_take.Goals as goal
use Rattle.router.proofs.router.Router.submit_then_take.Goals.{in-Some, in_default}

pub returns-clause-submitted : goal.returns-clause-submitted
returns-clause-submitted c =
    let id = c.in_ok-sent.sent.id in let mid = c.submit.new.self in let new = c.take.new.self in
    record {
      mid = mid;
      submits = c.in_ok-sent.ensures.submitted;
      takes = elim c.match-take.branch [
        | in-Some w ↦
            let one : c.match-take.taken.items ≡ w.in-Some.asked ∷ [] = ap (λ v. v.items) w.taken-is ∙ w.push_reserved.ensures.items
            ∙ ap (λ (items : List Worded). items ++ w.in-Some.asked ∷ []) c.requires.room.0 in
            subst (λ items. TakesOut mid id items new) (sym one) (sym c.take.ensures.taken ∙ w.in-Some.is, w.in-Some.ensures.changes)
        | in_default w ↦
            let none : c.match-take.taken.items ≡ [] = ap (λ v. v.items) w.taken-is ∙ c.requires.room.0 in
            subst (λ items. TakesOut mid id items new) (sym none)
            (sym c.take.ensures.taken ∙ w.in_default.is, w.in_default.ensures.unchanged)
      ];
    }
