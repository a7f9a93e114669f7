use Rattle.std.proofs.Common.{rules, ◌≡◌, List, [], refl, subst, sym, ◌∙◌}
use Rattle.router.specs.Submitting.{IsAsBefore, TakesOut}
use Rattle.router.proofs.Alone.{one_is_out, is_kept, waits_again}
use Rattle.worded.specs.declared.worded.Worded.{Worded}
use Rattle.front.proofs.passing.send.Goals as goal
use Rattle.front.proofs.passing.send.Goals.{in-Some, in_default}

pub put_back-requires : goal.put_back-requires
put_back-requires c =
    let r = c.requires.taken.0 in let now = c.args.router.now in let id = c.args.sent.now.id in let items = c.args.asked.now.items in
    let one = one_is_out r now id items c.pop.new.self.items c.in-Some.asked c.requires.taken.1 c.in-Some.ensures.items in
    is_kept r now id c.in-Some.asked (subst (λ (list : List Worded). TakesOut r id list now) one c.requires.taken.1)

pub returns-clause-as_before : goal.returns-clause-as_before
returns-clause-as_before c = λ r takes.
    let now = c.args.router.now in let id = c.args.sent.now.id in let items = c.args.asked.now.items in
    elim c.match-pop.branch [
      | in-Some w ↦
          let one = one_is_out r now id items c.pop.new.self.items w.in-Some.asked takes w.in-Some.ensures.items in
          let out = subst (λ (list : List Worded). TakesOut r id list now) one takes in
          subst (λ it. IsAsBefore r it) (sym w.router-is)
          (waits_again r now w.put_back.new.self id w.in-Some.asked out w.put_back.ensures)
      | in_default w ↦
          let none : items ≡ [] = search rules in
          let out = subst (λ (list : List Worded). TakesOut r id list now) none takes in
          subst (λ it. IsAsBefore r it) (sym (w.router-is ∙ out.1)) (record { opened = refl; at = λ d. refl; sessions = refl })
    ]
