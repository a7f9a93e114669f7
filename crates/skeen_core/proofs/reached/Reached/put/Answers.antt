use Rattle.std.proofs.Common.{◌≡◌, ℕ, Option, Some, None, IsSome, OnOk, max, refl, sym, ap, ◌∙◌, subst, arith}
use Rattle.std.specs.FinMap.{from_entries, get, insert}
use Rattle.skeen_core.specs.Group.{or_zero}
use Rattle.skeen_core.specs.Reached.{ReachedView}
use Rattle.skeen_core.proofs.Numbers.{get_shown, put_shown}
use Rattle.skeen_core.proofs.reached.Reached.put.Goals as goal

pub returns-in-Some-clause-numbers : goal.returns-in-Some-clause-numbers
returns-in-Some-clause-numbers c =
    let es = c.self.inside.numbers.entries in
    let conn = c.args.id.conn.0 in
    let numbers = c.args.self.now.numbers in
    let holds = c.get_mut.follows.holds c.max.result in
    let there = c.in-Some.ensures.value in
    let was : Some c.in-Some.number.now ≡ get numbers conn =
    there ∙ sym (get_shown es conn) ∙ ap (λ (r : ReachedView). get r.numbers conn) c.self.view_is in
    put_shown es (c.get_mut.follows.lender c.max.result).entries conn c.max.result
    (holds.3 (subst (λ (o : Option ℕ). IsSome o) there refl)).0
    ∙ ap (λ (r : ReachedView). insert r.numbers conn c.max.result) c.self.view_is
    ∙ ap (insert numbers conn) (c.max.ensures ∙ ap (λ o. max (or_zero o) c.args.id.seq) was)

-- no number was there
absent : (c : goal.After-put_first) → get c.args.self.now.numbers c.args.id.conn.0 ≡ None
absent c =
    sym (ap (λ (r : ReachedView). get r.numbers c.args.id.conn.0) c.self.view_is)
    ∙ get_shown c.self.inside.numbers.entries c.args.id.conn.0 ∙ sym c.in_default.ensures.value

pub returns-clause-numbers : goal.returns-clause-numbers
returns-clause-numbers c =
    let conn = c.args.id.conn.0 in
    let seq = c.args.id.seq in
    let numbers = c.args.self.now.numbers in
    let first : seq ≡ max 0 seq = omega arith in
    subst (λ m. OnOk c.put_first.result (c.put_first.new.self.numbers ≡ m))
    (ap (λ m. insert (from_entries m.entries) conn seq) c.get_mut.follows.holds-at-none
    ∙ ap (λ (r : ReachedView). insert r.numbers conn seq) c.self.view_is
    ∙ ap (insert numbers conn) (first ∙ ap (λ o. max (or_zero o) seq) (sym (absent c))))
    c.put_first.ensures.numbers

-- where a number was there it was found
pub returns-clause-succeeds_again : goal.returns-clause-succeeds_again
returns-clause-succeeds_again c = λ known. absurd (let some = subst IsSome (absent c) known in cc)
