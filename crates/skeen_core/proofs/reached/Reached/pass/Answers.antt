use Rattle.std.proofs.Common.{◌≡◌, ℕ, ◌==◌, Option, Some, None, true, false, cond, IsSome, max, refl, sym, ap, ◌∙◌, subst, arith, eqb-true}
use Rattle.std.proofs.lemmas.Bool.Decides.{nat_tests}
use Rattle.std.specs.FinMap.{from_entries, get, insert}
use Rattle.std.specs.Map.{lookup}
use Rattle.skeen_core.specs.Group.{or_zero, is_up_to}
use Rattle.skeen_core.specs.Reached.{ReachedView}
use Rattle.skeen_core.proofs.Numbers.{get_shown, put_shown, same_shown}
use Rattle.skeen_core.proofs.reached.Reached.pass.Goals as goal
use Rattle.skeen_core.proofs.reached.Reached.pass.Goals.{In-Some, After-put_first}

-- the number that was there
was : (c : In-Some) → Some c.in-Some.number.now ≡ get c.args.self.now.numbers c.args.id.conn.0
was c = c.in-Some.ensures.value ∙ sym (get_shown c.self.inside.numbers.entries c.args.id.conn.0)
    ∙ ap (λ (r : ReachedView). get r.numbers c.args.id.conn.0) c.self.view_is

-- the entries once this number is written
written : (c : In-Some) (n : ℕ) → (q : ℕ) → lookup (λ k. q == k) (c.get_mut.follows.lender n).entries
    ≡ cond (c.args.id.conn.0 == q) (Some n) (lookup (λ k. q == k) c.self.inside.numbers.entries)
written c n = ((c.get_mut.follows.holds n).3 (subst (λ (o : Option ℕ). IsSome o) c.in-Some.ensures.value refl)).0

pub returns-then-id-number-clause-unchanged : goal.returns-then-id-number-clause-unchanged
returns-then-id-number-clause-unchanged c = λ _.
    let at = (goal.at.returns-then-id-number-clause-unchanged c).In-Some in
    let es = c.self.inside.numbers.entries in
    let conn = c.args.id.conn.0 in
    let n = c.in-Some.number.now in
    same_shown es (c.get_mut.follows.lender n).entries (λ q. written at n q
    ∙ elim (conn == q) as (λ b. (conn == q) ≡ b → cond b (Some n) (lookup (λ k. q == k) es) ≡ lookup (λ k. q == k) es) [
      | true ↦ λ same. c.in-Some.ensures.value ∙ ap (λ k. lookup (λ j. k == j) es) (eqb-true conn q same)
      | false ↦ λ _. refl
    ] refl)
    ∙ ap (λ (r : ReachedView). r.numbers) c.self.view_is

pub returns-in-Some-clause-later : goal.returns-in-Some-clause-later
returns-in-Some-clause-later c = λ _.
    subst (λ o. is_up_to o c.args.id.seq ≡ false) (was (goal.at.returns-in-Some-clause-later c).In-Some)
    (grind (arith, nat_tests, c.if-id-number.false))

pub returns-in-Some-clause-numbers : goal.returns-in-Some-clause-numbers
returns-in-Some-clause-numbers c = λ _.
    let at = (goal.at.returns-in-Some-clause-numbers c).In-Some in
    let es = c.self.inside.numbers.entries in
    let conn = c.args.id.conn.0 in
    let seq = c.args.id.seq in
    let greatest : seq ≡ max c.in-Some.number.now seq = omega (arith, c.if-id-number.false) in
    put_shown es (c.get_mut.follows.lender seq).entries conn seq (written at seq)
    ∙ ap (λ (r : ReachedView). insert r.numbers conn seq) c.self.view_is
    ∙ ap (insert c.args.self.now.numbers conn) (greatest ∙ ap (λ o. max (or_zero o) seq) (was at))

-- no number was there
absent : (c : After-put_first) → get c.args.self.now.numbers c.args.id.conn.0 ≡ None
absent c =
    sym (ap (λ (r : ReachedView). get r.numbers c.args.id.conn.0) c.self.view_is)
    ∙ get_shown c.self.inside.numbers.entries c.args.id.conn.0 ∙ sym c.in_default.ensures.value

pub returns-clause-later : goal.returns-clause-later
returns-clause-later c = λ _.
    subst (λ o. is_up_to o c.args.id.seq ≡ false) (sym (absent (goal.at.returns-clause-later c).After-put_first)) refl

pub returns-clause-numbers : goal.returns-clause-numbers
returns-clause-numbers c = λ _.
    let conn = c.args.id.conn.0 in
    let seq = c.args.id.seq in
    let numbers = c.args.self.now.numbers in
    let first : seq ≡ max 0 seq = omega arith in
    c.in-Ok.ensures.numbers
    ∙ ap (λ m. insert (from_entries m.entries) conn seq) c.get_mut.follows.holds-at-none
    ∙ ap (λ (r : ReachedView). insert r.numbers conn seq) c.self.view_is
    ∙ ap (insert numbers conn) (first ∙ ap (λ o. max (or_zero o) seq) (sym (absent (goal.at.returns-clause-numbers c).After-put_first)))
