use Rattle.std.proofs.Common.{◌≡◌, ◌+◌, ℕ, suc, cond, length, true, Option, Some, None, is_some, refl, sym, ap, ◌∙◌, arith}
use Rattle.std.proofs.lemmas.Bool.{both_ways}
use Rattle.std.specs.Option.{is_none}
use Rattle.skeen_core.specs.Heard.{clock_of, with_heard, missing}
use Rattle.skeen_core.proofs.Missing.{missing_few}
use Rattle.skeen_core.proofs.heard.missing.Goals as goal
use Rattle.skeen_core.proofs.heard.missing.Goals.{Then-is_some}

one_heard : (m n : ℕ) (o : Option ℕ) → is_some o ≡ true → cond (is_none o) m n ≡ n
one_heard m n None e = absurd (both_ways _ refl e)
one_heard m n (Some k) e = refl

-- what is counted before one that has proposed
before : (c : Then-is_some) → c.loop-group.count + missing (with_heard c.args.last.now (clock_of c.args.list.now)) c.next.new.self
    ≡ missing (with_heard c.args.last.now (clock_of c.args.list.now)) c.args.groups + suc (length c.next.new.self)
before c =
    let f = with_heard c.args.last.now (clock_of c.args.list.now) in
    let one = one_heard (suc (missing f c.next.new.self)) (missing f c.next.new.self) (f c.in-Some.group)
    (ap is_some (sym c.clock_with.ensures) ∙ sym c.is_some.ensures ∙ c.if-is_some.true) in
    ap (λ n. c.loop-group.count + n) (sym one ∙ sym (ap (missing f) c.in-Some.ensures.steps)) ∙ c.loop-group.invariant
    ∙ ap (λ l. missing f c.args.groups + length l) c.in-Some.ensures.steps

pub overflow_sub-count : goal.overflow_sub-count
overflow_sub-count c =
    let few = missing_few (with_heard c.args.last.now (clock_of c.args.list.now)) c.next.new.self in
    let is = before (goal.at.overflow_sub-count c).Then-is_some in
    omega arith

pub loop-group-preserved-then-is_some : goal.loop-group-preserved-then-is_some
loop-group-preserved-then-is_some c =
    let few = missing_few (with_heard c.args.last.now (clock_of c.args.list.now)) c.next.new.self in
    let is = before (goal.at.loop-group-preserved-then-is_some c).Then-is_some in
    omega arith
