use Rattle.std.proofs.Common.{◌++◌, ap, ◌∙◌, arith, refl}
use Rattle.journal.specs.Codes.{step_code}
use Rattle.journal.proofs.Kept.{steps-push, AreSteps-push, count-few}
use Rattle.journal.proofs.trace.Trace.push_keeping.Goals as goal

pub overflow_add-self : goal.overflow_add-self
overflow_add-self c = let few = count-few _ _ _ _ c.self.invariant in
    record { fits = omega (arith, few, c.self.inside.bytes.ok.0, c.self.inside.bytes.small) }

pub invariant_of-self-2 : goal.invariant_of-self-2
invariant_of-self-2 c =
    let put = c.put_step.ensures.items ∙ ap (λ b. b ++ step_code c.args.step.now) c.in_ok-reserve_step.ensures.items in
    rw (put, steps-push _ _ _ _ _ c.self.invariant c.in_ok-reserve_step.ensures.fits)
    (AreSteps-push _ _ _ _ _ c.self.invariant c.in_ok-reserve_step.ensures.fits)

pub returns-clause-steps : goal.returns-clause-steps
returns-clause-steps c =
    let put = c.put_step.ensures.items ∙ ap (λ b. b ++ step_code c.args.step.now) c.in_ok-reserve_step.ensures.items in
    rw (put, steps-push _ _ _ _ _ c.self.invariant c.in_ok-reserve_step.ensures.fits, ← c.self.view_is) refl
