use Rattle.std.proofs.Common.{◌≡◌, IsOk, true, false, suc, ◌+◌, ◌≤◌, ◌++◌, ◌∷◌, [], ap, ◌∙◌, subst, append_assoc, arith}
use Rattle.cluster.proofs.Passing.{one_more_arrival}
use Rattle.cluster.proofs.Sizes.{deliver_size}
use Rattle.cluster.specs.Passing.{arrivals}
use Rattle.journal.specs.Codes.{step_size}
use Rattle.journal.specs.declared.step.Step.TheVariants.{Deliver}
use Rattle.cluster.proofs.tape.push_arrivals.Goals as goal

pub unreachable-requires : goal.unreachable-requires
unreachable-requires c =
    let fits : step_size (Deliver 0) + c.saturating_add-room.result ≤ c.loop.trace.room =
    omega (arith, deliver_size, c.saturating_add-room.ensures, c.loop.invariant.2, c.loop.invariant.3, c.loop-test.true, c.requires.few) in
    let ok : false ≡ true = subst IsOk c.in_default.is (c.push_keeping.ensures.succeeds fits) in
    cc

pub loop-preserved : goal.loop-preserved
loop-preserved c =
    let next : suc c.loop.counter ≡ c.loop.counter + 1 = omega arith in (
      c.in-Ok.ensures.max ∙ c.loop.invariant.0,
      c.in-Ok.ensures.steps ∙ ap (λ l. l ++ Deliver 0 ∷ []) c.loop.invariant.1
          ∙ append_assoc c.args.trace.now.steps (arrivals c.loop.counter) (Deliver 0 ∷ [])
          ∙ ap (λ l. c.args.trace.now.steps ++ l) (one_more_arrival c.loop.counter)
          ∙ ap (λ n. c.args.trace.now.steps ++ arrivals n) next,
      omega (arith, c.loop.invariant.2, c.loop-test.true, c.requires.few),
      omega (arith, deliver_size, c.in-Ok.ensures.room_left, c.loop.invariant.3, c.loop.invariant.2, c.loop-test.true, c.requires.few),
    )
