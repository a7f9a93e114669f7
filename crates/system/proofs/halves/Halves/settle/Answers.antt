use Rattle.std.proofs.Common.{sym, ◌∙◌, subst}
use Rattle.journal.specs.declared.step.Step.TheVariants.{Settle}
use Rattle.system.proofs.Fronting.{may_settle}
use Rattle.system.proofs.Layering.{settle_makes, settle_truth}
use Rattle.system.specs.Halves.{Makes}
use Rattle.system.specs.declared.effect.Effect.TheVariants.{Made}
use Rattle.system.proofs.halves.Halves.settle.Goals as goal

pub settle-requires-clause-few : goal.settle-requires-clause-few
settle-requires-clause-few c =
    may_settle c.args.self.now c.requires c.in-HasRun-replace.done (sym c.replace.ensures.value ∙ c.in-HasRun-replace.is)

pub settle-requires-clause-truth : goal.settle-requires-clause-truth
settle-requires-clause-truth c =
    settle_truth c.args.self.now c.requires c.in-HasRun-replace.done (sym c.replace.ensures.value ∙ c.in-HasRun-replace.is)

pub returns-clause-made : goal.returns-clause-made
returns-clause-made c =
    let old = c.args.self.now in
    subst (λ s. Makes old Settle Made (record old { front = c.settle.new.self; stage = s })) (sym c.replace.ensures.after)
    (settle_makes old c.settle.new.self c.in-HasRun-replace.done (sym c.replace.ensures.value ∙ c.in-HasRun-replace.is)
    c.settle.ensures)
