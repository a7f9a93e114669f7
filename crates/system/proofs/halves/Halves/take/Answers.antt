use Rattle.std.proofs.Common.{sym, subst}
use Rattle.journal.specs.declared.step.Step.TheVariants.{Take}
use Rattle.system.proofs.Fronting.{may_step, take_makes, front_kept, refused_as, not_failed}
use Rattle.system.specs.Halves.{Makes}
use Rattle.system.specs.declared.effect.Effect.TheVariants.{Made}
use Rattle.system.proofs.halves.Halves.take.Goals as goal

pub take-requires : goal.take-requires
take-requires c = may_step c.args.self.now c.requires

pub returns-in-Ok-clause-made : goal.returns-in-Ok-clause-made
returns-in-Ok-clause-made c =
    let old = c.args.self.now in
    subst (λ s. Makes old Take Made (record old { front = c.take.new.self; stage = s })) (sym c.set_stage.ensures)
    (take_makes old c.requires c.in-Ok.layer c.take.new.self c.in-Ok.ensures.made)

pub returns-in-Err-clause-fault : goal.returns-in-Err-clause-fault
returns-in-Err-clause-fault c =
    refused_as c.args.self.now Take c.in-Err.fault c.from.result c.from.ensures (λ wants. wants) c.in-Err.ensures.refused

pub returns-in-Err-clause-no_failure : goal.returns-in-Err-clause-no_failure
returns-in-Err-clause-no_failure c = not_failed c.in-Err.fault c.from.result c.from.ensures

pub returns-in-Err-clause-keeps : goal.returns-in-Err-clause-keeps
returns-in-Err-clause-keeps c = front_kept c.args.self.now c.take.new.self c.in-Err.ensures.unchanged
