use Rattle.std.proofs.Common.{◌≢◌, refl, sym, subst}
use Rattle.std.specs.Prelude.{IfErr}
use Rattle.system.proofs.Fronting.{told_fault, alone}
use Rattle.system.specs.Halves.{Keeps}
use Rattle.system.specs.Refusing.{IsFault}
use Rattle.system.specs.declared.fault.StepFault.TheVariants.{Failed}
use Rattle.system.proofs.halves.Halves.make.Goals as goal

pub returns-in-Take-clause-fault : goal.returns-in-Take-clause-fault
returns-in-Take-clause-fault g c =
    told_fault c.args.self.now c.take.new.self c.args.step _ c.take.result c.in-Take.is c.take.ensures.fault c.take.ensures.keeps

pub returns-in-Settle-clause-fault : goal.returns-in-Settle-clause-fault
returns-in-Settle-clause-fault g c =
    told_fault c.args.self.now c.settle.new.self c.args.step _ c.settle.result c.in-Settle.is c.settle.ensures.fault c.settle.ensures.keeps

pub make_in_front-requires-clause-alone : goal.make_in_front-requires-clause-alone
make_in_front-requires-clause-alone g c = alone c.args.step c.in_default.not-Take c.in_default.not-Run c.in_default.not-Settle

pub returns-in_default-clause-fault : goal.returns-in_default-clause-fault
returns-in_default-clause-fault g c =
    told_fault c.args.self.now c.make_in_front.new.self c.args.step _ c.make_in_front.result refl c.make_in_front.ensures.fault
    c.make_in_front.ensures.keeps

pub returns-in-Run-clause-fault : goal.returns-in-Run-clause-fault
returns-in-Run-clause-fault g c =
    subst (λ s. IfErr c.run.result (λ fault. fault ≢ Failed → IsFault c.args.self.now s fault × Keeps c.args.self.now c.run.new.self))
    (sym c.in-Run.is) c.run.ensures.fault
