use Rattle.system.proofs.Fronting.{admitted, refused_as, wants_so}
use Rattle.system.proofs.halves.Halves.front_fault.Goals as goal

pub returns-in-None-clause-none : goal.returns-in-None-clause-none
returns-in-None-clause-none c = admitted c.args.self.now c.args.step.now c.in-None.ensures.none

pub returns-in-Some-clause-some : goal.returns-in-Some-clause-some
returns-in-Some-clause-some c =
    refused_as c.args.self.now c.args.step.now c.in-Some.fault c.from.result c.from.ensures (wants_so c.args.step.now c.requires)
    c.in-Some.ensures.some
