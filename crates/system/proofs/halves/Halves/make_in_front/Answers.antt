use Rattle.std.proofs.Common.{subst}
use Rattle.front.specs.Making as making
use Rattle.system.proofs.Fronting.{may_step, made_by_front, front_makes, front_kept, refused_as, not_failed, shown_same, wants_so}
use Rattle.system.specs.Halves.{effect_shown}
use Rattle.system.proofs.halves.Halves.make_in_front.Goals as goal

pub make-requires-clause-few : goal.make-requires-clause-few
make-requires-clause-few c = may_step c.args.self.now c.requires.lives

pub returns-in-Ok-clause-made : goal.returns-in-Ok-clause-made
returns-in-Ok-clause-made c =
    let old = c.args.self.now in
    let f = c.make.new.self in
    let step = c.args.step in
    let made = c.in-Ok.ensures.made in
    made_by_front old f step c.requires.alone made.is_step c.from.result
    (front_makes old f step (effect_shown c.from.result)
    (subst (λ e. making.Makes old.front step e f) (shown_same c.in-Ok.effect c.from.result c.from.ensures) made))

pub returns-in-Err-clause-fault : goal.returns-in-Err-clause-fault
returns-in-Err-clause-fault c =
    refused_as c.args.self.now c.args.step c.in-Err.fault c.from-in-Err.result c.from-in-Err.ensures
    (wants_so c.args.step c.requires.alone) c.in-Err.ensures.refused

pub returns-in-Err-clause-no_failure : goal.returns-in-Err-clause-no_failure
returns-in-Err-clause-no_failure c = not_failed c.in-Err.fault c.from-in-Err.result c.from-in-Err.ensures

pub returns-in-Err-clause-keeps : goal.returns-in-Err-clause-keeps
returns-in-Err-clause-keeps c = front_kept c.args.self.now c.make.new.self c.in-Err.ensures.unchanged
