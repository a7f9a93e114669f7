use Rattle.std.proofs.Common.{sym, subst}
use Rattle.front.specs.Refusing.{IsFault}
use Rattle.front.specs.Making.{Makes, effect_shown}
use Rattle.front.specs.declared.effect.Effect.TheVariants as effect
use Rattle.world.specs.Steps.{Opened, Submitted, Made}
use Rattle.front.proofs.front.Front.make.Goals as goal

pub returns-in-Ok-clause-made : goal.returns-in-Ok-clause-made
returns-in-Ok-clause-made c =
    subst (λ s. Makes c.args.self.now s (Opened c.in-Ok.conn.0) c.open.new.self) (sym c.in-Open.is) c.in-Ok.ensures.made

pub returns-in-Ok-submit-clause-made : goal.returns-in-Ok-submit-clause-made
returns-in-Ok-submit-clause-made c =
    subst (λ s. Makes c.args.self.now s (Submitted c.in-Ok-submit.id) c.submit.new.self) (sym c.in-Submit.is) c.in-Ok-submit.ensures.made

pub returns-in-Err-submit-clause-refused : goal.returns-in-Err-submit-clause-refused
returns-in-Err-submit-clause-refused c =
    subst (λ s. IsFault c.args.self.now s c.in-Err-submit.fault) (sym c.in-Submit.is) c.in-Err-submit.ensures.refused

pub returns-in-Ok-deliver-clause-made : goal.returns-in-Ok-deliver-clause-made
returns-in-Ok-deliver-clause-made c =
    subst (λ s. Makes c.args.self.now s Made c.deliver.new.self) (sym c.in-Deliver.is) c.in-Ok-deliver.ensures.made

pub returns-in-Err-deliver-clause-refused : goal.returns-in-Err-deliver-clause-refused
returns-in-Err-deliver-clause-refused c =
    subst (λ s. IsFault c.args.self.now s c.in-Err-deliver.fault) (sym c.in-Deliver.is) c.in-Err-deliver.ensures.refused

pub returns-in-Ok-repeat-clause-made : goal.returns-in-Ok-repeat-clause-made
returns-in-Ok-repeat-clause-made c =
    subst (λ s. Makes c.args.self.now s Made c.repeat.new.self) (sym c.in-Repeat.is) c.in-Ok-repeat.ensures.made

pub returns-in-Err-repeat-clause-refused : goal.returns-in-Err-repeat-clause-refused
returns-in-Err-repeat-clause-refused c =
    subst (λ s. IsFault c.args.self.now s c.in-Err-repeat.fault) (sym c.in-Repeat.is) c.in-Err-repeat.ensures.refused

pub returns-in-Ok-collect-clause-made : goal.returns-in-Ok-collect-clause-made
returns-in-Ok-collect-clause-made c =
    subst (λ s. Makes c.args.self.now s (effect_shown (effect.Collected c.in-Ok-collect.outcome)) c.collect.new.self) (sym c.in-Collect.is)
    c.in-Ok-collect.ensures.made

pub returns-in-Err-collect-clause-refused : goal.returns-in-Err-collect-clause-refused
returns-in-Err-collect-clause-refused c =
    subst (λ s. IsFault c.args.self.now s c.in-Err-collect.fault) (sym c.in-Collect.is) c.in-Err-collect.ensures.refused.1

pub returns-in-Ok-close-clause-made : goal.returns-in-Ok-close-clause-made
returns-in-Ok-close-clause-made c =
    subst (λ s. Makes c.args.self.now s Made c.close.new.self) (sym c.in-Close.is) c.in-Ok-close.ensures.made

pub returns-in-Err-close-clause-refused : goal.returns-in-Err-close-clause-refused
returns-in-Err-close-clause-refused c =
    subst (λ s. IsFault c.args.self.now s c.in-Err-close.fault) (sym c.in-Close.is) c.in-Err-close.ensures.refused.1
