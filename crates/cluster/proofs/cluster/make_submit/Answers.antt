use Rattle.std.proofs.Common.{sym, ap, ◌∙◌, subst, ◌++◌, ◌∷◌, []}
use Rattle.cluster.proofs.Effects.{submits_some}
use Rattle.cluster.proofs.Seats.{submitted_is}
use Rattle.cluster.proofs.Submits.{said_now}
use Rattle.cluster.specs.Histories.{IsMade}
use Rattle.front.specs.Making.{effect_shown}
use Rattle.journal.specs.declared.step.Step.TheVariants.{Submit}
use Rattle.cluster.proofs.cluster.make_submit.Goals as goal

pub unreachable-requires : goal.unreachable-requires
unreachable-requires g c =
    let some = submits_some _ _ c.args.conn c.args.words c.in-Ok.effect c.in-Ok.ensures.made in
    c.in_default.not-Submitted some.0 some.1

pub returns-clause-conn : goal.returns-clause-conn
returns-clause-conn g c =
    let made = subst (λ e. IsMade c.args.history.now (Submit c.args.conn c.args.words) (effect_shown e) c.make.new.self) c.in-Submitted.is
    c.in-Ok.ensures.made in
    (submitted_is _ _ c.args.conn c.args.words c.in-Submitted.id made).0

pub returns-clause-said : goal.returns-clause-said
returns-clause-said g c =
    let made = subst (λ e. IsMade c.args.history.now (Submit c.args.conn c.args.words) (effect_shown e) c.make.new.self) c.in-Submitted.is
    c.in-Ok.ensures.made in
    let is = submitted_is _ _ c.args.conn c.args.words c.in-Submitted.id made in
    said_now c.args.history.now.steps c.make.new.self.steps c.in-Submitted.id c.args.words
    (made.steps ∙ ap (λ i. c.args.history.now.steps ++ Submit i c.args.words ∷ []) (sym is.0))
    (is.1 ∙ ap (λ i. Rattle.std.proofs.Common.suc (Rattle.cluster.specs.Submits.submits_by i.0 c.args.history.now.steps)) (sym is.0))

pub returns-in-Err-clause-room : goal.returns-in-Err-clause-room
returns-in-Err-clause-room g c = c.in-Err.ensures.room_back c.args.kept
