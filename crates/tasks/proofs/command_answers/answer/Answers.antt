use Rattle.std.proofs.Common.{inr, ap, ◌∙◌}
use Rattle.tasks.specs.Command.{effect_of}
use Rattle.command_cases.specs.declared.text_plan.TextPlan.TheVariants.{Never, After, Before}
use Rattle.tasks.proofs.Plans.{plan-effect, starved-does, answer-short, planned-long, text-fits}
use Rattle.tasks.proofs.command_answers.answer.Goals as goal

-- where there is no memory for the text of a reader's reply the map is as it was
pub returns-in_err-with_text-in-After-clause-done : goal.returns-in_err-with_text-in-After-clause-done
returns-in_err-with_text-in-After-clause-done g c =
    let m = g.K.Keyspace.contents c.args.keyspace.now in
    let leaves = plan-effect c.args.command m After c.in-After.ensures in
    starved-does (effect_of c.args.command) m (g.K.Keyspace.contents c.execute-in-After.new.keyspace)
    c.from_residual-in_err-with_text-in-After.result
    c.from_residual-in_err-with_text-in-After.ensures.0 (ap (λ r. r.0) c.in_ok-reply-in-After.ensures.done ∙ leaves)

pub returns-in-Err-clause-starves : goal.returns-in-Err-clause-starves
returns-in-Err-clause-starves g c =
    let m = g.K.Keyspace.contents c.args.keyspace.now in
    inr (planned-long (effect_of c.args.command) m c.in-Before.size
    (plan-effect c.args.command m (Before c.in-Before.size) c.in-Before.ensures) c.in-Err.ensures.long)

pub in_block-requires-clause-fits : goal.in_block-requires-clause-fits
in_block-requires-clause-fits g c =
    let m = g.K.Keyspace.contents c.args.keyspace.now in
    text-fits (effect_of c.args.command) m (g.K.Keyspace.contents c.execute-in-Ok.new.keyspace) c.in-Before.size _ c.in_ok-reply-in-Ok.reply
    (plan-effect c.args.command m (Before c.in-Before.size) c.in-Before.ensures)
    c.in_ok-reply-in-Ok.ensures.done c.in-Ok.ensures.room

-- what is kept without its text is short
pub alone-requires : goal.alone-requires
alone-requires g c =
    let m = g.K.Keyspace.contents c.args.keyspace.now in
    record {
      short = answer-short (effect_of c.args.command) m (g.K.Keyspace.contents c.execute.new.keyspace) c.in_ok-reply-in-Never.reply
          (plan-effect c.args.command m Never c.in-Never.ensures) c.in_ok-reply-in-Never.ensures.done;
    }
