use Rattle.std.proofs.Common.{◌≡◌, arith, length, length-append, inr, ap, ◌∙◌}
use Rattle.tasks.specs.Command.{effect_of}
use Rattle.command_cases.specs.declared.text_plan.TextPlan.TheVariants.{Never, After, Before}
use Rattle.tasks.proofs.Plans.{plan-effect, unanswered-does, answer-short, planned-long, planned-size}
use Rattle.resp.specs.Text.{reply_text}
use Rattle.tasks.proofs.appending.answer_into.Goals as goal

-- what is never given room of its own is short
pub append_short-requires-clause-short : goal.append_short-requires-clause-short
append_short-requires-clause-short g c =
    let m = g.K.Keyspace.contents c.args.keyspace.now in
    answer-short (effect_of c.args.command) m (g.K.Keyspace.contents c.execute.new.keyspace) c.in_ok-reply-in-Never.reply
    (plan-effect c.args.command m Never c.in-Never.ensures) c.in_ok-reply-in-Never.ensures.done

-- where there is no memory for the text of a reader's reply the map is as it was
pub returns-in_err-append-in-After-clause-done : goal.returns-in_err-append-in-After-clause-done
returns-in_err-append-in-After-clause-done g c =
    let m = g.K.Keyspace.contents c.args.keyspace.now in
    let leaves = plan-effect c.args.command m After c.in-After.ensures in
    unanswered-does (effect_of c.args.command) m (g.K.Keyspace.contents c.execute-in-After.new.keyspace)
    c.from_residual-in_err-append-in-After.result
    c.from_residual-in_err-append-in-After.ensures.0 (ap (λ r. r.0) c.in_ok-reply-in-After.ensures.done ∙ leaves)

-- the text has the size for which room was taken
pub put-requires : goal.put-requires
put-requires g c =
    let m = g.K.Keyspace.contents c.args.keyspace.now in
    let sized : length (reply_text c.in_ok-reply-in-Ok.reply) ≡ c.in-Before.size
    = planned-size (effect_of c.args.command) m (g.K.Keyspace.contents c.execute-in-Ok.new.keyspace) c.in-Before.size
    c.in_ok-reply-in-Ok.reply (plan-effect c.args.command m (Before c.in-Before.size) c.in-Before.ensures)
    c.in_ok-reply-in-Ok.ensures.done in
    omega (
      arith,
      sized,
      c.in-Ok.ensures.ok,
      ap length c.in-Ok.ensures.items,
      c.args.out.now.ok,
      c.make_room.new.out.ok,
    )

pub returns-in_ok-reply-in-Ok-clause-spare : goal.returns-in_ok-reply-in-Ok-clause-spare
returns-in_ok-reply-in-Ok-clause-spare g c =
    let m = g.K.Keyspace.contents c.args.keyspace.now in
    let sized : length (reply_text c.in_ok-reply-in-Ok.reply) ≡ c.in-Before.size
    = planned-size (effect_of c.args.command) m (g.K.Keyspace.contents c.execute-in-Ok.new.keyspace) c.in-Before.size
    c.in_ok-reply-in-Ok.reply (plan-effect c.args.command m (Before c.in-Before.size) c.in-Before.ensures)
    c.in_ok-reply-in-Ok.ensures.done in
    omega (
      arith,
      sized,
      c.in-Ok.ensures.ok,
      ap length c.in-Ok.ensures.items,
      c.put.ensures.capacity,
      ap length c.put.ensures.text,
      length-append c.make_room.new.out.items (reply_text c.in_ok-reply-in-Ok.reply),
      c.args.out.now.ok,
      c.make_room.new.out.ok,
      c.put.new.out.ok,
    )

pub returns-in-Err-clause-starves : goal.returns-in-Err-clause-starves
returns-in-Err-clause-starves g c =
    let m = g.K.Keyspace.contents c.args.keyspace.now in
    inr (planned-long (effect_of c.args.command) m c.in-Before.size
    (plan-effect c.args.command m (Before c.in-Before.size) c.in-Before.ensures) c.in-Err.ensures.long)
