use Rattle.std.proofs.lemmas.Result.{IfOk-weaker}
use Rattle.resp.specs.Content.{content}
use Rattle.shared_cluster.proofs.Collecting.{replied_of, waited_fault}
use Rattle.shared_cluster.proofs.shared.Shared.ask_turning.Goals as goal

pub returns-in-Ok-Replied-clause-replied : goal.returns-in-Ok-Replied-clause-replied
returns-in-Ok-Replied-clause-replied g c = rw c.in-Ok-Replied.field-0-is at c.in-Ok-Replied.ensures.begun

pub returns-in-Ok-Waits-clause-replied : goal.returns-in-Ok-Waits-clause-replied
returns-in-Ok-Waits-clause-replied g c =
    let made = c.turn_until_replied in
    let begun = rw c.in-Ok-Waits.field-0-is at c.in-Ok-Waits.ensures.begun in
    IfOk-weaker made.result _ _ (λ x. replied_of g.T.Tabled.table c.args.seat.now c.submit_and_begin.new.seat made.new.seat c.args.words
    (content x.reply) begun.0) made.ensures.replied

pub returns-in-Ok-Waits-clause-refused : goal.returns-in-Ok-Waits-clause-refused
returns-in-Ok-Waits-clause-refused g c =
    let made = c.turn_until_replied in
    let begun = rw c.in-Ok-Waits.field-0-is at c.in-Ok-Waits.ensures.begun in
    waited_fault c.args.seat.now c.submit_and_begin.new.seat c.args.words made.result made.new.seat begun.0 made.ensures.refused
    made.ensures.unchanged

pub returns-in-Ok-Waits-Taken-clause-replied : goal.returns-in-Ok-Waits-Taken-clause-replied
returns-in-Ok-Waits-Taken-clause-replied g c =
    let made = c.run_until_replied in
    let begun = rw c.in-Ok-Waits-Taken.field-0-is at c.in-Ok-Waits-Taken.ensures.begun in
    IfOk-weaker made.result _ _ (λ x. replied_of g.T.Tabled.table c.args.seat.now c.submit_and_begin.new.seat made.new.seat c.args.words
    (content x.reply) begun.0) made.ensures.replied

pub returns-in-Ok-Waits-Taken-clause-refused : goal.returns-in-Ok-Waits-Taken-clause-refused
returns-in-Ok-Waits-Taken-clause-refused g c =
    let made = c.run_until_replied in
    let begun = rw c.in-Ok-Waits-Taken.field-0-is at c.in-Ok-Waits-Taken.ensures.begun in
    waited_fault c.args.seat.now c.submit_and_begin.new.seat c.args.words made.result made.new.seat begun.0 made.ensures.refused
    made.ensures.unchanged
