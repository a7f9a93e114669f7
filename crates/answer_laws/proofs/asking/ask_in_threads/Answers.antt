use Rattle.std.proofs.Common.{[], IfOk, subst}
use Rattle.answer_laws.proofs.Together.{together}
use Rattle.answer_laws.specs.Asking.{IsAnswered}
use Rattle.answer_laws.proofs.asking.ask_in_threads.Goals as goal
use Rattle.resp.specs.Content.{content}

pub returns-in-Ok-ask_behind : goal.returns-in-Ok-ask_behind
returns-in-Ok-ask_behind g c =
    let t = g.T.Tabled.table in
    let one = subst (λ r. IfOk r (λ a. IsAnswered t [] c.args.first (content a.reply.reply) a.seen)) c.in-Ok.is c.join-one.ensures.first in
    let other =
    subst (λ r. IfOk r (λ a. IsAnswered t [] c.args.second (content a.reply.reply) a.seen)) c.in-Ok-other.is c.join-one.ensures.second in
    together t c.with-all.result c.is_legal.ensures.0 c.is_legal.ensures.1 c.with-both.result c.in-Ok.one.seen c.in-Ok-other.other.seen
    c.in-Ok-ask_behind.then.seen c.args.first c.args.second c.args.last (content c.in-Ok.one.reply.reply)
    (content c.in-Ok-other.other.reply.reply) (content c.in-Ok-ask_behind.then.reply.reply) one other c.in-Ok-ask_behind.ensures
    c.with-both.ensures.this c.with-both.ensures.that c.with-all.ensures.this c.with-all.ensures.that
