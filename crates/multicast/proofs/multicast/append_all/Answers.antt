use Rattle.std.proofs.Common.{rules, ◌<◌, length, sym, ap, ◌∙◌, subst, arith}
use Rattle.delivery.specs.Queues.{queue_of}
use Rattle.multicast.specs.Multicast.{MayAppendAll}
use Rattle.multicast.proofs.Queues.{with_rest, rest_next, rest_none, may_append_next}
use Rattle.multicast.proofs.multicast.append_all.Goals as goal

pub loop-request-preserved : goal.loop-request-preserved
loop-request-preserved c =
    let inv = c.loop-request.invariant in
    let s = c.in-Some.ensures.steps in
    let qs = c.loop-request.queues.queues in
    let g = c.args.group in
    let low : g < length qs = let e = inv.count in let there = c.requires.there in omega arith in
    let set = c.in-Ok.ensures.appended in
    let more = subst (λ l. MayAppendAll (queue_of qs) g l) s.0 inv.may in
    record {
      count = search rules;
      may = may_append_next qs c.append.new.self.queues g c.in-Some.request c.next.new.self.rest.items low set more;
      room = search rules;
      whole = λ h. rest_next qs c.append.new.self.queues g c.in-Some.request c.next.new.self.rest.items low set h
          ∙ ap (λ l. with_rest qs g l h) (sym s.0) ∙ inv.whole h;
    }

pub returns-clause-appended : goal.returns-clause-appended
returns-clause-appended c =
    λ h. sym (rest_none c.loop-request.queues.queues c.args.group c.loop-request.request-iterator.rest.items (search rules) h)
    ∙ c.loop-request.invariant.whole h
