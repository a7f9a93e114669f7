use Rattle.std.proofs.Common.{◌∙◌, ◌+◌, [], ◌∷◌, arith, ap, length, length-append, map, sym, take}
use Rattle.resp.specs.Content.{content}
use Rattle.layer_results.specs.Wants.{wants_among}
use Rattle.layer_results.proofs.Names.{wants_more, wants_same, wants_so_far}
use Rattle.layer_results.proofs.starving.want_count.Goals as goal
use Rattle.layer_results.proofs.starving.want_count.Goals.{then-is_want_reply, else-is_want_reply}

pub overflow_add-count : goal.overflow_add-count
overflow_add-count c =
    let few = wants_so_far c.args.replies.now c.loop-reply.reply-index (omega arith) in
    let small = c.loop-reply.invariant in record { fits = omega arith }

pub loop-reply-preserved : goal.loop-reply-preserved
loop-reply-preserved c =
    let i = c.loop-reply.reply-index in let replies = c.args.replies.now in let reply = c.reply-item.result in
    elim c.if-is_want_reply.branch [
      | then-is_want_reply w ↦
          let step = wants_more replies i reply c.loop-reply-test.true c.reply-item.is w.if-is_want_reply.ensures in
          let more = w.count-is in let so_far = c.loop-reply.invariant in
          omega (arith, ap length step, length-append (wants_among 1 (map content (take i replies))) ((i + 1) ∷ []))
      | else-is_want_reply w ↦
          let step = wants_same replies i reply c.loop-reply-test.true c.reply-item.is w.if-is_want_reply.ensures in
          w.count-is ∙ c.loop-reply.invariant ∙ ap length (sym step)
    ]
