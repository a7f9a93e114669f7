use Rattle.std.proofs.Common.{◌∙◌, ◌+◌, [], ◌∷◌, ap, arith, length, length-append, map, take}
use Rattle.resp.specs.Content.{content}
use Rattle.layer_results.specs.Wants.{wants_among}
use Rattle.layer_results.proofs.Names.{parts_more, wants_more, wants_same, wants_rest}
use Rattle.layer_results.proofs.starving.push_wants.Goals as goal
use Rattle.layer_results.proofs.starving.push_wants.Goals.{then-is_want_reply, else-is_want_reply}

pub push_reserved-requires : goal.push_reserved-requires
push_reserved-requires c =
    let i = c.loop-place.place in let replies = c.args.replies.now in
    let step = wants_more replies i c.index-replies-place.result c.loop-place-test.true c.index-replies-place.is c.if-is_want_reply.ensures in
    omega (
      arith,
      ap length step,
      length-append (wants_among 1 (map content (take i replies))) ((i + 1) ∷ []),
      wants_rest replies (i + 1),
      c.loop-place.invariant.len,
      c.loop-place.invariant.room,
    )

pub loop-place-preserved : goal.loop-place-preserved
loop-place-preserved c =
    let i = c.loop-place.place in let replies = c.args.replies.now in let reply = c.index-replies-place.result in
    let there = c.index-replies-place.is in let so_far = c.loop-place.invariant in
    elim c.if-is_want_reply.branch [
      | then-is_want_reply w ↦
          let step = wants_more replies i reply c.loop-place-test.true there w.if-is_want_reply.ensures in
          let long = length-append (wants_among 1 (map content (take i replies))) ((i + 1) ∷ []) in
          let now = w.names-is in record {
            put = parts_more c.args.id c.args.names.now.items c.loop-place.names.items _ _ _ (i + 1) so_far.put step
                (ap (λ v. v.items) w.names-is ∙ w.push_reserved.ensures.items);
            len = rw w.names-is (omega (arith, ap length step, long, so_far.len, w.push_reserved.ensures.len));
            room = rw w.names-is (omega (arith, so_far.room, w.push_reserved.ensures.capacity));
          }
      | else-is_want_reply w ↦
          let step = wants_same replies i reply c.loop-place-test.true there w.if-is_want_reply.ensures in
          rw (w.names-is, step) so_far
    ]
