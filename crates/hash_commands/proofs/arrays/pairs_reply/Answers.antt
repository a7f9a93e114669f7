use Rattle.std.proofs.Common.{◌≤◌, Some, map, length, ap, ◌∙◌, arith}
use Rattle.std.proofs.lemmas.List.{take_all}
use Rattle.hash_commands.proofs.Replies.{texts_more}
use Rattle.resp.proofs.Contents.{content-texts}
use Rattle.resp.specs.Content.{content}
use Rattle.resp.specs.declared.reply.Reply.TheVariants.{Bulks}
use Rattle.texts.specs.Texts.{by_turns}
use Rattle.hash_commands.proofs.arrays.pairs_reply.Goals as goal

pub loop-place-preserved : goal.loop-place-preserved
loop-place-preserved c =
    texts_more c.args.hash.now c.loop-place.place (c.in-Some.field.now, c.in-Some.value.now) c.in-Some.ensures c.loop-place.invariant
    c.in_ok-push.ensures.ok c.in_ok-push-2.ensures.ok

pub returns-clause-copied : goal.returns-clause-copied
returns-clause-copied c =
    let pairs = c.args.hash.now in
    let past : length pairs ≤ c.loop-place.place = omega (arith, c.len-place-end.ensures.len, c.loop-place-test.false) in
    ap (λ ts. content (Bulks ts)) (c.loop-place.invariant ∙ ap (λ l. map Some (by_turns l)) (take_all c.loop-place.place pairs past))
    ∙ content-texts (by_turns pairs)
