use Rattle.std.proofs.Common.{◌≤◌, Some, map, length, ap, ◌∙◌, arith}
use Rattle.std.proofs.lemmas.List.{take_all}
use Rattle.hash_commands.proofs.Replies.{text_more, content-map}
use Rattle.resp.specs.Content.{content}
use Rattle.resp.specs.declared.reply.Reply.TheVariants.{Bulks}
use Rattle.hash_commands.proofs.arrays.fields_reply.Goals as goal

pub loop-place-preserved : goal.loop-place-preserved
loop-place-preserved c =
    text_more (λ p. p.0) c.args.hash.now c.loop-place.place (c.in-Some.field.now, c.in-Some.field-0-1.now) c.in-Some.ensures
    c.loop-place.invariant c.in_ok-push.ensures.ok

pub returns-clause-copied : goal.returns-clause-copied
returns-clause-copied c =
    let pairs = c.args.hash.now in
    let past : length pairs ≤ c.loop-place.place = omega (arith, c.len-place-end.ensures.len, c.loop-place-test.false) in
    ap (λ ts. content (Bulks ts)) (c.loop-place.invariant ∙ ap (map (λ p. Some p.0)) (take_all c.loop-place.place pairs past))
    ∙ content-map (λ p. p.0) pairs
