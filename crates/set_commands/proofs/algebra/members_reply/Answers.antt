use Rattle.std.proofs.Common.{Some, map, ap, ◌∙◌}
use Rattle.std.proofs.lemmas.List.{take_all}
use Rattle.resp.proofs.Contents.{content-texts}
use Rattle.resp.specs.Content.{content}
use Rattle.resp.specs.declared.reply.Reply.TheVariants.{Bulks}
use Rattle.set_commands.specs.Lent.{lent_texts}
use Rattle.set_commands.proofs.algebra.members_reply.Goals as goal

pub returns : goal.returns
returns c =
    let read = take_all c.loop-member.member-index c.args.combined.now c.loop-member-test.false in
    let texts = c.loop-member.invariant ∙ ap (λ xs. map Some (lent_texts xs)) read in
    ap (λ ts. content (Bulks ts)) texts ∙ content-texts (lent_texts c.args.combined.now)
