use Rattle.std.proofs.Common.{◌≡◌, Some, map, ap, rules, ◌∙◌}
use Rattle.resp.proofs.Contents.{content-texts}
use Rattle.resp.specs.Content.{content}
use Rattle.resp.specs.declared.reply.Reply.TheVariants.{Bulks}
use Rattle.set_commands.proofs.arrays.members_reply.Goals as goal

pub returns-clause-copied : goal.returns-clause-copied
returns-clause-copied c =
    let texts : c.loop-member.texts ≡ map Some c.args.set.now = search rules in
    ap (λ ts. content (Bulks ts)) texts ∙ content-texts c.args.set.now
