use Rattle.std.proofs.Common.{◌≡◌, length, map, ap, sym, ◌∙◌}
use Rattle.std.proofs.lemmas.List.{length-map}
use Rattle.groups.specs.Skips.{parts_of}
use Rattle.resp.proofs.Contents.{content-Array}
use Rattle.resp.specs.Content.{Several, content, contents}
use Rattle.tasks.proofs.Texts.{texts-array, texts-some}
use Rattle.tasks.proofs.MembersTold.{as_many, members-told, starves-told, tells-all}
use Rattle.tasks.specs.BatchAnswer.{MemberAnswerTakesMemory}
use Rattle.tasks.specs.Starved.{wants_from}
use Rattle.tasks.proofs.answering.answer_batch.Goals as goal

-- behind the array's line stand the texts of its replies, of which there are as many as members
pub invariant_of-answered : goal.invariant_of-answered
invariant_of-answered g c =
    let replies = c.answer_members-replies.result in
    let run = as_many MemberAnswerTakesMemory (parts_of c.args.skip.now c.args.id) 1 _ _ c.in-Exec.members (map content replies.items)
    c.answer_members-replies.ensures.run in
    let counted : c.len-count.result ≡ length replies.items
    = c.len-count.ensures.number ∙ sym run ∙ length-map replies.items content in record {
      is_kept = λ some. texts-array _ _ c.len-count.result replies c.in_ok-text-in-Exec.ensures.line
          c.answer_members-replies.ensures.texts counted;
      is_short = λ none. absurd (texts-some _ _ c.len-count.result replies c.in_ok-text-in-Exec.ensures.line
          c.answer_members-replies.ensures.texts none);
    }

pub returns-in_ok-text-in-Exec-clause-done : goal.returns-in_ok-text-in-Exec-clause-done
returns-in_ok-text-in-Exec-clause-done g c =
    let skip = parts_of c.args.skip.now c.args.id in
    let replies = map content c.answer_members-replies.result.items in
    let starved = wants_from (length c.in-Exec.members) 1 (contents replies) in
    let said = c.answer_members-replies.ensures.run in
    let tells = tells-all MemberAnswerTakesMemory skip _ _ c.in-Exec.members replies said in
    let run = members-told MemberAnswerTakesMemory skip starved 1 _ _ c.in-Exec.members replies said tells in
    rw (c.in-Exec.is, content-Array c.answer_members-replies.result) (ap (λ v. (v.0, Several (contents v.1))) run)

pub returns-in_ok-text-in-Exec-clause-members : goal.returns-in_ok-text-in-Exec-clause-members
returns-in_ok-text-in-Exec-clause-members g c =
    let skip = parts_of c.args.skip.now c.args.id in
    let replies = map content c.answer_members-replies.result.items in
    let starved = wants_from (length c.in-Exec.members) 1 (contents replies) in
    let said = c.answer_members-replies.ensures.run in
    let tells = tells-all MemberAnswerTakesMemory skip _ _ c.in-Exec.members replies said in
    rw (c.in-Exec.is, content-Array c.answer_members-replies.result)
    (starves-told MemberAnswerTakesMemory skip starved 1 _ _ c.in-Exec.members replies said tells)
