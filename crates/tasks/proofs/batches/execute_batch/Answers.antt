use Rattle.std.proofs.Common.{map, ap, length}
use Rattle.resp.proofs.Contents.{content-Array}
use Rattle.resp.specs.Content.{Several, content, contents}
use Rattle.tasks.proofs.MembersTold.{members-told, starves-told, tells-all}
use Rattle.tasks.specs.Member.{MemberTakesMemory}
use Rattle.tasks.specs.Starved.{wants_from}
use Rattle.tasks.proofs.batches.execute_batch.Goals as goal

pub returns-in_ok-room-in-Exec-clause-done : goal.returns-in_ok-room-in-Exec-clause-done
returns-in_ok-room-in-Exec-clause-done g c =
    let replies = map content c.run_members.result.items in
    let starved = wants_from (length c.in-Exec.members) 1 (contents replies) in
    let tells = tells-all MemberTakesMemory c.args.skip.now _ _ c.in-Exec.members replies c.run_members.ensures.run in
    let run = members-told MemberTakesMemory c.args.skip.now starved 1 _ _ c.in-Exec.members replies c.run_members.ensures.run tells in
    rw (c.in-Exec.is, content-Array c.run_members.result) (ap (λ v. (v.0, Several (contents v.1))) run)

pub returns-in_ok-room-in-Exec-clause-members : goal.returns-in_ok-room-in-Exec-clause-members
returns-in_ok-room-in-Exec-clause-members g c =
    let replies = map content c.run_members.result.items in
    let starved = wants_from (length c.in-Exec.members) 1 (contents replies) in
    let tells = tells-all MemberTakesMemory c.args.skip.now _ _ c.in-Exec.members replies c.run_members.ensures.run in
    rw (c.in-Exec.is, content-Array c.run_members.result)
    (starves-told MemberTakesMemory c.args.skip.now starved 1 _ _ c.in-Exec.members replies c.run_members.ensures.run tells)
