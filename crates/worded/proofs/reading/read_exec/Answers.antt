use Rattle.std.proofs.Common.{◌+◌, drop, arith}
use Rattle.std.proofs.lemmas.Result.{err_from_is_err_and}
use Rattle.packing.specs.CodeLaws.{all_more, drop_one}
use Rattle.sessions.specs.Member.{IsKeyedMember}
use Rattle.worded.proofs.BatchWords.{read_more, read_fault}
use Rattle.worded.proofs.reading.read_exec.Goals as goal

pub returns-in_err-member-clause-fault : goal.returns-in_err-member-clause-fault
returns-in_err-member-clause-fault c =
    let words = c.args.words.now in let i = c.loop-place.place in
    let p = err_from_is_err_and c.from_residual-in_err-member.result c.from_residual-in_err-member.ensures.1 in
    rw (p.1, p.2) (read_fault c.loop-place.members.items (drop 1 words) (drop i words) (drop (i + 1) words) c.word.result.now _
    c.loop-place.invariant.0 (drop_one words i c.word.result.now c.word.ensures) c.in_err-member.ensures.fault)

pub loop-place-preserved : goal.loop-place-preserved
loop-place-preserved c =
    let words = c.args.words.now in let i = c.loop-place.place in let so_far = c.loop-place.invariant in (
      read_more c.loop-place.members.items c.push_reserved.new.self.items c.in_ok-member.member (drop 1 words) (drop i words)
          (drop (i + 1) words) c.word.result.now so_far.0 (drop_one words i c.word.result.now c.word.ensures)
          c.in_ok-member.ensures.read c.push_reserved.ensures.items,
      rw c.push_reserved.ensures.items (all_more IsKeyedMember c.loop-place.members.items _ so_far.1 c.in_ok-member.ensures.keyed),
      omega arith,
      omega arith,
    )
