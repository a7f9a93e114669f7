use Rattle.std.proofs.lemmas.List.{append_assoc}
use Rattle.packing.specs.CodeLaws.{all_more, many_one}
use Rattle.journal.specs.Codes.{skip_at}
use Rattle.journal.specs.Names.{IsNumbered}
use Rattle.journal.proofs.CodeLaws.{numbered_at}
use Rattle.journal.proofs.codes.take_skips.Goals as goal

pub loop-preserved : goal.loop-preserved
loop-preserved c =
    let one = many_one skip_at c.take_number-count.result.0 c.loop.counter c.loop.rest.now c.loop-test.true in (
      rw (c.take_skip-name.ensures.rest, c.in_ok-push.ensures.items, c.take_skip-name.ensures.name)
          (simp append_assoc (rw (← one.0) c.loop.invariant.0)),
      rw c.take_skip-name.ensures.rest (rw (← one.1) c.loop.invariant.1),
      rw (c.in_ok-push.ensures.items, c.take_skip-name.ensures.name)
          (all_more IsNumbered _ _ c.loop.invariant.2 (numbered_at c.loop.rest.now)),
    )
