-- Five numbers, one behind another.
use Rattle.std.proofs.lemmas.List.{append_assoc}
use Rattle.journal.proofs.CodeLaws.{head_code-is}
use Rattle.journal.proofs.codes.put_head.Goals as goal

pub returns-clause-items : goal.returns-clause-items
returns-clause-items c =
    rw (
      c.put_number-5.ensures.items,
      c.put_number-4.ensures.items,
      c.put_number-3.ensures.items,
      c.put_number-2.ensures.items,
      c.put_number.ensures.items,
      c.number.ensures.same,
      head_code-is c.args.id c.args.stamp.now c.args.words_size,
    )
    (simp append_assoc)
