-- A byte and then the number's own: what the number's code is there.
use Rattle.std.proofs.Common.{arith}
use Rattle.std.proofs.lemmas.List.{append_assoc}
use Rattle.packing.specs.CodeLaws.{number_code-four, number_code-eight}
use Rattle.packing.proofs.number.put_number.Goals as goal

pub returns-then-number-2-clause-items : goal.returns-then-number-2-clause-items
returns-then-number-2-clause-items c =
    rw (
      c.put_bytes.ensures.items,
      c.push_reserved-then-number-2.ensures.items,
      c.to_le_bytes.ensures,
      number_code-four c.args.number
          (omega arith) (omega arith),
    )
    (simp append_assoc)

pub returns-else-number-2-clause-items : goal.returns-else-number-2-clause-items
returns-else-number-2-clause-items c =
    rw (
      c.put_bytes-else-number-2.ensures.items,
      c.push_reserved-else-number-2.ensures.items,
      c.to_le_bytes-else-number-2.ensures,
      number_code-eight c.args.number (omega arith),
    )
    (simp append_assoc)
