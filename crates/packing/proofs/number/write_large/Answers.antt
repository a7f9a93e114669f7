-- A byte and then the number's own: what the number's code is there.
use Rattle.std.proofs.Common.{arith}
use Rattle.std.proofs.lemmas.List.{append_assoc}
use Rattle.packing.specs.CodeLaws.{number_code-four, number_code-eight}
use Rattle.packing.proofs.number.write_large.Goals as goal

pub returns-then-number-clause-written : goal.returns-then-number-clause-written
returns-then-number-clause-written c =
    rw (
      c.write_bytes.ensures.written,
      c.write_byte-behind.ensures.written,
      c.to_le_bytes.ensures,
      number_code-four c.args.number (omega arith) (omega arith),
    )
    (simp append_assoc)

pub returns-clause-written : goal.returns-clause-written
returns-clause-written c =
    rw (
      c.write_bytes-2.ensures.written,
      c.write_byte-behind-2.ensures.written,
      c.to_le_bytes-2.ensures,
      number_code-eight c.args.number (omega arith),
    )
    (simp append_assoc)
