use Rattle.std.proofs.Common.{arith, ap, length}
use Rattle.std.proofs.lemmas.List.{append_assoc}
use Rattle.journal.proofs.CodeLaws.{id_code-is, length-part}
use Rattle.journal.proofs.codes.put_skip.Goals as goal

pub put_number-requires : goal.put_number-requires
put_number-requires c =
    let parts = c.parts_of-number.result in omega (arith, ap length c.parts_of-number.ensures, length-part parts.0 parts.1)

pub put_number-requires-2 : goal.put_number-requires-2
put_number-requires-2 c =
    let parts = c.parts_of-number.result in omega (arith, ap length c.parts_of-number.ensures, length-part parts.0 parts.1)

pub put_number-requires-3 : goal.put_number-requires-3
put_number-requires-3 c =
    let parts = c.parts_of-number.result in omega (arith, ap length c.parts_of-number.ensures, length-part parts.0 parts.1)

pub returns-clause-items : goal.returns-clause-items
returns-clause-items c =
    rw (
      c.put_number-3.ensures.items,
      c.put_number-2.ensures.items,
      c.put_number.ensures.items,
      c.parts_of-number.ensures,
      id_code-is c.parts_of-number.result.0,
    ) (simp append_assoc)

pub returns-clause-len : goal.returns-clause-len
returns-clause-len c =
    let parts = c.parts_of-number.result in omega (arith, ap length c.parts_of-number.ensures, length-part parts.0 parts.1)
