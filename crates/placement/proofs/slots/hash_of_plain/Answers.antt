use Rattle.std.proofs.Common.{◌∙◌}
use Rattle.placement.proofs.Walked.{hashed_8, opened_8}
use Rattle.placement.proofs.slots.hash_of_plain.Goals as goal

pub loop-rest-preserved : goal.loop-rest-preserved
loop-rest-preserved c =
    let rest = c.loop-rest.rest.now in
    let long = c.in-len8-up.len_at_least in (
      (rw (
        c.with_byte-hash-in-len8-up.ensures,
        c.with_byte-in-len8-up-5.ensures,
        c.with_byte-in-len8-up-4.ensures,
        c.with_byte-in-len8-up-3.ensures,
        c.with_byte-hash.ensures,
        c.with_byte-in-len8-up-2.ensures,
        c.with_byte-in-len8-up.ensures,
        c.with_byte.ensures,
      )
          (hashed_8 rest c.loop-rest.hash long)) ∙ c.loop-rest.invariant.0,
      c.loop-rest.invariant.1 ∙ opened_8 rest long (rw (
        ← c.opens.ensures,
        ← c.opens-in-len8-up.ensures,
        ← c.opens-in-len8-up-2.ensures,
        ← c.opens-in-len8-up-3.ensures,
        ← c.opens-in-len8-up-4.ensures,
        ← c.opens-in-len8-up-5.ensures,
        ← c.opens-in-len8-up-6.ensures,
        ← c.opens-in-len8-up-7.ensures,
      ) c.if-opens.false),
    )
