use Rattle.std.proofs.Common.{refl, ap, sym, ◌∙◌}
use Rattle.std.proofs.lemmas.List.{append_assoc}
use Rattle.packing.specs.Codes.{number_at}
use Rattle.journal.proofs.Written.{submit_at-rest, submit_at-none, submit_at-some}
use Rattle.journal.proofs.writer.put_submit.Goals as goal

pub returns-then-count-eq0-clause-ok : goal.returns-then-count-eq0-clause-ok
returns-then-count-eq0-clause-ok c =
    let counted = c.take_number-count.ensures.number ∙ ap (λ l. (number_at l).0) c.take_number-conn.ensures.rest in
    rw (submit_at-none c.args.bytes.now (sym counted ∙ c.if-count-eq0.true)) c.put_name.ensures.ok

pub returns-then-count-eq0-clause-rest : goal.returns-then-count-eq0-clause-rest
returns-then-count-eq0-clause-rest c =
    let counted = c.take_number-count.ensures.number ∙ ap (λ l. (number_at l).0) c.take_number-conn.ensures.rest in
    rw (submit_at-rest c.args.bytes.now, sym counted ∙ c.if-count-eq0.true, ← c.take_number-conn.ensures.rest, ← c.take_number-count.ensures.rest)
    c.put_name.ensures.rest

pub returns-clause-ok : goal.returns-clause-ok
returns-clause-ok c =
    let counted = c.take_number-count.ensures.number ∙ ap (λ l. (number_at l).0) c.take_number-conn.ensures.rest in
    rw (
      submit_at-some c.args.bytes.now (λ none. c.if-count-eq0.false (counted ∙ none)),
      c.in_ok-push.ensures.items,
      c.in_ok-rest.ensures.ok,
      c.in_ok-extend_from_slice-2.ensures.items,
      c.in_ok-extend_from_slice.ensures.items,
      c.as_bytes.ensures.value,
      c.format.ensures.text,
      c.take_number-count.ensures.number,
      c.take_number-count.ensures.rest,
      c.take_number-conn.ensures.number,
      c.take_number-conn.ensures.rest,
    )
    (simp append_assoc)

pub returns-clause-rest : goal.returns-clause-rest
returns-clause-rest c =
    rw (
      submit_at-rest c.args.bytes.now,
      c.in_ok-rest.ensures.rest,
      c.take_number-count.ensures.number,
      c.take_number-count.ensures.rest,
      c.take_number-conn.ensures.rest,
    )
    refl
