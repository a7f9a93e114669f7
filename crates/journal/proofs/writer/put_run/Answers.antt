use Rattle.std.proofs.Common.{refl}
use Rattle.std.proofs.lemmas.List.{append_assoc}
use Rattle.packing.specs.Codes.{many, number_at}
use Rattle.journal.specs.Codes.{skip_at}
use Rattle.journal.proofs.Written.{run-written, run_at-is}
use Rattle.journal.proofs.writer.put_run.Goals as goal

pub returns-clause-ok : goal.returns-clause-ok
returns-clause-ok c =
    rw (
      c.in_ok-push.ensures.items,
      c.in_ok-rest.ensures.ok,
      c.in_ok-extend_from_slice.ensures.items,
      c.take_number-count.ensures.number,
      c.take_number-count.ensures.rest,
      run_at-is c.args.bytes.now,
      run-written (many skip_at (number_at c.args.bytes.now).0 (number_at c.args.bytes.now).1).0,
    )
    (simp append_assoc)

pub returns-clause-rest : goal.returns-clause-rest
returns-clause-rest c =
    rw (c.in_ok-rest.ensures.rest, c.take_number-count.ensures.number, c.take_number-count.ensures.rest, run_at-is c.args.bytes.now) refl
