use Rattle.std.proofs.Common.{subst}
use Rattle.journal.specs.TraceReading.{IsLine}
use Rattle.journal.proofs.ReadLaws.{head-open, head-bad, max-open, max-bad, head-read}
use Rattle.journal.proofs.reader.read_head.Goals as goal

pub returns-in_default : goal.returns-in_default
returns-in_default c = head-open c.args.text.now c.in_default.ensures

pub returns-in_default-number_up_to : goal.returns-in_default-number_up_to
returns-in_default-number_up_to c = head-bad c.args.text.now _ _ c.in-Some.ensures c.in_default-number_up_to.ensures

pub returns-in_default-next_line : goal.returns-in_default-next_line
returns-in_default-next_line c =
    let text = c.args.text.now in let rest = c.in-Some.rest.now in let version = c.in-Some-number_up_to.ensures in
    max-open text rest _ (record { first = version.1; last = version.2 }) (subst (λ l. IsLine text l rest) version.0 c.in-Some.ensures)
    c.in_default-next_line.ensures

pub returns-in_default-number_up_to-2 : goal.returns-in_default-number_up_to-2
returns-in_default-number_up_to-2 c =
    let text = c.args.text.now in let rest = c.in-Some.rest.now in let version = c.in-Some-number_up_to.ensures in
    max-bad text rest _ _ _ (record { first = version.1; last = version.2 }) (subst (λ l. IsLine text l rest) version.0 c.in-Some.ensures)
    c.in-Some-next_line.ensures c.in_default-number_up_to-2.ensures

pub returns : goal.returns
returns c =
    let text = c.args.text.now in let rest = c.in-Some.rest.now in let behind = c.in-Some-next_line.rest.now in
    let version = c.in-Some-number_up_to.ensures in let max = c.in-Some-number_up_to-2.ensures in (
      max.1,
      max.2,
      head-read text rest behind _ _ (record { first = version.1; last = version.2 })
          (subst (λ l. IsLine text l rest) version.0 c.in-Some.ensures)
          (subst (λ l. IsLine rest l behind) max.0 c.in-Some-next_line.ensures) max.1 max.2,
    )
