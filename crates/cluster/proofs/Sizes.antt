-- How many bytes steps take.
use Rattle.std.proofs.Common.{◌≡◌, ◌≤◌, length, refl, ap, arith}
use Rattle.journal.specs.Codes.{step_code, step_size}
use Rattle.journal.specs.declared.step.Step.TheVariants.{Deliver, Take, Settle, Collect, Close}
use Rattle.packing.specs.CodeLaws.{number_code-few, number_code-one}
use Rattle.groups.specs.declared.request.ConnId.{ConnId}

-- how many bytes a Close takes
pub close_few : (conn : ConnId) → step_size (Close conn) ≤ 10
unfolding step_code
close_few conn = omega (arith, number_code-few conn.0)

-- and a Collect
pub collect_few : (conn : ConnId) → step_size (Collect conn) ≤ 10
unfolding step_code
collect_few conn = omega (arith, number_code-few conn.0)

-- and a Settle
pub settle_size : step_size Settle ≡ 1
unfolding step_code
settle_size = refl

-- and the Deliver of the oldest packet
pub deliver_size : step_size (Deliver 0) ≡ 2
unfolding step_code
deliver_size = omega (arith, ap length (number_code-one 0 (omega arith)))

-- and a Take
pub take_size : step_size Take ≡ 1
unfolding step_code
take_size = refl
