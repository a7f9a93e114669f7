-- The statuses of the program.
use Rattle.std.specs.Prelude.{ℕ, Result, Ok, Err}
use Rattle.serving.specs.declared.outcome.Served.{Served}
use Rattle.serving.specs.declared.outcome.Served.TheVariants as served
use Rattle.serving.specs.declared.outcome.ServeFault.{ServeFault}
use Rattle.serving.specs.declared.outcome.ServeFault.TheVariants as fault
use Rattle.solo.specs.declared.fault.ConnectionFault.{ConnectionFault}
use Rattle.solo.specs.declared.fault.ConnectionFault.TheVariants.{NoMemory}

-- 0 for all that was served
abbrev pub status_of : Result Served (ServeFault ConnectionFault) → ℕ
status_of (Ok served.End) = 0
status_of (Ok served.Inside) = 1
status_of (Ok (served.Protocol why)) = 1
status_of (Err fault.Read) = 2
status_of (Err fault.Write) = 2
status_of (Err fault.Memory) = 3
status_of (Err (fault.Door NoMemory)) = 3
