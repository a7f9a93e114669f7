-- Why words aren't read.
use Rattle.std.specs.Prelude.{◌≡◌, ℕ, List, Result, Err}
use Rattle.command_table.specs.Reading.{reading}
use Rattle.command_table.specs.declared.refusal.Refusal.{Refusal}
use Rattle.worded.specs.declared.fault.WordedFault.{WordedFault}
use Rattle.worded.specs.declared.fault.WordedFault.TheVariants.{Refused, Memory}

-- it was read that they are refused so; or there was no memory
abbrev pub IsFaultOf : {T : Type 0} → Result T Refusal → WordedFault → Type 0
IsFaultOf read (Refused refusal) = read ≡ Err refusal
IsFaultOf read Memory = Unit {0}

-- the table refuses them so; or there was no memory for their copy
abbrev pub IsFault : List (List ℕ) → WordedFault → Type 0
IsFault words = IsFaultOf (reading words)
