-- Adding to a number that is stored as its text.
use Rattle.std.specs.Prelude.{ℤ, ◌+ℤ◌, Option, Some, None, Result, Ok, Err, if◌then◌else◌}
use Rattle.integers.specs.Integer.{fits_64_bits, integer_of}
use Rattle.integers.specs.declared.sum.SumFault.{SumFault}
use Rattle.integers.specs.declared.sum.SumFault.TheVariants.{NotInteger, Overflow}
use Rattle.texts.specs.Texts.{Bytes}

-- the sum, where there is a number to add to and the sum has 64 bits
abbrev pub number_sum : Option ℤ → ℤ → Result ℤ SumFault
number_sum None by = Err NotInteger
number_sum (Some n) by = if fits_64_bits (n +ℤ by) then Ok (n +ℤ by) else Err Overflow

-- the sum of a stored number and another one; a number that is missing counts as 0
abbrev pub stored_sum : Option Bytes → ℤ → Result ℤ SumFault
stored_sum None by = Ok by
stored_sum (Some text) by = number_sum (integer_of text) by
