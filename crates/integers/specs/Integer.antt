-- Which texts are integers.
use Rattle.std.specs.Prelude.{◌≡◌, ◌^◌, ◌&&◌, Bool, true, ℤ, pos, negsuc, Option, Some, None, nat_lt, if◌then◌else◌}
use Rattle.std.specs.Fmt.{signed_decimal}
use Rattle.std.specs.Str.{bytes_eq}
use Rattle.std.specs.Str.Parse.{signed_digits_value}
use Rattle.texts.specs.Texts.{Bytes}

-- the number has 64 bits with sign
abbrev pub fits_64_bits : ℤ → Bool
fits_64_bits (pos n) = nat_lt n (2 ^ 63)
fits_64_bits (negsuc n) = nat_lt n (2 ^ 63)

-- the text is what is printed of this number of 64 bits with sign
abbrev pub IsIntegerText : Bytes → ℤ → Type 0
IsIntegerText text n = (fits_64_bits n ≡ true) × (text ≡ signed_decimal n)

-- the number that the text is: the one that its sign and digits write, where it has 64 bits and is printed so
abbrev pub integer_of : Bytes → Option ℤ
integer_of text =
    let n = signed_digits_value 10 text in
    if fits_64_bits n && bytes_eq text (signed_decimal n) then Some n else None
