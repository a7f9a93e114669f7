-- The bytes of RESP2 by name. Each is a number, since a byte in a clause is one.
use Rattle.std.specs.Prelude.{ℕ}

abbrev pub line_feed : ℕ
line_feed = 10

abbrev pub carriage_return : ℕ
carriage_return = 13

-- `$`, which begins a bulk string
abbrev pub dollar : ℕ
dollar = 36

-- `*`, which begins an array
abbrev pub asterisk : ℕ
asterisk = 42

-- `+`, which begins a simple string
abbrev pub plus : ℕ
plus = 43

-- `:`, which begins an integer
abbrev pub colon : ℕ
colon = 58

-- `-`, which begins an error and a number below 0
abbrev pub minus : ℕ
minus = 45

abbrev pub digit_zero : ℕ
digit_zero = 48

abbrev pub digit_one : ℕ
digit_one = 49

abbrev pub digit_nine : ℕ
digit_nine = 57
