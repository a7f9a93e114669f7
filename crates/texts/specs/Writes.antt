-- What a write into a byte string leaves.
use Rattle.std.specs.Prelude.{ℕ, ◌+◌, ◌-◌, ◌++◌, length, take, drop, replicate}
use Rattle.texts.specs.Texts.{Bytes}

-- the first n bytes, filled up to n with zero bytes where there are fewer
abbrev pub padded : Bytes → ℕ → Bytes
padded bytes n = take n bytes ++ replicate (n - length bytes) 0

-- the string with `more` written over it from `offset` on: what lies before is filled up with zero bytes, what lies
-- behind stays
abbrev pub written_at : Bytes → ℕ → Bytes → Bytes
written_at bytes offset more = padded bytes offset ++ more ++ drop (offset + length more) bytes
