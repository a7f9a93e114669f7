-- The slot of a key.
use Rattle.std.specs.Prelude.{ℕ, zero, suc, ◌*◌, ◌%◌, ◌^◌, ◌==◌, Bool, List, Option, Some, None, position, take, fold, bit_xor}
use Rattle.std.specs.List.{after_first}
use Rattle.placement.specs.declared.slots.TheConstants.{SLOTS, OFFSET_BASIS, PRIME}

abbrev pub opening_brace : ℕ
opening_brace = 123

abbrev pub closing_brace : ℕ
closing_brace = 125

-- the byte is `{`, and `}`
abbrev pub opens : ℕ → Bool
opens byte = byte == opening_brace

abbrev pub closes : ℕ → Bool
closes byte = byte == closing_brace

-- what stands behind the first `{`; nothing where there is none
abbrev pub opened : List ℕ → List ℕ
opened key = after_first opens key

-- those bytes up to the closing brace, where there is one and something stands before it; else the whole key
abbrev pub enclosed : List ℕ → List ℕ → Option ℕ → List ℕ
enclosed key inside None = key
enclosed key inside (Some zero) = key
enclosed key inside (Some (suc n)) = take (suc n) inside

-- the hash tag: what stands between the first `{` and the first `}` behind it, if there are both and it isn't empty;
-- else the key
abbrev pub tag : List ℕ → List ℕ
tag key = enclosed key (opened key) (position closes (opened key))

-- one byte more: exclusive or first, then multiply, in 64 bits
abbrev pub fnv1a_step : ℕ → ℕ → ℕ
fnv1a_step hash byte = (bit_xor hash byte * PRIME) % 2 ^ 64

-- FNV-1a of 64 bits
abbrev pub fnv1a : List ℕ → ℕ
fnv1a bytes = fold fnv1a_step OFFSET_BASIS bytes

-- the slot of a key
abbrev pub slot : List ℕ → ℕ
slot key = fnv1a (tag key) % SLOTS
