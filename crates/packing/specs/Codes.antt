-- How numbers and words lie one behind another in bytes. Each says where it ends, so that what follows can be found.
use Rattle.std.specs.Prelude.{ℕ, zero, suc, ◌<◌, ◌^◌, List, [], ◌∷◌, ◌++◌, length, slice_index, take, drop, nat_lt, nat_le, ◌&&◌, ◌==◌}
use Rattle.std.specs.Prelude.{if◌then◌else◌}
use Rattle.std.specs.List.{flat_map, AllByRecursion}
use Rattle.std.specs.Int.{w32, w64, to_le_bytes, from_le_bytes}

-- ---- numbers below 2^64

-- itself where it is below 254; else a mark, and its four or eight bytes, the lowest first
unfoldable pub number_code : ℕ → List ℕ
number_code n =
    if nat_lt n 254 then n ∷ []
    else if nat_lt n (2 ^ 32) then 254 ∷ to_le_bytes w32 n
    else 255 ∷ to_le_bytes w64 n

-- the number at the front of the bytes, and the bytes behind it
unfoldable pub number_at : List ℕ → ℕ × List ℕ
number_at [] = (0, [])
number_at (b ∷ bs) =
    if b == 255 && nat_le 8 (length bs) then (from_le_bytes w64 bs, drop 8 bs)
    else if b == 254 && nat_le 4 (length bs) then (from_le_bytes w32 bs, drop 4 bs)
    else (b, bs)

-- ---- words

-- a word: its length, and its bytes
unfoldable pub word_code : List ℕ → List ℕ
word_code word = number_code (length word) ++ word

unfoldable pub word_at : List ℕ → List ℕ × List ℕ
word_at bytes = let n = number_at bytes in (take n.0 n.1, drop n.0 n.1)

-- so many things one behind another, and the bytes behind them
abbrev pub many : {A : Type 0} → (List ℕ → A × List ℕ) → ℕ → List ℕ → List A × List ℕ
many at zero bytes = ([], bytes)
many at (suc n) bytes = let first = at bytes in let more = many at n first.1 in (first.0 ∷ more.0, more.1)

-- some words: how many there are, and each of them
unfoldable pub words_code : List (List ℕ) → List ℕ
words_code words = number_code (length words) ++ flat_map word_code words

unfoldable pub words_at : List ℕ → List (List ℕ) × List ℕ
words_at bytes = let n = number_at bytes in many word_at n.0 n.1

-- ---- what can lie in memory

-- its elements are bytes, and there are fewer than 2^64 of them
pub record WordFits (word : List ℕ) : Type 0 where
  pub size : length word < 2 ^ 64
  pub bytes : (i : ℕ) → slice_index word i < 256

-- there is a word, and there are so many, with so many bytes in each, as a memory of 2^64 bytes may hold
pub record WordsFit (words : List (List ℕ)) : Type 0 where
  pub some : 0 < length words
  pub count : length words < 2 ^ 64
  pub each : AllByRecursion WordFits words
