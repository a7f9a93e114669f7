-- Bulk strings and nulls as their texts, one behind another, and what is read of such texts.
use Rattle.std.specs.Prelude.{ℕ, zero, suc, ◌+◌, ◌-◌, ◌*◌, ◌==◌, if◌then◌else◌, List, [], ◌∷◌, ◌++◌, length, take, drop, codes, Option, Some, None}
use Rattle.std.specs.Fmt.{decimal}
use Rattle.resp.specs.Ascii.{carriage_return, digit_zero, line_feed, minus}

-- a bulk string's text, or that of null
abbrev pub bulk_text : Option (List ℕ) → List ℕ
bulk_text None = codes "$-1\r\n"
bulk_text (Some bytes) =
    codes "$" ++ decimal (length bytes) ++ (carriage_return ∷ line_feed ∷ []) ++ bytes ++ (carriage_return ∷ line_feed ∷ [])

-- the number that the digits up to a line's end say, where those before them say this one, and the bytes behind that line;
-- none behind a minus
unfoldable pub length_on : ℕ → List ℕ → Option ℕ × List ℕ
length_on n [] = (None, [])
length_on n (b ∷ bs) =
    if b == carriage_return then (Some n, drop 1 bs)
    else if b == minus then (None, drop 3 bs)
    else length_on (n * 10 + (b - digit_zero)) bs

-- so many bytes, and what is behind them and their line's end
abbrev pub bytes_at : Option ℕ × List ℕ → Option (List ℕ) × List ℕ
bytes_at (None, rest) = (None, rest)
bytes_at (Some n, rest) = (Some (take n rest), drop 2 (drop n rest))

-- the first of the texts, read, and the bytes behind it
unfoldable pub bulk_at : List ℕ → Option (List ℕ) × List ℕ
bulk_at text = bytes_at (length_on 0 (drop 1 text))

-- what so many texts say
unfoldable pub bulks_at : ℕ → List ℕ → List (Option (List ℕ))
bulks_at zero text = []
bulks_at (suc n) text = let first = bulk_at text in first.0 ∷ bulks_at n first.1
