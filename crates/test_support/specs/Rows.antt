-- The bytes of a row as a person writes it.
use Rattle.std.specs.Prelude.{ℕ, List, [], ◌∷◌, ◌==◌, if◌then◌else◌, codes}
use Rattle.std.specs.List.{flat_map}

-- `|`, which stands for the end of a line
abbrev pub bar : ℕ
bar = 124

-- what a byte of a row stands for: itself, and a bar for CR LF
abbrev pub meant : ℕ → List ℕ
meant byte = if byte == bar then codes "\r\n" else (byte ∷ [])

abbrev pub row_bytes : List ℕ → List ℕ
row_bytes row = flat_map meant row
