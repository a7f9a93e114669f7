-- Strings that are lent, as contracts see them.
use Rattle.std.specs.Prelude.{List, map}
use Rattle.std.specs.Borrow.{Bor}
use Rattle.texts.specs.Texts.{Bytes}

-- the bytes of each of these strings
abbrev pub lent_texts : List (Bor Bytes) → List Bytes
lent_texts texts = map (λ text. text.now) texts
