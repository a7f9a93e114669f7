-- What the reply of an EXEC tells of its members.
use Rattle.std.specs.Prelude.{◌≡◌, ℕ, suc, true, List}
use Rattle.tasks.specs.Starved.{has, is_want}
use Rattle.resp.specs.Content.{Content, Contents, SimpleText, ErrorLine, Number, BulkText, Nothing, Several, NoMore, Then}

-- each of these places that says that there was no memory has one of the numbers; the first place has the number n
abbrev pub AreToldBy : List ℕ → ℕ → Contents → Type 0
AreToldBy numbers n NoMore = Unit {0}
AreToldBy numbers n (Then reply replies) = (is_want reply ≡ true → has numbers n ≡ true) × AreToldBy numbers (suc n) replies

-- the reply is an array of such places
abbrev pub IsToldBy : List ℕ → Content → Type 0
IsToldBy numbers (SimpleText line) = ⊥
IsToldBy numbers (ErrorLine line) = ⊥
IsToldBy numbers (Number n) = ⊥
IsToldBy numbers (BulkText bytes) = ⊥
IsToldBy numbers Nothing = ⊥
IsToldBy numbers (Several replies) = AreToldBy numbers 1 replies
