-- Which replies have a long text, and which are sure to have none.
use Rattle.std.specs.Prelude.{◌<◌, ◌≤◌, ⊤, length}
use Rattle.resp.specs.Content.{Content, SimpleText, ErrorLine, Number, BulkText, Nothing, Several}
use Rattle.resp.specs.Text.{text}
use Rattle.resp.specs.declared.answered.TheConstants.{LONG, SHORT_BULK}

-- its text has more than 128 bytes
abbrev pub IsLong : Content → Type 0
IsLong c = LONG < length (text c)

-- it is short by its kind: a line or a bulk string of at most 100 bytes, a number, or null
abbrev pub IsShort : Content → Type 0
IsShort (SimpleText line) = length line ≤ SHORT_BULK
IsShort (ErrorLine line) = length line ≤ SHORT_BULK
IsShort (Number n) = ⊤
IsShort (BulkText bytes) = length bytes ≤ SHORT_BULK
IsShort Nothing = ⊤
IsShort (Several cs) = ⊥
