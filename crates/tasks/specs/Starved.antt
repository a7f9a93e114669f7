-- Which members of a batch starved, by their numbers, which count from 1, and as the reply tells them.
use Rattle.std.specs.Prelude.{ℕ, zero, suc, Bool, false, nat_eq, List, [], ◌∷◌, length, codes, if◌then◌else◌}
use Rattle.std.specs.List.{list_any}
use Rattle.std.specs.Str.{bytes_eq}
use Rattle.resp.specs.Content.{Content, Contents, SimpleText, ErrorLine, Number, BulkText, Nothing, Several, NoMore, Then}
use Rattle.sessions.specs.declared.batch.Batch.{Batch}
use Rattle.sessions.specs.declared.batch.Batch.TheVariants.{Plain, Exec}

-- the number is one of these
abbrev pub has : List ℕ → ℕ → Bool
has numbers n = list_any (λ number. nat_eq number n) numbers

-- the reply says that there was no memory
abbrev pub is_want : Content → Bool
is_want (SimpleText line) = false
is_want (ErrorLine line) = bytes_eq line (codes "ERR out of memory")
is_want (Number n) = false
is_want (BulkText bytes) = false
is_want Nothing = false
is_want (Several replies) = false

-- the numbers of those of so many replies that say so, counted from n
abbrev pub wants_from : (count : ℕ) → ℕ → Contents → List ℕ
wants_from zero n replies = []
wants_from (suc count) n NoMore = []
wants_from (suc count) n (Then reply replies) =
    if is_want reply then n ∷ wants_from count (suc n) replies else wants_from count (suc n) replies

-- those of the first so many places of an array
abbrev pub wants_in : (count : ℕ) → Content → List ℕ
wants_in count (SimpleText line) = []
wants_in count (ErrorLine line) = []
wants_in count (Number n) = []
wants_in count (BulkText bytes) = []
wants_in count Nothing = []
wants_in count (Several replies) = wants_from count 1 replies

-- the members that starved, of a batch that was answered so: those of an EXEC whose place says that there was no memory,
-- which no other member answers; a command outside a list has none, be its reply an array or not
abbrev pub starved_in : Batch → Content → List ℕ
starved_in (Plain command) reply = []
starved_in (Exec members) reply = wants_in (length members) reply
