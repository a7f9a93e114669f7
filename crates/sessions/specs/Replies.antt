-- What a session answers by itself.
use Rattle.std.specs.Prelude.{codes}
use Rattle.command_table.specs.Refusal.{refusal_text}
use Rattle.command_table.specs.declared.refusal.Refusal.{Refusal}
use Rattle.resp.specs.Content.{Content, SimpleText, ErrorLine, Several, NoMore}

-- a member was added to the list
abbrev pub queued : Content
queued = SimpleText (codes "QUEUED")

-- MULTI within a list
abbrev pub nested : Content
nested = ErrorLine (codes "ERR MULTI calls can not be nested")

-- EXEC without a list
abbrev pub exec_alone : Content
exec_alone = ErrorLine (codes "ERR EXEC without MULTI")

-- DISCARD without a list
abbrev pub discard_alone : Content
discard_alone = ErrorLine (codes "ERR DISCARD without MULTI")

-- EXEC of a list that is spoilt
abbrev pub aborted : Content
aborted = ErrorLine (codes "EXECABORT Transaction discarded because of previous errors.")

-- EXEC of a list with no member
abbrev pub no_replies : Content
no_replies = Several NoMore

-- words that are no command, and no member
abbrev pub refused : Refusal → Content
refused refusal = ErrorLine (refusal_text refusal)
