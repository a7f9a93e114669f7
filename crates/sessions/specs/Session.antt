-- What a session makes of a request: MULTI opens a list, other requests become its members, EXEC gives the list to be
-- run, DISCARD drops it.
use Rattle.std.specs.Prelude.{◌≡◌, ◌==◌, List, [], ◌∷◌, ◌++◌, length, Option, Some, None, Result, Ok, Err, ⊤, if◌then◌else◌}
use Rattle.command_cases.specs.Replies.{ok}
use Rattle.command_table.specs.CommandRow.{Reading}
use Rattle.command_table.specs.Keyed.{IsKeyed}
use Rattle.command_table.specs.Reading.{reading}
use Rattle.command_table.specs.Words.{Word}
use Rattle.command_table.specs.declared.refusal.Refusal.{Refusal}
use Rattle.command_table.specs.declared.refusal.Refusal.TheVariants.{Arity}
use Rattle.resp.specs.Content.{Content, content}
use Rattle.sessions.specs.Control.{control_name, control_in}
use Rattle.sessions.specs.Member.{member_of}
use Rattle.sessions.specs.Replies.{queued, nested, exec_alone, discard_alone, aborted, no_replies, refused}
use Rattle.sessions.specs.declared.batch.Ask.{Ask}
use Rattle.sessions.specs.declared.batch.Ask.TheVariants as ask
use Rattle.sessions.specs.declared.batch.Batch.{Batch}
use Rattle.sessions.specs.declared.batch.Batch.TheVariants as batch
use Rattle.sessions.specs.declared.control.Control.{Control}
use Rattle.sessions.specs.declared.control.Control.TheVariants.{Multi, Exec, Discard}
use Rattle.sessions.specs.declared.member.Member.{Member}
use Rattle.sessions.specs.declared.session.Session.{Session}
use Rattle.sessions.specs.declared.session.Session.TheVariants.{Free, Listing, Spoilt}

-- what comes of a request: it is answered at once, or a batch is to be run
pub data Answer : Type 0 where
  Now : Content → Answer
  Go : Batch → Answer

abbrev pub answer_of : Ask → Answer
answer_of (ask.Now reply) = Now (content reply)
answer_of (ask.Go batch) = Go batch

-- one of the three, with no word beside its name
abbrev pub obey : Session → Control → Session × Answer
obey Free Multi = (Listing [], Now ok)
obey Free Exec = (Free, Now exec_alone)
obey Free Discard = (Free, Now discard_alone)
obey (Listing members) Multi = (Listing members, Now nested)
obey (Listing []) Exec = (Free, Now no_replies)
obey (Listing (m ∷ ms)) Exec = (Free, Go (batch.Exec (m ∷ ms)))
obey (Listing members) Discard = (Free, Now ok)
obey Spoilt Multi = (Spoilt, Now nested)
obey Spoilt Exec = (Free, Now aborted)
obey Spoilt Discard = (Free, Now ok)

-- a list that is open is spoilt
abbrev pub spoilt : Session → Session
spoilt Free = Free
spoilt (Listing members) = Spoilt
spoilt Spoilt = Spoilt

-- a command outside a list is to be run, and what can't be read is answered
abbrev pub plain : Reading → Answer
plain (Ok command) = Go (batch.Plain command)
plain (Err refusal) = Now (refused refusal)

-- what can be a member is added to the list; what can't spoils it
abbrev pub with_member : List Member → Result Member Refusal → Session
with_member members (Ok member) = Listing (members ++ member ∷ [])
with_member members (Err refusal) = Spoilt

-- and what it is answered
abbrev pub member_answer : Result Member Refusal → Content
member_answer (Ok member) = queued
member_answer (Err refusal) = refused refusal

-- a request of another name, by what is read of it: a list that is spoilt takes no more members, and answers as if it did
abbrev pub take_up : Session → Reading → Session × Answer
take_up Free read = (Free, plain read)
take_up (Listing members) read = (with_member members (member_of read), Now (member_answer (member_of read)))
take_up Spoilt read = (Spoilt, Now (member_answer (member_of read)))

-- a request, by the one of the three that its words name: other words beside that name are a wrong number of them
abbrev pub asked : Session → List Word → Option Control → Session × Answer
asked session words None = take_up session (reading words)
asked session words (Some control) =
    if length words == 1 then obey session control else (spoilt session, Now (refused (Arity (control_name control))))

-- what a request leaves, and what comes of it
abbrev pub asks : Session → List Word → Session × Answer
asks session words = asked session words (control_in words)

-- a list is open and the request is to be its next member
abbrev pub Queues : Session → List Word → Type 0
Queues session words =
    (members : List Member) × (member : Member) × (session ≡ Listing members)
    × (asks session words ≡ (Listing (members ++ member ∷ []), Now queued))

-- the command of a batch that is none of EXEC's looks at no key, is for all keys or names one
abbrev pub IsKeyedAsk : Ask → Type 0
IsKeyedAsk (ask.Now reply) = ⊤
IsKeyedAsk (ask.Go (batch.Plain command)) = IsKeyed command
IsKeyedAsk (ask.Go (batch.Exec members)) = ⊤
