-- What a client's request is answered, and a whole connection.
use Rattle.std.specs.Prelude.{◌≡◌, ℕ, List, [], ◌∷◌, Option, Result, Ok, Err, if◌then◌else◌}
use Rattle.std.proofs.Common.{lit<}
use Rattle.tasks.specs.Batch.{batch_effect}
use Rattle.tasks.specs.Starved.{is_want, starved_in}
use Rattle.command_cases.specs.Case.{Case}
use Rattle.tasks.specs.Command.{effect_of, TakesMemory}
use Rattle.command_table.specs.Reading.{reading}
use Rattle.command_table.specs.Refusal.{refusal_text}
use Rattle.command_table.specs.declared.command.Command.{Command}
use Rattle.command_table.specs.declared.refusal.Refusal.{Refusal}
use Rattle.keyspace.specs.Map.{Map}
use Rattle.resp.specs.Content.{Content, ErrorLine, out_of_memory}
use Rattle.resp_decoder.specs.declared.limits.Limits.{Limits}
use Rattle.resp_decoder.specs.declared.limits.TheConstants.{DEFAULT_WORDS, DEFAULT_BULK}
use Rattle.serving.specs.declared.door.DoorFault.TheVariants.{Memory, Ended}
use Rattle.serving.specs.declared.outcome.ServeFault.{ServeFault}
use Rattle.serving.specs.declared.outcome.Served.{Served}
use Rattle.serving.specs.Answers.{Answer}
use Rattle.serving.specs.Serves.{Serves}
use Rattle.sessions.specs.Session as session
use Rattle.sessions.specs.declared.batch.Batch.{Batch}
use Rattle.sessions.specs.declared.batch.Batch.TheVariants.{Plain, Exec}
use Rattle.sessions.specs.declared.session.Session.{Session}
use Rattle.sessions.specs.declared.session.Session.TheVariants.{Free}
use Rattle.solo.specs.Solo.{IsRunOrStarves}
use Rattle.solo.specs.declared.fault.ConnectionFault.{ConnectionFault}

-- the words are read as a command, which is run; or they are refused, and nothing is changed
abbrev pub answer_by : Result Command Refusal → Case
answer_by (Ok command) m = effect_of command m
answer_by (Err refusal) m = (m, ErrorLine (refusal_text refusal))

-- A request outside a list got its answer; or it is a command that takes memory, there was none, and the map is as before:
-- to refuse words takes no memory. It ends no connection.
abbrev pub AsksPlain : Map → List (List ℕ) → Answer ConnectionFault → Map → Type 0
AsksPlain old words (Ok reply) new = (new, reply) ≡ answer_by (reading words) old
AsksPlain old words (Err Memory) new =
    (command : Command) × (reading words ≡ Ok command) × TakesMemory command old × (new ≡ old)
AsksPlain old words (Err (Ended reason)) new = ⊥

-- the same of a command
abbrev pub AsksCommand : Map → Command → Answer ConnectionFault → Map → Type 0
AsksCommand old command (Ok reply) new = (new, reply) ≡ effect_of command old
AsksCommand old command (Err Memory) new = TakesMemory command old × (new ≡ old)
AsksCommand old command (Err (Ended reason)) new = ⊥

-- what a client has: the session of its connection, and the map
abbrev pub ClientState : Type 0
ClientState = Session × Map

-- what comes of a request is a reply, which leaves the map; or a batch, which is run: a command outside a list to its end,
-- an EXEC but for the members that starved, or not at all
abbrev pub Comes : session.Answer → Map → Content → Map → Type 0
Comes (session.Now answer) old reply new = (new ≡ old) × (reply ≡ answer)
Comes (session.Go (Plain command)) old reply new = (new, reply) ≡ effect_of command old
Comes (session.Go (Exec members)) old reply new = IsRunOrStarves [] (Exec members) old reply new

-- there was no memory for a command outside a list, which takes some
abbrev pub Wants : Session → List (List ℕ) → Map → Type 0
Wants held words m = (command : Command) × (session.asks held words ≡ (held, session.Go (Plain command))) × TakesMemory command m

-- The request left the session that it should, and got its answer; or there was no memory for it, and all is as before. A
-- connection ends just where that was the next member of its open list.
abbrev pub Asks : ClientState → List (List ℕ) → Answer ConnectionFault → ClientState → Type 0
Asks old words (Ok reply) new =
    (new.0 ≡ (session.asks old.0 words).0) × Comes (session.asks old.0 words).1 old.1 reply new.1
Asks old words (Err Memory) new = Wants old.0 words old.1 × (new ≡ old)
Asks old words (Err (Ended reason)) new = session.Queues old.0 words × (new ≡ old)

-- What a batch does that was answered so: an EXEC that was answered by want of memory did nothing, and of another one the
-- members that starved are those that its reply tells.
abbrev pub batch_told : Batch → Content → Case
batch_told (Plain command) told m = effect_of command m
batch_told (Exec members) told m =
    if is_want told then (m, out_of_memory) else batch_effect (starved_in (Exec members) told) (Exec members) m

abbrev pub answer_told : session.Answer → Content → Case
answer_told (session.Now answer) told m = (m, answer)
answer_told (session.Go batch) told m = batch_told batch told m

-- requests, each with what it was told, one after another: the session and the map that they leave, and the reply at each
-- place
abbrev pub told_in_turn : ClientState → List (List (List ℕ) × Content) → ClientState × List Content
told_in_turn held [] = (held, [])
told_in_turn held (a ∷ more) =
    let came = session.asks held.0 a.0 in
    let left = answer_told came.1 a.1 held.1 in
    ((told_in_turn (came.0, left.0) more).0, left.1 ∷ (told_in_turn (came.0, left.0) more).1)

-- the requests for which there was memory, each with its reply; and the replies
abbrev pub told_of : List (List (List ℕ)) → List (Answer ConnectionFault) → List (List (List ℕ) × Content)
told_of [] answers = []
told_of (request ∷ requests) [] = []
told_of (request ∷ requests) (Ok reply ∷ answers) = (request, reply) ∷ told_of requests answers
told_of (request ∷ requests) (Err fault ∷ answers) = told_of requests answers

abbrev pub replies_of : List (Answer ConnectionFault) → List Content
replies_of [] = []
replies_of (Ok reply ∷ answers) = reply ∷ replies_of answers
replies_of (Err fault ∷ answers) = replies_of answers

-- how large a request may be: Redis's own limits
abbrev pub limits : Limits
limits = record { words = DEFAULT_WORDS; bulk = DEFAULT_BULK; few_words = lit< tt; short_bulk = lit< tt }

-- The connection was served as `Serves` says, from a session with no open list, and the requests for which there was
-- memory were answered one after another on the one map, whose last state is t: the others have left no trace.
pub record ServesInTurn (before after old new : Option (List ℕ)) (s t : Map)
    (result : Result Served (ServeFault ConnectionFault)) : Type 0 where
  pub left : Session
  pub connection : Serves Asks limits before after old new (Free, s) (left, t) result
  pub replies : ((left, t), replies_of connection.answers)
      ≡ told_in_turn (Free, s) (told_of connection.answered.requests connection.answers)
