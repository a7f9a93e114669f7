-- What serving a connection reads, asks and writes.
use Rattle.std.specs.Prelude.{◌≡◌, ℕ, ◌<◌, ◌≤◌, ◌⊎◌, List, [], ◌∷◌, ◌++◌, length, Option, Some, None, Result, Ok, Err}
use Rattle.std.specs.Io.KnownBytes.{Consumes, Appends, IsAtEnd}
use Rattle.resp_decoder.specs.declared.fault.Fault.{Fault}
use Rattle.resp_decoder.specs.declared.limits.Limits.{Limits}
use Rattle.resp_decoder.specs.FaultText.{fault_text}
use Rattle.resp_decoder.specs.Texts.{IsOpen, IsFault}
use Rattle.serving.specs.declared.connection.TheConstants.{PIECE}
use Rattle.serving.specs.declared.gather.TheConstants.{GATHERED}
use Rattle.serving.specs.declared.outcome.Served.{Served}
use Rattle.serving.specs.declared.outcome.Served.TheVariants.{End, Inside, Protocol}
use Rattle.serving.specs.declared.outcome.ServeFault.{ServeFault}
use Rattle.serving.specs.declared.outcome.ServeFault.TheVariants.{Read, Write, Memory, Door}
use Rattle.serving.specs.Answers.{Answer, answers_text, Answered}

-- Whether the door ended the connection, and why, as far as a fault tells: where a write failed the door may have done
-- so.
abbrev pub FaultTells : {Reason : Type 0} → ServeFault Reason → Option Reason → Type 0
FaultTells Read ended = ended ≡ None
FaultTells Write ended = Unit {0}
FaultTells Memory ended = ended ≡ None
FaultTells (Door reason) ended = ended ≡ Some reason

abbrev pub Tells : {T Reason : Type 0} → Result T (ServeFault Reason) → Option Reason → Type 0
Tells (Ok outcome) ended = ended ≡ None
Tells (Err fault) ended = FaultTells fault ended

-- the texts of all answers, or of all but the last
abbrev pub IsAllOrAllButLast : {Reason : Type 0} → List (Answer Reason) → List ℕ → Type 0
IsAllOrAllButLast {Reason} answers text =
    (text ≡ answers_text answers)
    ⊎ ((before : List (Answer Reason)) × (last : Answer Reason) × (answers ≡ before ++ last ∷ []) × (text ≡ answers_text before))

-- what is sent behind the replies: nothing, or the error line of the fault that stands in the rest
abbrev pub IsLastLine : Limits → List ℕ → List ℕ → Type 0
IsLastLine limits rest line = (line ≡ []) ⊎ ((fault : Fault) × IsFault limits rest fault × (line ≡ fault_text fault))

-- What is gathered before it is written: the texts of these answers, but for the last of them, are no more bytes than
-- are gathered at most.
abbrev pub IsBatch : {Reason : Type 0} → List (Answer Reason) → Type 0
IsBatch {Reason} batch =
    (batch ≡ [])
    ⊎ ((first : List (Answer Reason)) × (last : Answer Reason) × (batch ≡ first ++ last ∷ [])
    × (length (answers_text first) ≤ GATHERED))

-- a beginning of the texts of the answers and of the last line after them, which lacks no more than a part of the last
-- batch
pub record IsBeginning {Reason : Type 0} (limits : Limits) (rest : List ℕ) (answers : List (Answer Reason))
    (text : List ℕ) : Type 0 where
  pub before : List (Answer Reason)
  pub batch : List (Answer Reason)
  pub whole : answers ≡ before ++ batch
  pub small : IsBatch batch
  pub line : List ℕ
  pub last : IsLastLine limits rest line
  pub sent : List ℕ
  pub unsent : List ℕ
  pub split : answers_text batch ++ line ≡ sent ++ unsent
  pub written : text ≡ answers_text before ++ sent

-- What a fault leaves: what stands behind the requests that were answered, and what was written.
abbrev pub Breaks : {Reason : Type 0} → Limits → List ℕ → List (Answer Reason)
    → Option (List ℕ) → Option (List ℕ) → ServeFault Reason → Type 0
Breaks limits rest answers old new Read = IsOpen limits rest × Appends old new (answers_text answers)
Breaks limits rest answers old new Write = (text : List ℕ) × IsBeginning limits rest answers text × Appends old new text
Breaks limits rest answers old new Memory = (text : List ℕ) × IsAllOrAllButLast answers text × Appends old new text
Breaks limits rest answers old new (Door reason) = Appends old new (answers_text answers)

-- an open rest, and no more than what is read at once
pub record IsAtMostPiece (limits : Limits) (rest : List ℕ) : Type 0 where
  pub held : List ℕ
  pub piece : List ℕ
  pub whole : rest ≡ held ++ piece
  pub held_open : IsOpen limits held
  pub short : length piece ≤ PIECE

-- Want of memory leaves no more unanswered than that.
abbrev pub Remains : {Reason : Type 0} → Limits → List ℕ → ServeFault Reason → Type 0
Remains limits rest Memory = IsAtMostPiece limits rest
Remains limits rest _ = Unit {0}

-- The same for every outcome; `left` is what the reader has left.
abbrev pub Leaves : {Reason : Type 0} → Limits → List ℕ → List (Answer Reason)
    → Option (List ℕ) → Option (List ℕ) → Option (List ℕ) → Result Served (ServeFault Reason) → Type 0
Leaves limits rest answers left old new (Ok End) = (rest ≡ []) × IsAtEnd left × Appends old new (answers_text answers)
Leaves limits rest answers left old new (Ok Inside) =
    (0 < length rest) × IsOpen limits rest × IsAtEnd left × Appends old new (answers_text answers)
Leaves limits rest answers left old new (Ok (Protocol fault)) =
    IsFault limits rest fault × Appends old new (answers_text answers ++ fault_text fault)
Leaves limits rest answers left old new (Err fault) = Remains limits rest fault × Breaks limits rest answers old new fault

-- What was read is the texts of requests, which the door was asked, and then a rest; what was written is the texts of
-- its answers. `before` and `after` are the bytes that the reader had and has left, `old` and `new` those that the
-- writer held and holds.
pub record Serves {S Reason : Type 0} (asks : S → List (List ℕ) → Answer Reason → S → Type 0) (limits : Limits)
    (before after old new : Option (List ℕ)) (s t : S) (result : Result Served (ServeFault Reason)) : Type 0 where
  pub read : List ℕ
  pub rest : List ℕ
  pub answers : List (Answer Reason)
  pub ended : Option Reason
  pub consumed : Consumes before after read
  pub answered : Answered asks limits read rest s t ended answers
  pub tells : Tells result ended
  pub leaves : Leaves limits rest answers after old new result
