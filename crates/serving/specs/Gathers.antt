-- What gathering replies takes out of a decoder, asks the door and puts together.
use Rattle.std.specs.Prelude.{◌≡◌, ◌≢◌, ◌⊎◌, ℕ, ◌+◌, ◌<◌, List, ◌++◌, length, Option, Some, None, Result, Ok, Err}
use Rattle.std.specs.Io.KnownBytes.{Appends}
use Rattle.resp_decoder.specs.declared.fault.Fault.{Fault}
use Rattle.resp_decoder.specs.Decoding.{Held, with_bytes}
use Rattle.resp_decoder.specs.FaultText.{fault_text}
use Rattle.resp_decoder.specs.Texts.{IsOpen, IsFault}
use Rattle.serving.specs.declared.door.DoorFault.TheVariants.{Ended}
use Rattle.serving.specs.declared.gather.Pause.{Pause}
use Rattle.serving.specs.declared.gather.Pause.TheVariants.{Full, Waits, Faulty, Starved, Closed}
use Rattle.serving.specs.declared.outcome.ServeFault.{ServeFault}
use Rattle.serving.specs.Answers.{Answer, answer_text, answers_text, GoesOn, Answered}
use Rattle.serving.specs.Serves.{IsAllOrAllButLast, IsBatch, Breaks, Tells}

-- The door was asked a request: the text of its answer was added, or the buffer, with room for so many bytes, had none
-- for it, or the door ended the connection. So a door's own want of memory is answered as any other request.
abbrev pub AddsReply : {S Reason : Type 0} → (S → List (List ℕ) → Answer Reason → S → Type 0)
    → S → List (List ℕ) → S → ℕ → List ℕ → List ℕ → Result Unit (Pause Reason) → Type 0
AddsReply {S} {Reason} asks s request t room before after (Ok done) =
    (answer : Answer Reason) × asks s request answer t × GoesOn answer × (after ≡ before ++ answer_text answer)
AddsReply {S} {Reason} asks s request t room before after (Err Starved) =
    (answer : Answer Reason) × asks s request answer t × GoesOn answer × (after ≡ before)
    × (room < length before + length (answer_text answer))
AddsReply asks s request t room before after (Err (Closed reason)) =
    asks s request (Err (Ended reason)) t × (after ≡ before)
AddsReply asks s request t room before after (Err _) = ⊥

-- the error line of a fault of the bytes was added, or the fault was want of memory, or the buffer had no room for it
abbrev pub AddsLine : {Reason : Type 0} → Fault → ℕ → List ℕ → List ℕ → Pause Reason → Type 0
AddsLine fault room before after Starved =
    (after ≡ before) × ((fault ≡ Fault.Memory) ⊎ (room < length before + length (fault_text fault)))
AddsLine fault room before after (Faulty shown) =
    (shown ≡ fault) × (fault ≢ Fault.Memory) × (after ≡ before ++ fault_text fault)
AddsLine fault room before after _ = ⊥

-- why the door ended the connection, if that is why gathering paused
abbrev pub closed_by : {Reason : Type 0} → Pause Reason → Option Reason
closed_by Full = None
closed_by Waits = None
closed_by (Faulty fault) = None
closed_by Starved = None
closed_by (Closed reason) = Some reason

-- what a pause leaves in the decoder, behind the requests that were answered, and in the buffer
abbrev pub Pauses : {Reason : Type 0} → Held → Held → List ℕ → List (Answer Reason)
    → List ℕ → Pause Reason → Type 0
Pauses old new rest answers gathered Full =
    (new ≡ with_bytes old rest) × (length rest < length old.bytes) × (gathered ≡ answers_text answers)
Pauses old new rest answers gathered Waits =
    (new ≡ with_bytes old rest) × IsOpen old.limits rest × (gathered ≡ answers_text answers)
Pauses old new rest answers gathered (Faulty fault) =
    IsFault old.limits rest fault × (gathered ≡ answers_text answers ++ fault_text fault)
Pauses old new rest answers gathered Starved = IsAllOrAllButLast answers gathered
Pauses old new rest answers gathered (Closed reason) = gathered ≡ answers_text answers

-- the requests at the front of the bytes held were answered, and the texts gathered; then gathering paused
pub record Gathers {S Reason : Type 0} (asks : S → List (List ℕ) → Answer Reason → S → Type 0)
    (old new : Held) (s t : S) (gathered : List ℕ) (pause : Pause Reason) : Type 0 where
  pub rest : List ℕ
  pub answers : List (Answer Reason)
  pub answered : Answered asks old.limits old.bytes rest s t (closed_by pause) answers
  pub small : IsBatch answers
  pub pauses : Pauses old new rest answers gathered pause

-- what stands behind the requests held that were answered, and what was written
abbrev pub Empties : {Reason : Type 0} → Held → Held → List ℕ → List (Answer Reason)
    → Option (List ℕ) → Option (List ℕ) → Result (Option Fault) (ServeFault Reason) → Type 0
Empties held left rest answers old new (Ok None) =
    (left ≡ with_bytes held rest) × IsOpen held.limits rest × Appends old new (answers_text answers)
Empties held left rest answers old new (Ok (Some fault)) =
    IsFault held.limits rest fault × Appends old new (answers_text answers ++ fault_text fault)
Empties held left rest answers old new (Err fault) = Breaks held.limits rest answers old new fault

-- the requests held were answered and the replies written
pub record AnswersHeld {S Reason : Type 0} (asks : S → List (List ℕ) → Answer Reason → S → Type 0)
    (held left : Held) (s t : S) (old new : Option (List ℕ)) (result : Result (Option Fault) (ServeFault Reason)) : Type 0 where
  pub rest : List ℕ
  pub answers : List (Answer Reason)
  pub ended : Option Reason
  pub answered : Answered asks held.limits held.bytes rest s t ended answers
  pub tells : Tells result ended
  pub empties : Empties held left rest answers old new result
