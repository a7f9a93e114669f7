-- What a door answers, what is sent for it, and the answers to requests in a row.
use Rattle.std.specs.Prelude.{◌≡◌, ℕ, List, [], ◌∷◌, ◌++◌, Option, Some, None, Result, Ok, Err}
use Rattle.std.specs.List.{flat_map, AllByRecursion}
use Rattle.resp.specs.declared.reply.Reply.{Reply}
use Rattle.resp.specs.Content.{Content, content, out_of_memory}
use Rattle.resp.specs.Text.{text}
use Rattle.resp_decoder.specs.declared.limits.Limits.{Limits}
use Rattle.resp_decoder.specs.Texts.{Stream}
use Rattle.serving.specs.declared.door.DoorFault.{DoorFault}
use Rattle.serving.specs.declared.door.DoorFault.TheVariants.{Memory, Ended}

-- what contracts see of a door's answer: what the reply says, or why there is none
abbrev pub Answer : Type 0 → Type 0
Answer Reason = Result Content (DoorFault Reason)

abbrev pub answer_of : {Reason : Type 0} → Result Reply (DoorFault Reason) → Answer Reason
answer_of (Ok reply) = Ok (content reply)
answer_of (Err fault) = Err fault

-- what is sent for an answer: its reply, that there was no memory, or nothing where the connection ends
abbrev pub answer_text : {Reason : Type 0} → Answer Reason → List ℕ
answer_text (Ok reply) = text reply
answer_text (Err Memory) = text out_of_memory
answer_text (Err (Ended reason)) = []

abbrev pub answers_text : {Reason : Type 0} → List (Answer Reason) → List ℕ
answers_text answers = flat_map answer_text answers

-- From s, the requests were asked one after another, each once, and these were the answers; they left t.
abbrev pub Runs : {S Reason : Type 0} → (S → List (List ℕ) → Answer Reason → S → Type 0)
    → S → List (List (List ℕ)) → List (Answer Reason) → S → Type 0
Runs asks s [] [] t = t ≡ s
Runs {S} asks s (request ∷ requests) (answer ∷ answers) t =
    (mid : S) × asks s request answer mid × Runs asks mid requests answers t
Runs asks s [] (answer ∷ answers) t = ⊥
Runs asks s (request ∷ requests) [] t = ⊥

-- the connection goes on behind this answer
abbrev pub GoesOn : {Reason : Type 0} → Answer Reason → Type 0
GoesOn (Ok reply) = Unit {0}
GoesOn (Err Memory) = Unit {0}
GoesOn (Err (Ended reason)) = ⊥

-- no answer ended the connection; or the last one did, for this reason, and none before
abbrev pub EndsBy : {Reason : Type 0} → Option Reason → List (Answer Reason) → Type 0
EndsBy None answers = AllByRecursion GoesOn answers
EndsBy {Reason} (Some reason) answers =
    (before : List (Answer Reason)) × (answers ≡ before ++ Err (Ended reason) ∷ []) × AllByRecursion GoesOn before

-- The stream is the texts of requests, and then a rest. Each of these requests was asked once, in order, and these are
-- the answers, which led the door from s to t.
pub record Answered {S Reason : Type 0} (asks : S → List (List ℕ) → Answer Reason → S → Type 0) (limits : Limits)
    (stream rest : List ℕ) (s t : S) (ended : Option Reason) (answers : List (Answer Reason)) : Type 0 where
  pub requests : List (List (List ℕ))
  pub taken : Stream limits stream requests rest
  pub run : Runs asks s requests answers t
  pub ending : EndsBy ended answers
