-- The Submits among steps: how many, and with which words.
use Rattle.std.specs.Prelude.{◌≡◌, ℕ, suc, ◌+◌, ◌==◌, cond, List, [], ◌∷◌, ◌++◌}
use Rattle.journal.specs.declared.step.Step.{Step}
use Rattle.journal.specs.declared.step.Step.TheVariants.{Open, Submit, Deliver, Take, Run, Settle, Collect, Close, Repeat}
use Rattle.groups.specs.declared.request.RequestId.{RequestId}
use Rattle.sessions.specs.declared.session.Session.{Session}
use Rattle.world_laws.specs.Sessions.{all_free, sessions_from}

-- ---- how many

-- 1 for a Submit
abbrev pub submit_in : Step → ℕ
submit_in Open = 0
submit_in (Submit conn words) = 1
submit_in (Deliver place) = 0
submit_in Take = 0
submit_in (Run starved) = 0
submit_in Settle = 0
submit_in (Collect conn) = 0
submit_in (Close conn) = 0
submit_in (Repeat place) = 0

abbrev pub submits : List Step → ℕ
submits [] = 0
submits (s ∷ ss) = submit_in s + submits ss

-- 1 for a Submit of connection c
abbrev pub submit_by : ℕ → Step → ℕ
submit_by c Open = 0
submit_by c (Submit conn words) = cond (c == conn.0) 1 0
submit_by c (Deliver place) = 0
submit_by c Take = 0
submit_by c (Run starved) = 0
submit_by c Settle = 0
submit_by c (Collect conn) = 0
submit_by c (Close conn) = 0
submit_by c (Repeat place) = 0

abbrev pub submits_by : ℕ → List Step → ℕ
submits_by c [] = 0
submits_by c (s ∷ ss) = submit_by c s + submits_by c ss

-- ---- the words of one

-- The request of this id was submitted with these words: its Submit is that of its connection which its number says,
-- counted from 1.
pub record IsSaid (steps : List Step) (id : RequestId) (words : List (List ℕ)) : Type 0 where
  pub before : List Step
  pub behind : List Step
  pub split : steps ≡ before ++ Submit id.conn words ∷ behind
  pub number : id.seq ≡ suc (submits_by id.conn.0 before)

-- what its connection remembered then: what its Submits before made of its session
abbrev pub session_met : {steps : List Step} {id : RequestId} {words : List (List ℕ)} → IsSaid steps id words → Session
session_met {steps} {id} {words} said = sessions_from all_free said.before id.conn.0
