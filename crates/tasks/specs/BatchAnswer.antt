-- A batch that is answered for good: its reply, and the memory for the text of it.
use Rattle.std.specs.Prelude.{⊤, ℕ, List}
use Rattle.tasks.specs.CommandAnswer.{AnswerTakesMemory}
use Rattle.keyspace.specs.Map.{Map}
use Rattle.resp.specs.Content.{Content}
use Rattle.sessions.specs.declared.batch.Batch.{Batch}
use Rattle.sessions.specs.declared.batch.Batch.TheVariants.{Plain, Exec}
use Rattle.sessions.specs.declared.member.Member.{Member}
use Rattle.sessions.specs.declared.member.Member.TheVariants.{Runs, Refused}
use Rattle.tasks.specs.Batch.{StarvesRightlyBy}

-- where a member takes memory, or its reply has more than 128 bytes, so that there may be none for it
abbrev pub MemberAnswerTakesMemory : Member → Map → Type 0
MemberAnswerTakesMemory (Runs command) = AnswerTakesMemory command
MemberAnswerTakesMemory (Refused misread) = λ m. ⊥

-- each member that is to be skipped starved, and each one that starved is to be skipped, or takes memory on the map that it
-- met, or text
abbrev pub AnswerStarvesRightly : (skip : List ℕ) → Batch → Map → Content → Type 0
AnswerStarvesRightly = StarvesRightlyBy MemberAnswerTakesMemory

-- where there may be no memory to answer a batch as a whole: a command outside a list takes memory or answers long, and an EXEC
-- takes room for the array of its replies
abbrev pub BatchAnswerTakesMemory : Batch → Map → Type 0
BatchAnswerTakesMemory (Plain command) m = AnswerTakesMemory command m
BatchAnswerTakesMemory (Exec members) m = ⊤
