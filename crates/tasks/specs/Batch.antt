-- What a batch does and answers: its members in turn, each on the map that those before it left.
use Rattle.std.specs.Prelude.{◌≡◌, ◌⊎◌, ⊤, ℕ, suc, List, [], ◌∷◌, Result, MatchResult, IsTrue}
use Rattle.tasks.specs.Command.{effect_of, TakesMemory}
use Rattle.command_cases.specs.Case.{Case}
use Rattle.keyspace.specs.Map.{Map}
use Rattle.resp.specs.Content.{Content, Several, content, contents}
use Rattle.resp.specs.declared.reply.Reply.{Reply}
use Rattle.sessions.specs.declared.batch.Batch.{Batch}
use Rattle.sessions.specs.declared.batch.Batch.TheVariants.{Plain, Exec}
use Rattle.sessions.specs.declared.member.Member.{Member}
use Rattle.tasks.specs.Member.{member_effect, MemberTakesMemory, Fares}
use Rattle.tasks.specs.Starved.{has, starved_in}

-- the last map and the reply at each place, where the first member has the number n and those of these numbers starved
abbrev pub members_from : (starved : List ℕ) → ℕ → List Member → Map → Map × List Content
members_from starved n [] m = (m, [])
members_from starved n (member ∷ members) m = (
  (members_from starved (suc n) members (member_effect (has starved n) member m).0).0,
  (member_effect (has starved n) member m).1 ∷ (members_from starved (suc n) members (member_effect (has starved n) member m).0).1,
)

-- What a batch does, where the members of these numbers, which count from 1, starved. An EXEC answers with an array of its
-- members' replies; one of them that answers by an error keeps none of the others from being run. A command outside a
-- list has no members
abbrev pub batch_effect : (starved : List ℕ) → Batch → Case
batch_effect starved (Plain command) m = effect_of command m
batch_effect starved (Exec members) m = ((members_from starved 1 members m).0, Several (contents (members_from starved 1 members m).1))

-- a body has done the batch, its members that starved being those that its reply tells; or it answered nothing and left
-- the map
abbrev pub DoesBatch : {E : Type 0} → Batch → Map → Map → Result Reply E → Type 0
DoesBatch batch old new result = MatchResult result
    (λ reply. (new, content reply) ≡ batch_effect (starved_in batch (content reply)) batch old) (λ _. new ≡ old)

-- each of these members that is to be skipped starved, and each one that starved is to be skipped or takes memory on the
-- map that it met
abbrev pub StarvesFrom : (takes : Member → Map → Type 0) → (skip starved : List ℕ) → ℕ → List Member → Map → Type 0
StarvesFrom takes skip starved n [] m = ⊤
StarvesFrom takes skip starved n (member ∷ members) m =
    (IsTrue (has skip n) → IsTrue (has starved n))
    × (IsTrue (has starved n) → IsTrue (has skip n) ⊎ takes member m)
    × StarvesFrom takes skip starved (suc n) members (member_effect (has starved n) member m).0

-- so of the members of a batch; `takes` says where a member takes memory
abbrev pub StarvesRightlyBy : (takes : Member → Map → Type 0) → (skip : List ℕ) → Batch → Map → Content → Type 0
StarvesRightlyBy takes skip (Plain command) m reply = ⊤
StarvesRightlyBy takes skip (Exec members) m reply = StarvesFrom takes skip (starved_in (Exec members) reply) 1 members m

abbrev pub StarvesRightly : (skip : List ℕ) → Batch → Map → Content → Type 0
StarvesRightly = StarvesRightlyBy MemberTakesMemory

-- where there may be no memory for a batch as a whole: a command outside a list takes memory, and an EXEC room for the
-- array of its replies
abbrev pub BatchTakesMemory : Batch → Map → Type 0
BatchTakesMemory (Plain command) m = TakesMemory command m
BatchTakesMemory (Exec members) m = ⊤

-- the members were run one after another, and fared so; the first one has the number n
abbrev pub RunsFrom : (takes : Member → Map → Type 0) → (skip : List ℕ) → ℕ → Map → List Member → List Content → Map → Type 0
RunsFrom takes skip n old [] [] new = new ≡ old
RunsFrom takes skip n old (member ∷ members) (reply ∷ replies) new =
    (mid : Map) × Fares takes (has skip n) member old mid reply × RunsFrom takes skip (suc n) mid members replies new
RunsFrom takes skip n old [] (reply ∷ replies) new = ⊥
RunsFrom takes skip n old (member ∷ members) [] new = ⊥
