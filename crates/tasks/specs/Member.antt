-- What a member of a batch does, and what comes of it.
use Rattle.std.specs.Prelude.{◌≡◌, ◌⊎◌, Bool, true, false, IsTrue}
use Rattle.tasks.specs.Command.{effect_of, TakesMemory}
use Rattle.command_cases.specs.Case.{Case}
use Rattle.keyspace.specs.Map.{Map}
use Rattle.resp.specs.Content.{Content, out_of_memory}
use Rattle.sessions.specs.Member.{refusal_of}
use Rattle.sessions.specs.Replies.{refused}
use Rattle.sessions.specs.declared.member.Member.{Member}
use Rattle.sessions.specs.declared.member.Member.TheVariants.{Runs, Refused}

-- a member runs its command, or answers why it is none
abbrev pub member_case : Member → Case
member_case (Runs command) = effect_of command
member_case (Refused misread) = λ m. (m, refused (refusal_of misread))

-- a member that starved changes nothing and answers so
abbrev pub member_effect : (starved : Bool) → Member → Case
member_effect true member = λ m. (m, out_of_memory)
member_effect false member = member_case member

-- where a member takes memory, so that there may be none for it
abbrev pub MemberTakesMemory : Member → Map → Type 0
MemberTakesMemory (Runs command) = TakesMemory command
MemberTakesMemory (Refused misread) = λ m. ⊥

-- what comes of a member: it was run; or it was to be skipped, or found no memory where it `takes` some, and starved
abbrev pub Fares : (takes : Member → Map → Type 0) → (skipped : Bool) → Member → Map → Map → Content → Type 0
Fares takes skipped member old new reply =
    ((skipped ≡ false) × ((new, reply) ≡ member_effect false member old))
    ⊎ (((new, reply) ≡ member_effect true member old) × (IsTrue skipped ⊎ takes member old))
