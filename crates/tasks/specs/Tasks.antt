-- What a request executes, as one, and what those above say of it.
use Rattle.std.specs.Prelude.{◌≡◌, ℕ, Bool, List, [], ◌∷◌, map, Option, Some, None, Result, if◌then◌else◌}
use Rattle.std.specs.FinMap.{empty}
use Rattle.tasks.specs.BatchAnswer.{BatchAnswerTakesMemory, AnswerStarvesRightly}
use Rattle.tasks.specs.Batch.{batch_effect}
use Rattle.tasks.specs.Keys.{batch_keys, batch_whole, looks_at_keys}
use Rattle.tasks.specs.Starved.{starved_in}
use Rattle.tasks.specs.CommandAnswer.{reply_of}
use Rattle.tasks.specs.InTurn.{in_turn}
use Rattle.command_cases.specs.Case.{Case}
use Rattle.command_table.specs.Command.{name_of}
use Rattle.command_table.specs.declared.refusal.Refusal.{Refusal}
use Rattle.groups.specs.declared.request.RequestId.{RequestId}
use Rattle.groups.specs.declared.skip_id.SkipId.{SkipId}
use Rattle.groups.specs.declared.skip_id.SkipId.TheVariants.{Whole, Part}
use Rattle.keyspace.specs.Map.{Map}
use Rattle.placement.specs.Layout.{Layout}
use Rattle.resp.specs.Content.{Content}
use Rattle.resp.specs.declared.answered.Answered.{Answered}
use Rattle.resp.specs.declared.reply.Reply.{Reply}
use Rattle.sessions.specs.Control.{exec_name}
use Rattle.sessions.specs.declared.batch.Batch.{Batch}
use Rattle.sessions.specs.declared.batch.Batch.TheVariants.{Plain, Exec}
use Rattle.tasks.specs.Addressing.{groups_told}
use Rattle.worded.specs.Reading.{batch_reading}

-- a task is a batch: a command, or the members of an EXEC
abbrev pub Task : Type 0
Task = Batch

-- the task that kept words say, or why they say none
abbrev pub task_reading : List (List ℕ) → Result Task Refusal
task_reading = batch_reading

-- its name in a report
abbrev pub task_name : Task → List ℕ
task_name (Plain command) = name_of command
task_name (Exec members) = exec_name

-- the keys that it names
abbrev pub task_keys : Task → List (List ℕ)
task_keys = batch_keys

-- it is for all keys there are
abbrev pub task_whole : Task → Bool
task_whole = batch_whole

-- the groups that it addresses, ascending, each once: those on which its keys lie, or all where it is for all keys
abbrev pub task_groups : Layout → Task → List ℕ
task_groups table task = groups_told table (task_whole task) (task_keys task)

-- ---- what is done

-- a task, and the numbers of its members that starved: a command has no members
abbrev pub Deed : Type 0
Deed = Task × List ℕ

-- what it does to the map of all keys, and what it answers
abbrev pub deed_effect : Deed → Case
deed_effect deed = batch_effect deed.1 deed.0

-- what was done by a task that was answered so: the reply tells which of its members starved
abbrev pub deed_of : Task → Content → Deed
deed_of task reply = (task, starved_in task reply)

-- one thread on one map: deeds in turn from this map, each on the map that those before it left
abbrev pub deeds_in_turn : Map → List Deed → Map × List Content
deeds_in_turn = in_turn deed_effect

-- what starved of the request that ended so: itself, where it has no reply, or else those of its members that its reply tells
abbrev pub starved_names : RequestId → Task → Option Content → List SkipId
starved_names id task None = Whole id ∷ []
starved_names id task (Some reply) = map (Part id) (starved_in task reply)

-- ---- memory

-- what a run of it answers, if it answers
abbrev pub task_reply : {E : Type 0} → Result Answered E → Result Reply E
task_reply run = reply_of run

-- where there may be no memory to run it as a whole on a map, or to answer it
abbrev pub task_takes_memory : Task → Map → Type 0
task_takes_memory = BatchAnswerTakesMemory

-- of its members that starved on this map, as the reply tells them, each was to be skipped, or takes memory on the map that it
-- met; and each of these numbers starved
abbrev pub MembersStarveRightly : (skip : List ℕ) → Task → Map → Content → Type 0
MembersStarveRightly = AnswerStarvesRightly

-- ---- what looks at no key

-- what it answers if it looks at no key, and so addresses no group
abbrev pub keyless_reply : Task → Option Content
keyless_reply task = if looks_at_keys task then None else Some (deed_effect (task, []) empty).1

-- a task that looks at no key addresses no group, and each other one addresses some
abbrev pub AddressesBy : Option Content → List ℕ → Type 0
AddressesBy (Some reply) groups = groups ≡ []
AddressesBy None groups = (g : ℕ) × (gs : List ℕ) × (groups ≡ g ∷ gs)

abbrev pub Addresses : Layout → Task → Type 0
Addresses t task = AddressesBy (keyless_reply task) (task_groups t task)
