-- What a store does with a command, and with a list of them. `in_turn` and `solo_from` are handed on from
-- `command_bodies`.
use Rattle.std.specs.Prelude.{◌≡◌, ◌⊎◌, ℕ, List, [], ◌∷◌, ◌++◌}
use Rattle.tasks.specs.Batch.{batch_effect, StarvesRightly, BatchTakesMemory}
use Rattle.tasks.specs.Starved.{starved_in}
use Rattle.tasks.specs.Command.{effect_of, TakesMemory}
pub use Rattle.tasks.specs.InTurn.{in_turn, solo_from}
use Rattle.command_table.specs.declared.command.Command.{Command}
use Rattle.keyspace.specs.Map.{Map}
use Rattle.resp.specs.Content.{Content, out_of_memory}
use Rattle.sessions.specs.declared.batch.Batch.{Batch}

-- the command was run; or it takes memory and there was none, which was answered, and the map is as before
abbrev pub IsStepOrStarves : Command → Map → Content → Map → Type 0
IsStepOrStarves command old reply new =
    ((new, reply) ≡ effect_of command old) ⊎ ((reply ≡ out_of_memory) × (new ≡ old) × TakesMemory command old)

-- A batch was run, and of an EXEC the members that starved are those that the reply tells: those that were to be skipped,
-- and others that take memory, of which there was none. Or there was none for the batch as a whole, which was answered,
-- and the map is as before.
abbrev pub IsRunOrStarves : (skip : List ℕ) → Batch → Map → Content → Map → Type 0
IsRunOrStarves skip batch old reply new =
    (((new, reply) ≡ batch_effect (starved_in batch reply) batch old) × StarvesRightly skip batch old reply)
    ⊎ ((reply ≡ out_of_memory) × (new ≡ old) × BatchTakesMemory batch old)

-- The commands done were run. The next one takes memory, and there was none; or none was run, since there was no memory
-- for the list of the replies.
pub record RunsBeginning (commands : List Command) (old new : Map) : Type 0 where
  pub done : List Command
  pub next : Command
  pub others : List Command
  pub split : commands ≡ done ++ next ∷ others
  pub run : new ≡ (solo_from old done).0
  pub wants : TakesMemory next new ⊎ (done ≡ [])
