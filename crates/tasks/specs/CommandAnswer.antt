-- A command that is answered for good: its reply, and the memory for the text of it.
use Rattle.std.specs.Prelude.{Result, Ok, Err, ◌⊎◌}
use Rattle.tasks.specs.Command.{effect_of, TakesMemory}
use Rattle.command_table.specs.declared.command.Command.{Command}
use Rattle.keyspace.specs.Map.{Map}
use Rattle.resp.specs.LongText.{IsLong}
use Rattle.resp.specs.declared.answered.Answered.{Answered}
use Rattle.resp.specs.declared.reply.Reply.{Reply}

-- the reply, if there is one
abbrev pub reply_of : {E : Type 0} → Result Answered E → Result Reply E
reply_of (Ok answered) = Ok answered.reply
reply_of (Err e) = Err e

-- where there may be no memory to answer a command: it takes memory itself, or its reply has more than 128 bytes
abbrev pub AnswerTakesMemory : Command → Map → Type 0
AnswerTakesMemory command m = TakesMemory command m ⊎ IsLong (effect_of command m).1
