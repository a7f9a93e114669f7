-- The words that say a batch: a command's own; of an EXEC its name, and in a word each the words of its members.
use Rattle.std.specs.Prelude.{◌≡◌, List, [], ◌∷◌, map, Result, Ok, Err, if◌then◌else◌}
use Rattle.std.specs.Str.{bytes_eq}
use Rattle.command_table.specs.CommandRow.{Reading}
use Rattle.command_table.specs.Keyed.{IsKeyed}
use Rattle.command_table.specs.Reading.{reading}
use Rattle.command_table.specs.Words.{Word}
use Rattle.command_table.specs.declared.command.Command.{Command}
use Rattle.command_table.specs.declared.refusal.Refusal.{Refusal}
use Rattle.command_table.specs.declared.refusal.Refusal.TheVariants.{Unknown}
use Rattle.packing.specs.Codes.{words_at, words_code}
use Rattle.sessions.specs.Control.{exec_name}
use Rattle.sessions.specs.Member.{member_of}
use Rattle.sessions.specs.declared.batch.Batch.{Batch}
use Rattle.sessions.specs.declared.batch.Batch.TheVariants.{Plain, Exec}
use Rattle.sessions.specs.declared.member.Member.{Member}

-- the words of an EXEC whose members have these words: its name, which no command has, and each member's in one word, packed
abbrev pub exec_words : List (List Word) → List Word
exec_words members = exec_name ∷ map words_code members

-- the member that lies packed in a word, or why none does
abbrev pub member_in : Word → Result Member Refusal
member_in word = member_of (reading (words_at word).0)

abbrev pub with_first : Result Member Refusal → Result (List Member) Refusal → Result (List Member) Refusal
with_first (Ok member) (Ok members) = Ok (member ∷ members)
with_first (Ok member) (Err refusal) = Err refusal
with_first (Err refusal) members = Err refusal

abbrev pub members_in : List Word → Result (List Member) Refusal
members_in [] = Ok []
members_in (word ∷ words) = with_first (member_in word) (members_in words)

-- the members that are read of the words of requests, one by one
abbrev pub members_of : List (List Word) → Result (List Member) Refusal
members_of [] = Ok []
members_of (words ∷ requests) = with_first (member_of (reading words)) (members_of requests)

-- members run as one, of which there is one at least
abbrev pub as_exec : Result (List Member) Refusal → Result Batch Refusal
as_exec (Ok []) = Err Unknown
as_exec (Ok (member ∷ members)) = Ok (Exec (member ∷ members))
as_exec (Err refusal) = Err refusal

-- a command outside a list
abbrev pub as_plain : Reading → Result Batch Refusal
as_plain (Ok command) = Ok (Plain command)
as_plain (Err refusal) = Err refusal

-- the batch that words say, or why they say none
abbrev pub batch_reading : List Word → Result Batch Refusal
batch_reading [] = Err Unknown
batch_reading (name ∷ words) = if bytes_eq name exec_name then as_exec (members_in words) else as_plain (reading (name ∷ words))

-- it is the command that the words say outside a list, which looks at no key, is for all keys or names one
abbrev pub IsPlain : List Word → Batch → Type 0
IsPlain words batch = (command : Command) × (batch ≡ Plain command) × (reading words ≡ Ok command) × IsKeyed command
