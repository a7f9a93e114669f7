-- What is told of a command: its name, and which of its words are keys.
use Rattle.std.specs.Prelude.{Bool, true, false, List, []}
use Rattle.command_table.specs.Words.{Word}

-- all keys there are, or these words; one that stands twice is there twice
pub data KeysTold : Type 0 where
  All : KeysTold
  These : List Word → KeysTold

pub record Telling : Type 0 where
  pub name : Word
  pub keys : KeysTold

-- the words that are keys
abbrev pub named : KeysTold → List Word
named All = []
named (These keys) = keys

abbrev pub is_all : KeysTold → Bool
is_all All = true
is_all (These keys) = false
