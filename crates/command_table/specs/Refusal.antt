-- The lines that answer a request which cannot be read.
use Rattle.std.specs.Prelude.{ℕ, List, ◌++◌, codes}
use Rattle.command_table.specs.declared.refusal.Refusal.{Refusal}
use Rattle.command_table.specs.declared.refusal.Refusal.TheVariants.{Unknown, Arity, Syntax, NotInteger, Memory}

-- the error text of a refusal
abbrev pub refusal_text : Refusal → List ℕ
refusal_text Unknown = codes "ERR unknown command"
refusal_text (Arity name) = codes "ERR wrong number of arguments for '" ++ name ++ codes "' command"
refusal_text Syntax = codes "ERR syntax error"
refusal_text NotInteger = codes "ERR value is not an integer or out of range"
refusal_text Memory = codes "ERR out of memory"
