-- How many requests were executed, and how much starved, of layers that were run.
use Rattle.std.specs.Prelude.{ℕ, ◌+◌, ◌-◌, ◌^◌, List, [], ◌∷◌, length, min, Option, Some, None}
use Rattle.layer_results.specs.Results.{names_of}
use Rattle.layer_results.specs.declared.done.DoneRow.{DoneRow}
use Rattle.resp.specs.declared.reply.Reply.{Reply}

-- 1 for a request that was executed
abbrev pub one_if : Option Reply → ℕ
one_if None = 0
one_if (Some reply) = 1

abbrev pub executed_in : List DoneRow → ℕ
executed_in [] = 0
executed_in (row ∷ rows) = one_if row.reply + executed_in rows

abbrev pub all_executed : List (List DoneRow) → ℕ
all_executed [] = 0
all_executed (layer ∷ layers) = executed_in layer + all_executed layers

-- how many requests starved as a whole, and how many members of those that were executed
abbrev pub all_starved : List (List DoneRow) → ℕ
all_starved [] = 0
all_starved (layer ∷ layers) = length (names_of layer) + all_starved layers

-- a number, where it is below 2^64, and else the greatest that is
abbrev pub as_word : ℕ → ℕ
as_word n = min n (2 ^ 64 - 1)
