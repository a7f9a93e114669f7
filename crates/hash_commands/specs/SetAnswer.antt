-- What is answered where fields were set, by how many were new.
use Rattle.std.specs.Prelude.{ℕ}
use Rattle.command_cases.specs.Replies.{ok, count}
use Rattle.hash_commands.specs.declared.changes.SetAnswer.{SetAnswer}
use Rattle.hash_commands.specs.declared.changes.SetAnswer.TheVariants.{Added, Done}
use Rattle.resp.specs.Content.{Content}

abbrev pub set_answer : SetAnswer → ℕ → Content
set_answer Added added = count added
set_answer Done added = ok
