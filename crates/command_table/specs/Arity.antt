-- How many words a command takes, its name included.
use Rattle.std.specs.Prelude.{ℕ, Bool, ◌==◌, nat_le}
use Rattle.command_table.specs.declared.arity.Arity.{Arity}
use Rattle.command_table.specs.declared.arity.Arity.TheVariants.{Exactly, AtLeast}

-- whether a request of so many words has as many as it should
abbrev pub admits : Arity → ℕ → Bool
admits (Exactly n) words = words == n
admits (AtLeast n) words = nat_le n words
