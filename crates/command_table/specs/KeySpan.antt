-- Which words of a request are keys: the key span of the Redis command reference.
use Rattle.std.specs.Prelude.{ℕ, suc, zero, ◌+◌, ◌-◌, List, [], ◌∷◌, take, drop}
use Rattle.command_table.specs.Telling.{KeysTold, All, These}
use Rattle.command_table.specs.Words.{Word}

-- a key span counts words from 0, the name, on
pub data KeySpan : Type 0 where
  NoKeys : KeySpan
  AllThereAre : KeySpan
  Between : (first last : ℕ) → KeySpan
  ToLastWord : (first step : ℕ) → KeySpan

-- after so many that are passed over, each step-th word
abbrev pub stepped : ℕ → ℕ → List Word → List Word
stepped step pass [] = []
stepped step zero (w ∷ ws) = w ∷ stepped step (step - 1) ws
stepped step (suc pass) (w ∷ ws) = stepped step pass ws

-- the keys that a span takes from the words, the name first
abbrev pub keys_in : KeySpan → List Word → KeysTold
keys_in NoKeys words = These []
keys_in AllThereAre words = All
keys_in (Between first last) words = These (take (last + 1 - first) (drop first words))
keys_in (ToLastWord first step) words = These (stepped step 0 (drop first words))
