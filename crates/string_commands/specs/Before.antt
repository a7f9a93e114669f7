-- What stood at keys before strings were put there.
use Rattle.std.specs.Prelude.{◌≡◌, ℕ, List, [], ◌∷◌, Option}
use Rattle.std.specs.FinMap.{get, insert}
use Rattle.std.specs.Global.{Vec}
use Rattle.keyspace.specs.Map.{Map}
use Rattle.values.specs.declared.Value.{Value}

-- a key, and the value that stood there, if there was one
abbrev pub Before : Type 0
Before = Vec ℕ × Option Value

-- the first map becomes the last one where a value is put at each of these keys, one after another
abbrev pub LeadsTo : Map → List Before → Map → Type 0
LeadsTo m [] n = n ≡ m
LeadsTo m (b ∷ bs) n = (value : Value) × (get m b.0.items ≡ b.1) × LeadsTo (insert m b.0.items value) bs n
