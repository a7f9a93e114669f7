-- One thread on one map: what is asked is done one after another, each on the map that those before it left.
use Rattle.std.specs.Prelude.{List, [], ◌∷◌}
use Rattle.tasks.specs.Command.{effect_of}
use Rattle.command_cases.specs.Case.{Case}
use Rattle.command_table.specs.declared.command.Command.{Command}
use Rattle.keyspace.specs.Map.{Map}
use Rattle.resp.specs.Content.{Content}

-- the last map, and the reply at each place
abbrev pub in_turn : {A : Type 0} → (A → Case) → Map → List A → Map × List Content
in_turn case m [] = (m, [])
in_turn case m (a ∷ more) =
    ((in_turn case (case a m).0 more).0, (case a m).1 ∷ (in_turn case (case a m).0 more).1)

-- the commands in turn from this map
abbrev pub solo_from : Map → List Command → Map × List Content
solo_from = in_turn effect_of
