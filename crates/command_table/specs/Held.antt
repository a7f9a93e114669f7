-- What is told of a command, where the command holds it.
use Rattle.std.specs.Prelude.{[], ◌∷◌}
use Rattle.command_table.specs.declared.told.Keys.{Keys}
use Rattle.command_table.specs.declared.told.Keys.TheVariants as keys
use Rattle.command_table.specs.declared.told.Told.{Told}
use Rattle.texts.specs.Texts.{firsts}
use Rattle.command_table.specs.Telling.{Telling, KeysTold, All, These}

abbrev pub keys_held : Keys → KeysTold
keys_held keys.None = These []
keys_held keys.All = All
keys_held (keys.One key) = These (key.now ∷ [])
keys_held (keys.Two first second) = These (first.now ∷ second.now ∷ [])
keys_held (keys.Each each) = These each.now
keys_held (keys.OneAnd first rest) = These (first.now ∷ rest.now)
keys_held (keys.Firsts pairs) = These (firsts pairs.now)

abbrev pub told_held : Told → Telling
told_held t = record { name = t.name.now; keys = keys_held t.keys }
