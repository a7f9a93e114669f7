-- A table to stand where none is picked yet.
use Rattle.std.specs.Prelude.{[]}
use Rattle.placement.specs.Layout.{Layout}

abbrev pub no_table : Layout
no_table = record { shards = 0; slots = [] }
