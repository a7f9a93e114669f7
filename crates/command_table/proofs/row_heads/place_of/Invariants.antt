use Rattle.std.proofs.Common.{◌≡◌, drop}
use Rattle.command_table.specs.RowHeads.{heads_held, place_from}
use Rattle.command_table.proofs.row_heads.place_of.Given as goal

abbrev pub invariant-loop-place : goal.invariant-loop-place
invariant-loop-place l =
    let heads = heads_held l.heads in
    place_from 0 heads l.name l.words ≡ place_from l.place (drop l.place heads) l.name l.words
