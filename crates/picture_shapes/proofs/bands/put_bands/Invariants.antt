use Rattle.std.proofs.Common.{◌≡◌, ◌++◌, map}
use Rattle.picture_shapes.specs.Bands.{band_at}
use Rattle.picture_shapes.proofs.bands.put_bands.Given as goal

-- those that are put, and those of the groups that are left, are those of all groups
abbrev pub invariant-loop-group : goal.invariant-loop-group
invariant-loop-group l =
    l.bands.items ++ map (band_at l.frame l.layer) l.group-iterator ≡ l.fn.bands.items ++ map (band_at l.frame l.layer) l.layer.groups
