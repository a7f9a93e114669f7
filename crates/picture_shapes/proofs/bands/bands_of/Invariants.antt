use Rattle.std.proofs.Common.{◌≡◌, take}
use Rattle.std.specs.List.{flat_map}
use Rattle.picture_shapes.specs.Bands.{layer_bands}
use Rattle.picture_shapes.proofs.bands.bands_of.Given as goal

abbrev pub invariant-loop-layer : goal.invariant-loop-layer
invariant-loop-layer l = l.bands.items ≡ flat_map (layer_bands l.frame) (take l.layer-index l.run.layers.items)
