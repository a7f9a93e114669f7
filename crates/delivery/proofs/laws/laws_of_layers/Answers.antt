use Rattle.delivery.proofs.Layers.{layers_can_be_popped, popped_is_left, layers_are_units}
use Rattle.delivery.proofs.laws.laws_of_layers.Goals as goal

pub returns : goal.returns
returns c = record {
  can_be_popped = layers_can_be_popped;
  popped_is_left = popped_is_left;
  are_units = layers_are_units;
}
