use Rattle.order_laws.proofs.Layers.{others_leave_layers, layers_are_in_turn}
use Rattle.order_laws.proofs.RunLaws.{settled_are_counted, runs_stay, settled_stay, runs_agree, later_run_behind}
use Rattle.order_laws.proofs.runs.runs_of_layers.Goals as goal

pub returns : goal.returns
returns c = record {
  others_leave_layers = others_leave_layers;
  in_turn = layers_are_in_turn;
  settled_are_counted = settled_are_counted;
  runs_stay = runs_stay;
  settled_stay = settled_stay;
  runs_agree = runs_agree;
  later_run_behind = later_run_behind;
}
