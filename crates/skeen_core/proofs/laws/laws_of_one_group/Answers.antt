use Rattle.skeen_core.proofs.RunLaws.{clock_never_falls, clock_is_above_stamps, deliveries_ascend, delivered_is_forgotten}
use Rattle.skeen_core.proofs.RunLaws.{past_is_reached, repeats_change_nothing, rule_determines}
use Rattle.skeen_core.proofs.laws.laws_of_one_group.Goals as goal

pub returns : goal.returns
returns c = record {
  clock_never_falls = clock_never_falls;
  clock_is_above_stamps = clock_is_above_stamps;
  deliveries_ascend = deliveries_ascend;
  delivered_is_forgotten = delivered_is_forgotten;
  past_is_reached = past_is_reached;
  repeats_change_nothing = repeats_change_nothing;
  rule_determines = rule_determines;
}
