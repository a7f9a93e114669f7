use Rattle.world_laws.proofs.OrderLaws.{groups_agree, final_is_greatest, final_is_told, final_stamps_differ, stamps_of_connection_rise}
use Rattle.world_laws.proofs.OrderLaws.{clock_is_above_proposals, clock_is_above_deliveries, clocks_are_bounded, deliveries_ascend}
use Rattle.world_laws.proofs.OrderLaws.{asked_of_its_groups, packets_go_to_addressed, deliveries_are_addressed, others_keep_still}
use Rattle.world_laws.proofs.OrderLaws.{ends_once, ends_as_submitted, touching_end_in_stamp_order, ended_is_kept}
use Rattle.world_laws.proofs.ReadyLaws.{ready_is_first, lined_up_is_behind_alone}
use Rattle.world_laws.proofs.order.order_of_requests.Goals as goal

pub returns : goal.returns
returns c = record {
  groups_agree = groups_agree;
  final_is_greatest = final_is_greatest;
  final_is_proposed = final_is_told;
  final_stamps_differ = final_stamps_differ;
  stamps_of_connection_rise = stamps_of_connection_rise;
  clock_is_above_proposals = clock_is_above_proposals;
  clock_is_above_deliveries = clock_is_above_deliveries;
  clocks_are_bounded = clocks_are_bounded;
  deliveries_ascend = deliveries_ascend;
  asked_of_its_groups = asked_of_its_groups;
  packets_go_to_addressed = packets_go_to_addressed;
  deliveries_are_addressed = deliveries_are_addressed;
  others_keep_still = others_keep_still;
  ready_is_first = ready_is_first;
  lined_up_is_behind_alone = lined_up_is_behind_alone;
  ends_once = ends_once;
  ends_as_submitted = ends_as_submitted;
  touching_end_in_stamp_order = touching_end_in_stamp_order;
  ended_is_kept = ended_is_kept;
}
