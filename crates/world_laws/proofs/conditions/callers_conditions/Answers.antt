use Rattle.world_laws.proofs.ConditionLaws.{packets_may_come, fresh_is_heard, queues_are_sound, deliveries_may_append}
use Rattle.world_laws.proofs.ConditionLaws.{layers_are_submitted, layers_are_above, settled_is_waited_for, numbers_are_bounded}
use Rattle.world_laws.proofs.Floors.{settled_is_last, floors_are_final, floors_stay}
use Rattle.world_laws.proofs.conditions.callers_conditions.Goals as goal

pub returns : goal.returns
returns c = record {
  packets_may_come = packets_may_come;
  fresh_is_heard = fresh_is_heard;
  queues_are_sound = queues_are_sound;
  deliveries_may_append = deliveries_may_append;
  layers_are_submitted = layers_are_submitted;
  layers_are_above = layers_are_above;
  settled_is_waited_for = settled_is_waited_for;
  settled_is_last = settled_is_last;
  floors_are_final = floors_are_final;
  floors_stay = floors_stay;
  numbers_are_bounded = numbers_are_bounded;
}
