use Rattle.shards.proofs.Joins.{get-joined}
use Rattle.shards.proofs.Layers.{layer_in_turn, starved_leave_no_trace}
use Rattle.shards.proofs.PutBack.{parts_in_turn, taken_out_as_they_were, works_in_turn}
use Rattle.shards.proofs.Steps.{span_is_joined}
use Rattle.shards.proofs.laws.laws_of_joined_maps.Goals as goal

pub returns-clause-keys_lie_on_their_shards : goal.returns-clause-keys_lie_on_their_shards
returns-clause-keys_lie_on_their_shards c = get-joined

pub returns-clause-spans_are_joined : goal.returns-clause-spans_are_joined
returns-clause-spans_are_joined c = span_is_joined

pub returns-clause-layers_are_in_turn : goal.returns-clause-layers_are_in_turn
returns-clause-layers_are_in_turn c = layer_in_turn

pub returns-clause-starved_leave_no_trace : goal.returns-clause-starved_leave_no_trace
returns-clause-starved_leave_no_trace c = starved_leave_no_trace

pub returns-clause-parts_are_in_turn : goal.returns-clause-parts_are_in_turn
returns-clause-parts_are_in_turn c = parts_in_turn

pub returns-clause-works_are_in_turn : goal.returns-clause-works_are_in_turn
returns-clause-works_are_in_turn c = works_in_turn

pub returns-clause-taken_out_as_they_were : goal.returns-clause-taken_out_as_they_were
returns-clause-taken_out_as_they_were c = taken_out_as_they_were
