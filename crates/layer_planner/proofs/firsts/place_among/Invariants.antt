use Rattle.std.proofs.Common.{◌≡◌, ◌<◌, ◌≤◌, length, true, slice_index_or}
use Rattle.groups.specs.Stamp.{stamp_lt}
use Rattle.layer_planner.specs.Units.{stamp_at}
use Rattle.layer_planner.proofs.firsts.place_among.Given as goal

-- those behind are later
abbrev pub invariant-loop-at : goal.invariant-loop-at
invariant-loop-at l = record {
  within : l.at ≤ length l.others;
  behind : l.at < length l.others → stamp_lt (stamp_at l.jobs l.place) (stamp_at l.jobs (slice_index_or l.others l.at 0)) ≡ true;
}

abbrev pub decreases-loop-at : goal.decreases-loop-at
decreases-loop-at l = l.at
