use Rattle.std.proofs.Common.{[], refl, ap, ◌∙◌}
use Rattle.front.proofs.Opening.{IsOpening, opening_shown}
use Rattle.front.specs.Fronts.{FrontView, roomless}
use Rattle.world.specs.Steps.{opening}
use Rattle.front.proofs.front.Front.new.Goals.{After-new-6}
use Rattle.front.proofs.front.Front.new.Goals as goal

abbrev new_front : After-new-6 → FrontView
new_front c = record {
  table = c.args.table;
  router = c.new-2.result;
  multicast = roomless c.in_ok-multicast.multicast;
  out = c.new-3.result.items;
  steps = 0;
  layers = 0;
}

-- every part is as it is when nothing has happened
is_opening : (c : After-new-6) → IsOpening (new_front c)
is_opening c = record {
  opened = c.new-2.ensures.opened;
  kept = c.new-2.ensures.none;
  sessions = λ n. ap (λ f. f n) c.new-2.ensures.sessions;
  count = c.in_ok-multicast.ensures.count ∙ c.shards.ensures.value;
  fresh = c.in_ok-multicast.ensures.fresh;
  packets = c.in_ok-multicast.ensures.none;
  empty = c.in_ok-multicast.ensures.empty;
  out = c.new-3.ensures.items;
}

pub invariant_of-result : goal.invariant_of-result
invariant_of-result c = record {
  is_table = c.shards.ensures.is_table;
  history = [];
  world = opening;
  at = opening_shown (new_front c) (is_opening c);
  count = refl;
  not_run = tt;
}

pub returns : goal.returns
returns c = record { table = refl; no_steps = refl; no_layers = refl; at = opening_shown (new_front c) (is_opening c) }
