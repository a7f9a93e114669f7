-- A front by its fields, and what is asked of its numbers.
use Rattle.front.specs.Fronts.{FrontView, roomless}
use Rattle.front.specs.declared.front.Front.TheInside.{Inside}

-- what contracts see of the front with these fields
abbrev pub seen : Inside → FrontView
seen f = record {
  table = f.table;
  router = f.router;
  multicast = roomless f.multicast;
  out = f.out.items;
  steps = f.steps;
  layers = f.layers;
}
