use Rattle.std.proofs.Common.{◌≡◌, ◌≤◌, [], length, vec_capacity, take, drop}
use Rattle.front.specs.Taking.{IsTaking}
use Rattle.placement.specs.Layout.{Layout}
use Rattle.front.specs.Layers.{AreJobs}
use Rattle.world.specs.World.{World}
use Rattle.front.proofs.layers.take_all.Given as goal

-- those in front are out of the router, and are jobs; there is room for those behind
abbrev pub invariant-loop-request : goal.invariant-loop-request
invariant-loop-request l = record {
  out : (t : Layout) (w : World) → IsTaking t w [] l.fn.ready l.fn.router →
      IsTaking t w (take l.request-index l.fn.ready) (drop l.request-index l.fn.ready) l.router
      × AreJobs w.asked (take l.request-index l.fn.ready) l.jobs.items;
  jobs : length l.jobs.items ≡ l.request-index;
  room_of_jobs : length l.fn.ready ≤ vec_capacity l.jobs;
}
