-- How far a run is, and what was put down of it.
use Rattle.std.specs.Prelude.{◌≡◌, ℕ, false, List, [], length, map}
use Rattle.std.specs.List.{AllByRecursion}
use Rattle.journal.specs.declared.step.Step.{Step}
use Rattle.picture.specs.Arrivals.{delivered_by, delivery_in, receipt_in, received_by}
use Rattle.picture.specs.Flights.{IsFlying}
use Rattle.picture.specs.Layers.{LayerTold, last_jobs, layer_in, layers_by, replied_by, reply_in}
use Rattle.picture.specs.Notes.{ids_of}
use Rattle.picture.specs.Run.{AreFlying, InEach, IsPast, Moment, Walks, flight_of, last_of, made_by, steps_of, told_by}
use Rattle.picture.specs.declared.flights.Flights.{Flights}
use Rattle.picture.specs.declared.recorder.Recorder.{Recorder}
use Rattle.placement.specs.Layout.{Layout}
use Rattle.skeen_core.specs.declared.packet.Delivered.{Delivered}
use Rattle.system.specs.Halves.{IsAt}
use Rattle.system.specs.Reads.{failed, table_of}
use Rattle.system.specs.System.{SystemView}
use Rattle.world.specs.Steps.{opening}
use Rattle.world.specs.World.{Ended, Layer, NoneTaken, Taken, HasRun}

-- the layer that is under way is the last one
abbrev pub IsLast : Layer → List LayerTold → Type 0
IsLast NoneTaken ls = Unit {0}
IsLast (Taken ds) ls = ids_of (last_jobs ls) ≡ map (λ (d : Delivered). d.id) ds
IsLast (HasRun es) ls = ids_of (last_jobs ls) ≡ map (λ (e : Ended). e.id) es

-- what was put down of arrivals, layers and replies is what the worlds tell
pub record HasTold (run : List Moment) (r : Recorder) : Type 0 where
  pub receipts : map receipt_in r.arrivals.receipts.items ≡ told_by received_by 0 opening run
  pub deliveries : map delivery_in r.arrivals.deliveries.items ≡ told_by delivered_by 0 opening run
  pub layers : map layer_in r.layers.layers.items ≡ made_by layers_by 0 opening run []
  pub replies : map reply_in r.layers.replies.items ≡ told_by replied_by 0 opening run
  pub last : IsLast (last_of opening run).layer (map layer_in r.layers.layers.items)

-- these steps were made and lead through worlds, the last of which the system shows; what was put down is what these
-- worlds have and tell
pub record Ran (t : Layout) (most : ℕ) (made : List Step) (s : SystemView) (f : Flights) (r : Recorder) : Type 0 where
  pub run : List Moment
  pub steps : steps_of run ≡ made
  pub walks : Walks t opening run
  pub shows : IsAt s.halves made (last_of opening run)
  pub table : table_of s ≡ t
  pub lives : failed s ≡ false
  pub count : s.steps ≡ length made
  pub limit : s.max_steps ≡ most
  pub each : InEach (AreFlying f.packets.items) 0 opening run
  pub flying : IsFlying f (map flight_of (last_of opening run).packets)
  pub past : AllByRecursion (IsPast (length made)) f.packets.items
  pub told : HasTold run r
