-- What is put down of a step, by what the system shows before and behind it.
use Rattle.std.specs.Prelude.{◌≡◌, ℕ, nat_lt, false, List, [], ◌∷◌, ◌++◌, length, map, drop, Option, Some}
use Rattle.std.specs.Prelude.{is_some, option_map}
use Rattle.std.specs.List.{filter}
use Rattle.groups.specs.declared.request.RequestId.{RequestId}
use Rattle.groups.specs.declared.skip_id.SkipId.{SkipId}
use Rattle.journal.specs.declared.step.Step.{Step}
use Rattle.journal.specs.declared.step.Step.TheVariants as step
use Rattle.layer_planner.specs.declared.job.Job.{Job}
use Rattle.picture.specs.Arrivals.{Receipt, receipt_in, delivery_in, delivery_of}
use Rattle.picture.specs.Layers.{JobTold, ReplyTold, layer_in, taken_at, run_at, settled_at, with_last, last_jobs, reply_in, reply_at}
use Rattle.picture.specs.Run.{flight_in}
use Rattle.picture.specs.declared.arrivals.Arrivals.{Arrivals}
use Rattle.picture.specs.declared.arrivals.Arriving.{Arriving}
use Rattle.picture.specs.declared.layers.Layers.{Layers}
use Rattle.picture.specs.declared.recorder.Before.{Before}
use Rattle.picture.specs.declared.recorder.Before.TheVariants as before
use Rattle.picture.specs.declared.recorder.Recorder.{Recorder}
use Rattle.picture_shapes.specs.declared.facts.JobFacts.{JobFacts}
use Rattle.picture_shapes.specs.declared.facts.PacketFacts.{PacketFacts}
use Rattle.system.specs.Reads.{clock_of, layer_of, queues_of, waiting_for}
use Rattle.system.specs.System.{SystemView}
use Rattle.system.specs.declared.effect.Effect.{Effect}
use Rattle.system.specs.declared.effect.Effect.TheVariants.{Ran}

-- ---- arrivals

abbrev pub arriving_in : SystemView → PacketFacts → Arriving
arriving_in s p = record { packet = p; clock = clock_of s p.to; queued = length (queues_of s p.to) }

abbrev pub receipt_noted : ℕ → Arriving → SystemView → Receipt
receipt_noted n a s = record {
  step = n;
  flight = flight_in a.packet;
  clock = clock_of s a.packet.to;
  rose = nat_lt a.clock (clock_of s a.packet.to);
}

-- the packet's receipt, and what its group has delivered since
pub record Arrives (n : ℕ) (a : Arriving) (s : SystemView) (old new : Arrivals) : Type 0 where
  pub receipts : map receipt_in new.receipts.items ≡ map receipt_in old.receipts.items ++ receipt_noted n a s ∷ []
  pub deliveries : map delivery_in new.deliveries.items
      ≡ map delivery_in old.deliveries.items ++ map (delivery_of n a.packet.to) (drop a.queued (queues_of s a.packet.to))

-- ---- layers

abbrev pub job_noted : Job → JobTold
job_noted j = record { id = j.id; stamp = j.stamp; groups = j.groups; starved = false }

pub record Takes (n : ℕ) (jobs : List Job) (old new : Layers) : Type 0 where
  pub layers : map layer_in new.layers.items ≡ map layer_in old.layers.items ++ taken_at n (map job_noted jobs) ∷ []
  pub replies : new.replies ≡ old.replies

pub record Runs (n : ℕ) (starved : List SkipId) (old new : Layers) : Type 0 where
  pub layers : map layer_in new.layers.items ≡ with_last (run_at n starved) (map layer_in old.layers.items)
  pub replies : new.replies ≡ old.replies

abbrev pub ids_of : List JobTold → List RequestId
ids_of js = map (λ j. j.id) js

abbrev pub ids_in : List JobFacts → List RequestId
ids_in js = map (λ j. j.asked.id) js

-- a reply for each of these whose connection has an outcome
abbrev pub replies_noted : ℕ → SystemView → List RequestId → List ReplyTold
replies_noted n s ids = map (reply_at n) (filter (λ (id : RequestId). is_some (waiting_for s id.conn.0)) ids)

pub record Settles (n : ℕ) (s : SystemView) (old new : Layers) : Type 0 where
  pub layers : map layer_in new.layers.items ≡ with_last (settled_at n) (map layer_in old.layers.items)
  pub replies : map reply_in new.replies.items
      ≡ map reply_in old.replies.items ++ replies_noted n s (ids_of (last_jobs (map layer_in old.layers.items)))

-- ---- a step

-- nothing was put down
pub record HasNone (r : Recorder) : Type 0 where
  pub receipts : r.arrivals.receipts.items ≡ []
  pub deliveries : r.arrivals.deliveries.items ≡ []
  pub layers : r.layers.layers.items ≡ []
  pub replies : r.layers.replies.items ≡ []

-- of the other kinds of step nothing of these is put down
abbrev pub IsOther : Before → Type 0
IsOther before.Open = Unit {0}
IsOther (before.Submit words title) = Unit {0}
IsOther (before.Collect conn) = Unit {0}
IsOther (before.Close conn) = Unit {0}
IsOther before.Repeat = Unit {0}
IsOther b = ⊥

-- what is to be known of the step, which brings this packet to its group, if one, in this system
abbrev pub IsBefore : Step → Option PacketFacts → SystemView → Before → Type 0
IsBefore (step.Deliver k) landed s b = b ≡ before.Deliver (option_map (arriving_in s) landed)
IsBefore step.Take landed s b = b ≡ before.Take
IsBefore (step.Run skip) landed s b = b ≡ before.Run
IsBefore step.Settle landed s b = b ≡ before.Settle
IsBefore step.Open landed s b = IsOther b
IsBefore (step.Submit conn words) landed s b = IsOther b
IsBefore (step.Collect conn) landed s b = IsOther b
IsBefore (step.Close conn) landed s b = IsOther b
IsBefore (step.Repeat place) landed s b = IsOther b

-- the step behind so many, of which this was known, was answered so and led to this system
abbrev pub Notes : ℕ → Before → Effect → SystemView → Recorder → Recorder → Type 0
Notes n (before.Deliver (Some a)) effect s old new = Arrives n a s old.arrivals new.arrivals × (new.layers ≡ old.layers)
Notes n before.Take effect s old new = (new.arrivals ≡ old.arrivals) × Takes n (layer_of s) old.layers new.layers
Notes n before.Run (Ran starved) s old new = (new.arrivals ≡ old.arrivals) × Runs n starved old.layers new.layers
Notes n before.Settle effect s old new = (new.arrivals ≡ old.arrivals) × Settles n s old.layers new.layers
Notes n b effect s old new = (new.arrivals ≡ old.arrivals) × (new.layers ≡ old.layers)
