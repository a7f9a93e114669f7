-- The layers of a run, in its worlds, and the replies that go to connections.
use Rattle.std.specs.Prelude.{ℕ, Bool, true, false, List, [], ◌∷◌, ◌++◌, map, Option, Some, None}
use Rattle.std.specs.List.{filter}
use Rattle.groups.specs.Skips.{names_whole}
use Rattle.groups.specs.declared.request.RequestId.{RequestId}
use Rattle.groups.specs.declared.skip_id.SkipId.{SkipId}
use Rattle.groups.specs.declared.stamp.Stamp.{Stamp}
use Rattle.journal.specs.declared.step.Step.{Step}
use Rattle.journal.specs.declared.step.Step.TheVariants.{Take, Run, Settle}
use Rattle.picture_shapes.specs.declared.facts.JobFacts.{JobFacts}
use Rattle.picture_shapes.specs.declared.facts.LayerFacts.{LayerFacts}
use Rattle.picture_shapes.specs.declared.facts.ReplyFacts.{ReplyFacts}
use Rattle.skeen_core.specs.declared.packet.Delivered.{Delivered}
use Rattle.world.specs.Steps.{starved_among}
use Rattle.world.specs.World.{World, Standing, Closed, Idle, Waiting, Answered, Ended, Layer, NoneTaken, Taken, HasRun}

-- ---- layers

-- a request of a layer, with its final stamp and its groups, and whether it starved as a whole
pub record JobTold : Type 0 where
  pub id : RequestId
  pub stamp : Stamp
  pub groups : List ℕ
  pub starved : Bool

-- the steps at which it was taken, run and settled, and its requests
pub record LayerTold : Type 0 where
  pub take : ℕ
  pub run : Option ℕ
  pub settle : Option ℕ
  pub jobs : List JobTold

abbrev pub job_in : JobFacts → JobTold
job_in j = record { id = j.asked.id; stamp = j.stamp; groups = j.groups; starved = j.starved }

abbrev pub layer_in : LayerFacts → LayerTold
layer_in l = record { take = l.take; run = l.run; settle = l.settle; jobs = map job_in l.jobs.items }

abbrev pub job_of : Delivered → JobTold
job_of d = record { id = d.id; stamp = d.stamp; groups = d.groups; starved = false }

-- it starved if one of these names it as a whole
abbrev pub marked : List SkipId → JobTold → JobTold
marked starved j = record { id = j.id; stamp = j.stamp; groups = j.groups; starved = names_whole starved j.id }

abbrev pub taken_at : ℕ → List JobTold → LayerTold
taken_at n jobs = record { take = n; run = None; settle = None; jobs = jobs }

abbrev pub run_at : ℕ → List SkipId → LayerTold → LayerTold
run_at n starved l = record { take = l.take; run = Some n; settle = l.settle; jobs = map (marked starved) l.jobs }

abbrev pub settled_at : ℕ → LayerTold → LayerTold
settled_at n l = record { take = l.take; run = l.run; settle = Some n; jobs = l.jobs }

-- the last of these is changed so
abbrev pub with_last : {A : Type 0} → (A → A) → List A → List A
with_last f [] = []
with_last f (x ∷ []) = f x ∷ []
with_last f (x ∷ y ∷ ys) = x ∷ with_last f (y ∷ ys)

-- those that are taken now
abbrev pub with_taken : ℕ → Layer → List LayerTold → List LayerTold
with_taken n NoneTaken ls = ls
with_taken n (Taken ds) ls = ls ++ taken_at n (map job_of ds) ∷ []
with_taken n (HasRun es) ls = ls

-- those that are run now
abbrev pub with_run : ℕ → Layer → List LayerTold → List LayerTold
with_run n NoneTaken ls = ls
with_run n (Taken ds) ls = ls
with_run n (HasRun es) ls = with_last (run_at n (starved_among es)) ls

-- a Take adds a layer, the requests that it takes; the next Run runs it, and the next Settle settles it
abbrev pub layers_by : ℕ → World → Step → World → List LayerTold → List LayerTold
layers_by n old Take new ls = with_taken n new.layer ls
layers_by n old (Run skip) new ls = with_run n new.layer ls
layers_by n old Settle new ls = with_last (settled_at n) ls
layers_by n old step new ls = ls

-- the requests of the last layer
abbrev pub last_jobs : List LayerTold → List JobTold
last_jobs [] = []
last_jobs (l ∷ []) = l.jobs
last_jobs (l ∷ k ∷ ks) = last_jobs (k ∷ ks)

-- ---- replies

-- the step, and the request whose reply goes to its connection then
pub record ReplyTold : Type 0 where
  pub step : ℕ
  pub id : RequestId

abbrev pub reply_in : ReplyFacts → ReplyTold
reply_in r = record { step = r.step; id = r.asked.id }

abbrev pub reply_at : ℕ → RequestId → ReplyTold
reply_at n id = record { step = n; id = id }

-- an outcome waits for the connection
abbrev pub is_answered : Standing → Bool
is_answered Closed = false
is_answered Idle = false
is_answered Waiting = false
is_answered (Answered outcome) = true

-- those of the requests whose connections have an outcome now
abbrev pub replied_to : ℕ → Layer → World → List ReplyTold
replied_to n NoneTaken new = []
replied_to n (Taken ds) new = []
replied_to n (HasRun es) new =
    map (reply_at n) (filter (λ (id : RequestId). is_answered (new.standing id.conn.0)) (map (λ (e : Ended). e.id) es))

-- a Settle brings the replies of its layer to the connections that aren't closed
abbrev pub replied_by : ℕ → World → Step → World → List ReplyTold
replied_by n old Settle new = replied_to n old.layer new
replied_by n old step new = []
