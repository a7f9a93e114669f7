-- Things taken from their places one after another, and results put in theirs.
use Rattle.std.specs.Prelude.{◌≡◌, ℕ, ◌<◌, List, [], ◌∷◌, ◌++◌, Option, Some, None, map, slice_get, slice_set}
use Rattle.std.specs.Global.{Vec}
use Rattle.std.specs.List.{AllByRecursion}
use Rattle.shards.specs.Joined.{Span}
use Rattle.shard_workers.specs.declared.load.Load.{Load}
use Rattle.shard_workers.specs.declared.placed_job.JobRan.{JobRan}
use Rattle.shard_workers.specs.declared.work.Work.{Work}
use Rattle.shard_workers.specs.declared.work.Ran.{Ran}

-- at each of these places there is something still when its turn comes
abbrev pub CanTake : {X : Type 0} → List (Option X) → List ℕ → Type 0
CanTake slots [] = Unit {0}
CanTake {X} slots (i ∷ is) = ((x : X) × (slice_get slots i ≡ Some (Some x))) × CanTake (slice_set slots i None) is

-- what is left when these places were taken from
abbrev pub left_at : {X : Type 0} → List (Option X) → List ℕ → List (Option X)
left_at slots [] = slots
left_at slots (i ∷ is) = left_at (slice_set slots i None) is

-- what is there
abbrev pub filled : {X : Type 0} → List (Option X) → List X
filled [] = []
filled (None ∷ slots) = filled slots
filled (Some x ∷ slots) = x ∷ filled slots

-- lists, one after another
abbrev pub flat : {X : Type 0} → List (List X) → List X
flat [] = []
flat (xs ∷ xss) = xs ++ flat xss

-- results in the places that they name
abbrev pub placed : List (Option JobRan) → List JobRan → List (Option JobRan)
placed slots [] = slots
placed slots (r ∷ rs) = placed (slice_set slots r.place (Some r)) rs

-- each result names one of so many places
abbrev pub AreInside : ℕ → List JobRan → Type 0
AreInside count rs = AllByRecursion (λ r. r.place < count) rs

-- ---- units and loads

-- the units of all loads, one load after another
abbrev pub all_works : List Load → List Work
all_works [] = []
all_works (p ∷ ps) = p.works.items ++ all_works ps

-- what became of the requests of these units, and of their shards
abbrev pub jobs_of : List Ran → List JobRan
jobs_of [] = []
jobs_of (r ∷ rs) = r.jobs.items ++ jobs_of rs

abbrev pub spans_of : List Ran → List Span
spans_of rs = map (λ r. r.shards.items) rs

-- what all loads gave
abbrev pub all_rans : List (Vec Ran) → List Ran
all_rans [] = []
all_rans (r ∷ rs) = r.items ++ all_rans rs

abbrev pub all_jobs : List (Vec Ran) → List JobRan
all_jobs rs = jobs_of (all_rans rs)

abbrev pub all_spans : List (Vec Ran) → List Span
all_spans rs = spans_of (all_rans rs)
