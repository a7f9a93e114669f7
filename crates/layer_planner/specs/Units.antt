-- The units of a layer, each a list of places: the jobs that address one group alone are the unit of that group, and each
-- other job is a unit by itself.
use Rattle.std.specs.Prelude.{◌≡◌, ℕ, zero, suc, ◌<◌, ◌==◌, ◌||◌, Bool, true, false, cond, not, nat_lt, List, [], ◌∷◌, length, map}
use Rattle.std.specs.Prelude.{slice_index_or}
use Rattle.std.specs.List.{concat, count_by}
use Rattle.groups.specs.GroupSet.{has, IsAscending, chosen}
use Rattle.groups.specs.Order.{In}
use Rattle.groups.specs.Stamp.{stamp_lt}
use Rattle.groups.specs.declared.stamp.Stamp.{Stamp}
use Rattle.layer_planner.specs.declared.job.Job.{Job}

-- the groups of each job
abbrev pub groups_each : List Job → List (List ℕ)
groups_each jobs = map (λ j. j.groups) jobs

-- the groups of the job at a place, and its stamp
abbrev pub groups_at : List (List ℕ) → ℕ → List ℕ
groups_at sets place = slice_index_or sets place []

abbrev pub stamp_at : List Job → ℕ → Stamp
stamp_at jobs place = slice_index_or (map (λ j. j.stamp) jobs) place (record { clock = 0; group = 0 })

-- each is the same one group alone
abbrev pub line_up : List ℕ → List ℕ → Bool
line_up (g ∷ []) (h ∷ []) = g == h
line_up groups others = false

-- the place itself, and each one whose job addresses the same one group alone
abbrev pub is_in_unit : List (List ℕ) → ℕ → ℕ → Bool
is_in_unit sets place k = k == place || line_up (groups_at sets place) (groups_at sets k)

abbrev pub unit_at : List (List ℕ) → ℕ → List ℕ
unit_at sets place = chosen (is_in_unit sets place) 0 (length sets)

-- one of the first n jobs addresses the same one group alone
abbrev pub has_begun : List (List ℕ) → List ℕ → ℕ → Bool
has_begun sets groups zero = false
has_begun sets groups (suc n) = line_up groups (groups_at sets n) || has_begun sets groups n

-- no place of its unit is before it
abbrev pub is_first : List (List ℕ) → ℕ → Bool
is_first sets place = not (has_begun sets (groups_at sets place) place)

-- a place put in front of the first one whose job has a later stamp
abbrev pub put_by_stamp : List Job → ℕ → List ℕ → List ℕ
put_by_stamp jobs i [] = i ∷ []
put_by_stamp jobs i (k ∷ ks) = cond (stamp_lt (stamp_at jobs i) (stamp_at jobs k)) (i ∷ k ∷ ks) (k ∷ put_by_stamp jobs i ks)

-- places sorted by the stamps of their jobs; those with one stamp keep their order
abbrev pub by_stamps : List Job → List ℕ → List ℕ → List ℕ
by_stamps jobs sorted [] = sorted
by_stamps jobs sorted (i ∷ is) = by_stamps jobs (put_by_stamp jobs i sorted) is

-- the first place of each unit, by the stamps
abbrev pub firsts : List Job → List ℕ
firsts jobs = by_stamps jobs [] (chosen (is_first (groups_each jobs)) 0 (length jobs))

-- the units, in the order of their first stamps
abbrev pub units : List Job → List (List ℕ)
units jobs = map (unit_at (groups_each jobs)) (firsts jobs)

-- ---- units in any order

-- Places are one unit of a layer whose jobs have these groups: they ascend, all have the same groups, and whoever shares a
-- group with them is one of them.
pub record IsUnit (sets : List (List ℕ)) (unit : List ℕ) : Type 0 where
  pub some : 0 < length unit
  pub ascending : IsAscending unit
  pub alike : (i k : ℕ) → has unit i ≡ true → has unit k ≡ true → groups_at sets i ≡ groups_at sets k
  pub whole : (i k g : ℕ) → has unit i ≡ true → has (groups_at sets i) g ≡ true → has (groups_at sets k) g ≡ true → has unit k ≡ true

-- in these units together each of that many places stands once, and nothing else
abbrev pub EachPlaceOnce : ℕ → List (List ℕ) → Type 0
EachPlaceOnce places units = (i : ℕ) → count_by (λ k. k == i) (concat units) ≡ cond (nat_lt i places) 1 0

-- these are the units of a layer whose jobs have these groups
pub record AreUnitsOf (sets units : List (List ℕ)) : Type 0 where
  pub each : (unit : List ℕ) → In unit units → IsUnit sets unit
  pub once : EachPlaceOnce (length sets) units
