-- How the units of a layer are dealt to parts: unit i goes to part i mod the number of parts.
use Rattle.std.specs.Prelude.{◌≡◌, ℕ, zero, suc, ◌<◌, ◌≤◌, ◌%◌, ◌-◌, ◌==◌, List, [], ◌∷◌, length, map, min, take, drop, slice_index_or}
use Rattle.std.specs.List.{filter, range_with_len, flat_map}
use Rattle.layer_planner.specs.declared.job.Job.{Job}
use Rattle.layer_planner.specs.Layers.{StandTogether}
use Rattle.layer_planner.specs.Firsts.{IsRising}
use Rattle.layer_planner.specs.Units.{groups_each, firsts, units, AreUnitsOf}

-- of that many units those that go to part k, ascending
abbrev pub part : ℕ → ℕ → ℕ → List ℕ
part parts units k = filter (λ i. i % parts == k) (range_with_len 0 units)

-- all parts, in order
abbrev pub dealt : ℕ → ℕ → List (List ℕ)
dealt parts units = map (part parts units) (range_with_len 0 parts)

-- these of a layer's units
abbrev pub picked_units : List (List ℕ) → List ℕ → List (List ℕ)
picked_units all numbers = map (λ i. slice_index_or all i []) numbers

-- a layer's units, dealt to so many parts
abbrev pub parts_of : ℕ → List Job → List (List (List ℕ))
parts_of parts jobs = map (picked_units (units jobs)) (dealt parts (length (units jobs)))

-- the units of all parts, one part after another
abbrev pub units_in : List (List (List ℕ)) → List (List ℕ)
units_in parts = flat_map (λ units. units) parts

-- as many parts as workers, or units where these are fewer
abbrev pub planned : ℕ → List Job → List (List (List ℕ))
planned workers jobs = parts_of (min workers (length (units jobs))) jobs

-- ---- units in one list

-- a list cut at these places, from `start` on
abbrev pub cut : {X : Type 0} → ℕ → List X → List ℕ → List (List X)
cut start xs [] = []
cut start xs (end ∷ ends) = take (end - start) (drop start xs) ∷ cut end xs ends

-- the ends ascend from `start` on, and the last one is the end of all
abbrev pub AreEnds : ℕ → List ℕ → ℕ → Type 0
AreEnds start [] all = start ≡ all
AreEnds start (end ∷ ends) all = (start ≤ end) × AreEnds end ends all

-- where the piece of this number begins
abbrev pub start_of : List ℕ → ℕ → ℕ
start_of ends zero = 0
start_of ends (suc n) = slice_index_or ends n 0

-- ---- laws

-- `units` gives the units of a layer, in whatever parts they are
abbrev pub UnitsAreUnits : Type 0
UnitsAreUnits = (jobs : List Job) → StandTogether jobs → AreUnitsOf (groups_each jobs) (units jobs)

-- and in the order of their first stamps: `units` goes by the first places
abbrev pub UnitsAreInOrder : Type 0
UnitsAreInOrder = (jobs : List Job) → IsRising jobs (firsts jobs)

abbrev pub PartsAreUnits : Type 0
PartsAreUnits =
    (parts : ℕ) (jobs : List Job) → 0 < parts → StandTogether jobs → AreUnitsOf (groups_each jobs) (units_in (parts_of parts jobs))
