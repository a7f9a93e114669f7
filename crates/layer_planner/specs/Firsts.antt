-- The first places of units on the way.
use Rattle.std.specs.Prelude.{◌≡◌, ℕ, Bool, false, List, [], ◌∷◌}
use Rattle.groups.specs.GroupSet.{has}
use Rattle.groups.specs.Order.{In}
use Rattle.groups.specs.Stamp.{stamp_lt}
use Rattle.layer_planner.specs.declared.job.Job.{Job}
use Rattle.layer_planner.specs.Units.{stamp_at, has_begun}

-- no job stands behind one with a later stamp
abbrev pub IsRising : List Job → List ℕ → Type 0
IsRising jobs [] = Unit {0}
IsRising jobs (k ∷ ks) = ((m : ℕ) → In m ks → stamp_lt (stamp_at jobs m) (stamp_at jobs k) ≡ false) × IsRising jobs ks

-- these groups are those whose unit begins among the first n places
abbrev pub HaveBegun : List (List ℕ) → ℕ → List ℕ → Type 0
HaveBegun sets n begun = (g : ℕ) → has begun g ≡ has_begun sets (g ∷ []) n

-- it is one group alone, and that one has begun
abbrev pub is_begun : List ℕ → List ℕ → Bool
is_begun begun (g ∷ []) = has begun g
is_begun begun groups = false
