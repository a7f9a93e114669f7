-- What the jobs that were seen leave to those that follow.
use Rattle.std.specs.Prelude.{◌≡◌, ℕ, true, false, List, [], ◌∷◌, Option, Some, None, slice_index_or}
use Rattle.groups.specs.GroupSet.{has}
use Rattle.groups.specs.Stamp.{stamp_lt}
use Rattle.groups.specs.Units.{MayFollow}
use Rattle.groups.specs.declared.stamp.Stamp.{Stamp}
use Rattle.layer_planner.specs.declared.seen.Seen.{Seen}

-- behind this last stamp of a group stand those that address it alone, later
abbrev pub MayStandBehind : Option Stamp → ℕ → List ℕ → Stamp → Type 0
MayStandBehind None g groups stamp = Unit {0}
MayStandBehind (Some last) g groups stamp = (groups ≡ g ∷ []) × (stamp_lt last stamp ≡ true)

-- a job with these groups and that stamp may join those that were seen
abbrev pub MayJoin : Seen → List ℕ → Stamp → Type 0
MayJoin seen groups stamp =
    (g : ℕ) → has groups g ≡ true
    → (has seen.shared g ≡ false) × MayStandBehind (slice_index_or seen.lasts g None) g groups stamp

-- with a job more, those may join that might join before, and may follow it
pub record HasJoined (old : Seen) (groups : List ℕ) (stamp : Stamp) (new : Seen) : Type 0 where
  pub fewer : (others : List ℕ) (later : Stamp) → MayJoin new others later → MayJoin old others later × MayFollow groups stamp others later
  pub still : (others : List ℕ) (later : Stamp) → MayJoin old others later → MayFollow groups stamp others later → MayJoin new others later
