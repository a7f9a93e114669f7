-- Units as chains: for each place the next one of its unit.
use Rattle.std.specs.Prelude.{◌≡◌, ℕ, suc, ◌<◌, ◌≤◌, true, false, List, [], ◌∷◌, length, slice_index_or, slice_set}
use Rattle.layer_planner.specs.Units.{groups_at, line_up}

-- of the places from `from` on, the first whose job addresses just this one group; the number of places where there is none
pub record IsFirstFrom (sets : List (List ℕ)) (groups : List ℕ) (from place : ℕ) : Type 0 where
  pub low : from ≤ place
  pub high : place ≤ length sets
  pub none : (k : ℕ) → from ≤ k → k < place → line_up groups (groups_at sets k) ≡ false
  pub there : place < length sets → line_up groups (groups_at sets place) ≡ true

-- each place of these has behind it the next one of its unit
pub record AreNexts (sets : List (List ℕ)) (nexts : List ℕ) : Type 0 where
  pub long : length nexts ≡ length sets
  pub each : (k : ℕ) → k < length sets → IsFirstFrom sets (groups_at sets k) (suc k) (slice_index_or nexts k 0)

-- a place in front of the one at which the chain of its group began so far
abbrev pub linked : List ℕ → ℕ → List ℕ → List ℕ → List ℕ
linked (g ∷ []) place nexts heads = slice_set nexts place (slice_index_or heads g 0)
linked groups place nexts heads = nexts

-- where the chains begin then
abbrev pub heads_with : List ℕ → ℕ → List ℕ → List ℕ
heads_with (g ∷ []) place heads = slice_set heads g place
heads_with groups place heads = heads
