-- Sets of groups: ascending lists of numbers, each number once.
use Rattle.std.specs.Prelude.{◌≡◌, ℕ, suc, zero, ◌<◌, ◌==◌, ◌||◌, nat_lt, Bool, true, false, cond, List, [], ◌∷◌}

-- the group is in the set
abbrev pub has : List ℕ → ℕ → Bool
has [] g = false
has (h ∷ hs) g = h == g || has hs g

-- each number is below all that follow it
abbrev pub IsAscending : List ℕ → Type 0
IsAscending [] = Unit {0}
IsAscending (g ∷ gs) = ((h : ℕ) → has gs h ≡ true → g < h) × IsAscending gs

-- what each set of groups is
pub record IsGroupSet (gs : List ℕ) : Type 0 where
  pub ascending : IsAscending gs
  pub below_64 : (g : ℕ) → has gs g ≡ true → g < 64

-- the set with the group put in its place, if it isn't there yet
abbrev pub with_group : List ℕ → ℕ → List ℕ
with_group [] g = g ∷ []
with_group (h ∷ hs) g = cond (nat_lt h g) (h ∷ with_group hs g) (cond (h == g) (h ∷ hs) (g ∷ h ∷ hs))

-- those of the m numbers from g on that pass the test, ascending
unfoldable pub chosen : (ℕ → Bool) → ℕ → ℕ → List ℕ
chosen test g zero = []
chosen test g (suc m) = cond (test g) (g ∷ chosen test (suc g) m) (chosen test (suc g) m)
