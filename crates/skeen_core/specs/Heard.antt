-- The proposals for one request, in order of coming.
use Rattle.std.specs.Prelude.{ℕ, suc, cond, ◌==◌, List, [], ◌∷◌, Option, Some, None}
use Rattle.std.specs.Option.{is_none}
use Rattle.skeen_core.specs.declared.heard.Heard.{Heard}

-- the clock that a group proposed, if it is there
abbrev pub clock_of : List Heard → ℕ → Option ℕ
clock_of [] g = None
clock_of (p ∷ ps) g = cond (g == p.from) (Some p.clock) (clock_of ps g)

-- the clocks once this proposal has come
abbrev pub with_heard : Heard → (ℕ → Option ℕ) → ℕ → Option ℕ
with_heard p clocks g = cond (g == p.from) (Some p.clock) (clocks g)

-- how many of these groups have proposed nothing
abbrev pub missing : (ℕ → Option ℕ) → List ℕ → ℕ
missing clocks [] = 0
missing clocks (g ∷ gs) = cond (is_none (clocks g)) (suc (missing clocks gs)) (missing clocks gs)
