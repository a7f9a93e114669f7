-- How the host ends.
use Rattle.std.specs.Prelude.{◌≡◌, ◌≤◌, ◌⊎◌, ℕ}

-- a status of serving: 0 at a good end, and one of 4 to 7 where the network, the closing, the trace or memory failed
abbrev pub IsEndStatus : ℕ → Type 0
IsEndStatus status = (status ≡ 0) ⊎ ((4 ≤ status) × (status ≤ 7))
