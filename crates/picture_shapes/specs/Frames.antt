-- Where things stand in a picture: a window of steps from left to right, connections on top, and groups below.
use Rattle.std.specs.Prelude.{◌≡◌, ℕ, ◌^◌, min, ◌+◌, ◌-◌, ◌*◌, ◌/◌, ◌==◌, ◌&&◌}
use Rattle.std.specs.Prelude.{nat_le, nat_lt, cond, Bool, false, Option, Some, None, slice_get}
use Rattle.picture_shapes.specs.declared.frame.Frame.{Frame}

-- ---- which steps

-- the steps from the first to before the second of these, as far as a run of so many has them, and no more than 2^32
pub record IsWindow (count from to : ℕ) (f : Frame) : Type 0 where
  pub first : f.from ≡ min from (min to count)
  pub last : f.to ≡ min (min to count) (f.from + 2 ^ 32)

-- the step is within the window
abbrev pub shows : Frame → ℕ → Bool
shows f step = nat_le f.from step && nat_lt step f.to

abbrev pub shows_some : Frame → Option ℕ → Bool
shows_some f None = false
shows_some f (Some step) = shows f step

-- it is there, and at this step
abbrev pub is_at : Option ℕ → ℕ → Bool
is_at None step = false
is_at (Some other) step = other == step

-- it is before the window
abbrev pub is_past : Frame → Option ℕ → Bool
is_past f None = false
is_past f (Some step) = nat_lt step f.from

-- ---- from left to right

-- where a step is: one before the window at its left edge, one behind it at its right edge
abbrev pub x_of : Frame → ℕ → ℕ
x_of f step = cond (nat_le f.to step) f.end (cond (nat_lt step f.from) 72 (72 + f.pitch / 2 + f.pitch * (step - f.from)))

-- one that never comes is at the right edge
abbrev pub x_or_end : Frame → Option ℕ → ℕ
x_or_end f None = f.end
x_or_end f (Some step) = x_of f step

-- ---- from top to bottom

abbrev pub row_at : Option (Option ℕ) → Option ℕ
row_at None = None
row_at (Some None) = None
row_at (Some (Some row)) = Some (96 + 28 * row)

-- where a connection is drawn, if it is; they are numbered from 1
abbrev pub row_of : Frame → ℕ → Option ℕ
row_of f conn = cond (conn == 0) None (row_at (slice_get f.rows.items (conn - 1)))

abbrev pub strip_of : Frame → ℕ
strip_of f = f.gate + 12

-- the lane of a group, and the line in it
abbrev pub top_of : Frame → ℕ → ℕ
top_of f group = f.gate + 34 + 118 * group

abbrev pub line_of : Frame → ℕ → ℕ
line_of f group = top_of f group + 44
