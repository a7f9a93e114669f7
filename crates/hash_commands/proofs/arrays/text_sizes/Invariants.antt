use Rattle.std.proofs.Common.{◌<◌, ◌⊎◌}
use Rattle.hash_commands.proofs.arrays.text_sizes.Given as goal

-- there are bytes of a pair before this one
abbrev pub invariant-loop-place : goal.invariant-loop-place
invariant-loop-place l = (0 < l.fields) ⊎ (0 < l.values) → 0 < l.place
