use Rattle.std.proofs.Common.{◌≡◌, Some, map, take}
use Rattle.hash_commands.proofs.arrays.fields_reply.Given as goal

-- the pairs so far have their texts
abbrev pub invariant-loop-place : goal.invariant-loop-place
invariant-loop-place l = l.texts ≡ map (λ p. Some p.0) (take l.place l.hash)
