use Rattle.std.proofs.Common.{◌≡◌, Some, map, take}
use Rattle.texts.specs.Texts.{by_turns}
use Rattle.hash_commands.proofs.arrays.pairs_reply.Given as goal

-- the pairs so far have their texts
abbrev pub invariant-loop-place : goal.invariant-loop-place
invariant-loop-place l = l.texts ≡ map Some (by_turns (take l.place l.hash))
