use Rattle.std.proofs.Common.{◌≤◌, map, reverse}
use Rattle.std.specs.Str.{bytes_eq}
use Rattle.values.proofs.Lists.{IsTurned}
use Rattle.values.proofs.list_value.remove_from_tail.Given as goal

abbrev pub invariant-loop-turn : goal.invariant-loop-turn
invariant-loop-turn l = record {
  turned : IsTurned (bytes_eq l.item) l.fn.most (reverse (map (λ t. t.items) l.fn.texts.items)) l.turn l.left
      (reverse (map (λ t. t.items) l.texts.items));
  bound : l.texts.len ≤ l.fn.texts.len;
}
