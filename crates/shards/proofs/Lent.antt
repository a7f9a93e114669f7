-- A value that a shard lends.
use Rattle.std.proofs.Common.{◌≡◌, ◌∙◌, ◌<◌, ℕ, List, length, slice_index, get_or, sym, ap, subst, Option, Some, None, MutBor}
use Rattle.std.specs.Option.{OnSome}
use Rattle.keyspace.specs.Map.{Map}
use Rattle.placement.specs.Layout.{Layout, shard_of}
use Rattle.shards.specs.Joined.{Span, numbers}
use Rattle.shards.proofs.Unions.{Spot}
use Rattle.shards.specs.Spans.{IsSpan}
use Rattle.values.specs.declared.Value.{Value}

-- a place that was looked for among the shards themselves
pub spot_inside : {table : Layout} {groups : List ℕ} {inside ss : Span} {i : ℕ} {s : ℕ × Map} {q : List ℕ} → inside ≡ ss
    → IsSpan table groups inside → i < length inside → slice_index (numbers inside) i ≡ shard_of table q → s ≡ get_or inside i s
    → Spot table groups inside ss i s q
spot_inside {i = i} shown span below there at = record {
  shown = shown;
  span = span;
  below = subst (λ l. i < length l) shown below;
  there = ap (λ l. slice_index (numbers l) i) (sym shown) ∙ there;
  at = at;
}

-- what follows from what is said where a value was lent
pub where_lent : {P Q : Type 0} (lent : Option (MutBor Value)) → (P → Q) → OnSome lent P → OnSome lent Q
where_lent None f told = tt
where_lent (Some x) f told = f told
