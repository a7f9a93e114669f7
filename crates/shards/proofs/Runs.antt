-- A task that was run over a span by its contract: the span is as `SpanRan` says.
use Rattle.std.proofs.Common.{◌≡◌, Some, None, sym, ap, ◌∙◌, subst}
use Rattle.tasks.proofs.Turns.{pair}
use Rattle.groups.specs.GroupSet.{IsAscending}
use Rattle.placement.specs.Layout.{Layout}
use Rattle.resp.specs.Content.{Content}
use Rattle.tasks.specs.Tasks.{Task, deed_effect, deed_of}
use Rattle.shards.proofs.MapUnions.{divided-union}
use Rattle.shards.specs.Joined.{Span, numbers, union, SpanHasOwnKeys, divided, SpanRan}

module _ (table : Layout) (task : Task) (before after : Span) (up : IsAscending (numbers before))
    (kept : numbers after ≡ numbers before) (own : SpanHasOwnKeys table after) where
  -- the span is its union, divided among its shards
  is_divided : after ≡ divided table (numbers before) (union after)
  is_divided =
      sym (divided-union table after own (subst IsAscending (sym kept) up)) ∙ ap (λ ns. divided table ns (union after)) kept

  pub SpanRan-answered : (reply : Content) → (union after, reply) ≡ deed_effect (deed_of task reply) (union before)
      → SpanRan table task before (Some reply) after
  SpanRan-answered reply did =
      pair _ _ _ _ (is_divided ∙ ap (divided table (numbers before)) (ap (λ r. r.0) did)) (ap (λ r. r.1) did)

  pub SpanRan-starved : SpanHasOwnKeys table before → union after ≡ union before → SpanRan table task before None after
  SpanRan-starved own_before same =
      is_divided ∙ ap (divided table (numbers before)) same ∙ divided-union table before own_before up
