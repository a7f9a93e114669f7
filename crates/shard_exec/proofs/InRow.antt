-- One request run in the row: over the shard of its one group where that stands, or over its shards moved out and back; and
-- a request that is alone in its layer.
use Rattle.std.proofs.Common.{◌≡◌, ℕ, zero, suc, ◌+◌, ◌<◌, ◌==◌, List, [], ◌∷◌, length, true, false, cond, Some, None, slice_get, slice_set}
use Rattle.std.proofs.Common.{nat_lt, inl, inr, refl, sym, ap, ◌∙◌, subst, arith, eq-eqb, eqb-true, ne_eqb, le-ltb}
use Rattle.std.proofs.lemmas.Bool.{or_left, or_right, or_cases}
use Rattle.std.specs.FinMap.{empty}
use Rattle.std.specs.List.{AllByRecursion, concat, count_by}
use Rattle.groups.specs.GroupSet.{has, IsAscending}
use Rattle.groups.specs.Order.{In}
use Rattle.groups.specs.declared.skip_id.SkipId.{SkipId}
use Rattle.keyspace.specs.Map.{Map}
use Rattle.layer_planner.specs.Units.{groups_at, IsUnit, AreUnitsOf}
use Rattle.layer_planner.specs.declared.job.Job.{Job}
use Rattle.placement.specs.Layout.{Layout, IsTable}
use Rattle.shards.proofs.Rows.{at-put_span, at-emptied, length-emptied, picked-put_span, taken_out-picked}
use Rattle.shards.proofs.Spans.{numbers-span_at}
use Rattle.shards.specs.Joined.{map_of_shard, HasOwnKeys, Span, numbers, span_at, SpanHasOwnKeys}
use Rattle.shards.specs.Laws.{WorksAreInTurn}
use Rattle.shards.specs.Rows.{taken_out, emptied, put_span}
use Rattle.shard_workers.proofs.Turns.{one_over}
use Rattle.shard_workers.specs.PlacedJobs.{HasRunOn, IsReadyFor, HasRunOver}
use Rattle.shard_workers.specs.declared.placed_job.PlacedJob.{PlacedJob}
use Rattle.shard_workers.specs.declared.placed_job.JobRan.{JobRan}
use Rattle.tasks.specs.Tasks.{task_groups}
use Rattle.tasks.proofs.Groups.{IsAscending-task_groups, task_groups-below}
use Rattle.shard_exec.specs.Layers.{IsDone, ended_of}
use Rattle.shard_exec.specs.RowRuns.{HasRunInRow}
use Rattle.shard_exec.proofs.RowLaws.{own_span, row_given}

module _ (table : Layout) (maps : List Map) (t : PlacedJob) (is_table : IsTable table) (long : length maps ≡ table.shards)
    (own : HasOwnKeys table maps) (groups : t.job.groups ≡ task_groups table t.job.asked.batch) where
  -- its shards are in the row
  pub groups_inside : (g : ℕ) → has t.job.groups g ≡ true → g < length maps
  groups_inside g there =
      subst (λ n. g < n) (sym long) (task_groups-below table t.job.asked.batch g (ap (λ gs. has gs g) (sym groups) ∙ there))

  pub group_inside : (g : ℕ) → t.job.groups ≡ g ∷ [] → g < length maps
  group_inside g lone = groups_inside g (ap (λ gs. has gs g) lone ∙ or_left _ _ (eq-eqb g g refl))

  ready : (span : Span) → span ≡ span_at maps t.job.groups → IsReadyFor table t span
  ready span is = record {
    is_table = is_table;
    groups = groups;
    numbers = ap numbers is ∙ numbers-span_at maps t.job.groups;
    own = subst (SpanHasOwnKeys table) (sym is) (own_span table maps t.job.groups own);
  }

  -- over the shard of its one group
  pub in_place : (skip : List SkipId) (r : JobRan) (g : ℕ) (new : List Map) → t.job.groups ≡ g ∷ []
      → HasRunOn skip t (map_of_shard maps g) r (map_of_shard new g) → new ≡ slice_set maps g (map_of_shard new g)
      → HasRunInRow table skip t maps r new
  in_place skip r g new lone run put = record {
    over = subst (λ gs. HasRunOver table skip t (span_at maps gs) r (span_at new gs)) (sym lone)
        (one_over table skip t r ((g, map_of_shard maps g) ∷ []) ((g, map_of_shard new g) ∷ [])
        (ready ((g, map_of_shard maps g) ∷ []) (ap (span_at maps) (sym lone))) refl refl run);
    others = λ shard away. ap (λ row. map_of_shard row shard) put
        ∙ at-put_span empty maps ((g, map_of_shard new g) ∷ []) shard (ap (λ gs. has gs shard) (sym lone) ∙ away);
  }

  up : IsAscending t.job.groups
  up = subst IsAscending (sym groups) (IsAscending-task_groups table t.job.asked.batch)

  -- over its shards moved out
  pub moved_ready : (span : Span) → span ≡ taken_out empty maps t.job.groups → IsReadyFor table t span
  moved_ready span is = ready span (is ∙ taken_out-picked empty maps t.job.groups up)

  numbers_moved : (before after : Span) → before ≡ taken_out empty maps t.job.groups → numbers after ≡ numbers before
      → numbers after ≡ t.job.groups
  numbers_moved before after is kept = kept ∙ (moved_ready before is).numbers

  pub moved_inside : (before after : Span) (left : List Map) → before ≡ taken_out empty maps t.job.groups
      → left ≡ emptied empty maps t.job.groups → numbers after ≡ numbers before → AllByRecursion (λ s. s.0 < length left) after
  moved_inside before after left is emptied_is kept = below after (λ g there.
      subst (λ n. g < n) (sym (ap (λ (l : List Map). length l) emptied_is ∙ length-emptied empty maps t.job.groups))
      (groups_inside g (ap (λ ns. has ns g) (sym (numbers_moved before after is kept)) ∙ there)))
    where
      below : (span : Span) → ((g : ℕ) → has (numbers span) g ≡ true → g < length left) → AllByRecursion (λ s. s.0 < length left) span
      below [] h = tt
      below (s ∷ ss) h = (h s.0 (or_left _ _ (eq-eqb s.0 s.0 refl)), below ss (λ g there. h g (or_right _ _ there)))

  pub moved : (skip : List SkipId) (r : JobRan) (before after : Span) (left new : List Map) → before ≡ taken_out empty maps t.job.groups
      → left ≡ emptied empty maps t.job.groups → HasRunOver table skip t before r after → new ≡ put_span left after
      → HasRunInRow table skip t maps r new
  moved skip r before after left new is emptied_is run put = record {
    over = subst (λ s. HasRunOver table skip t s r (span_at new t.job.groups)) (is ∙ taken_out-picked empty maps t.job.groups up)
        (subst (HasRunOver table skip t before r) (sym stands) run);
    others = λ shard away. ap (λ row. map_of_shard row shard) put
        ∙ at-put_span empty left after shard (ap (λ ns. has ns shard) names ∙ away)
        ∙ ap (λ row. map_of_shard row shard) emptied_is ∙ at-emptied empty maps t.job.groups shard away;
  }
    where
      names : numbers after ≡ t.job.groups
      names = numbers_moved before after is run.numbers

      stands : span_at new t.job.groups ≡ after
      stands =
          ap (λ gs. span_at new gs) (sym names) ∙ ap (λ row. span_at row (numbers after)) put
          ∙ picked-put_span empty left after (subst IsAscending (sym names) up)
          (λ g there. subst (λ n. g < n) (sym (ap (λ (l : List Map). length l) emptied_is ∙ length-emptied empty maps t.job.groups))
          (groups_inside g (ap (λ ns. has ns g) (sym names) ∙ there)))

-- ---- alone in its layer

lone_unit : (gs : List ℕ) → AreUnitsOf (gs ∷ []) ((0 ∷ []) ∷ [])
lone_unit gs = record { each = each; once = once }
  where
    is_zero : (i : ℕ) → has (0 ∷ []) i ≡ true → 0 ≡ i
    is_zero i there = elim (or_cases (0 == i) false there) [ inl e ↦ eqb-true 0 i e | inr e ↦ absurd (cc) ]

    first : IsUnit (gs ∷ []) (0 ∷ [])
    first = record {
      some = omega arith;
      ascending = ((λ h there. absurd (cc)), tt);
      alike = λ i k a b. ap (groups_at (gs ∷ [])) (sym (is_zero i a) ∙ is_zero k b);
      whole = λ i k g a b. no_other k g;
    }
      where
        no_other : (k g : ℕ) → has (groups_at (gs ∷ []) k) g ≡ true → has (0 ∷ []) k ≡ true
        no_other zero g there = refl
        no_other (suc k) g there = absurd (let f = there in cc)

    each : (u : List ℕ) → In u ((0 ∷ []) ∷ []) → IsUnit (gs ∷ []) u
    each u (inl e) = subst (IsUnit (gs ∷ [])) (sym e) first
    each u (inr there) = absurd there

    once : (i : ℕ) → count_by (λ k. k == i) (concat ((0 ∷ []) ∷ [])) ≡ cond (nat_lt i 1) 1 0
    once zero = refl
    once (suc i) = (let a = ne_eqb 0 (suc i) (λ e. absurd (let f = e in cc)) in let b = le-ltb (suc i) 1 (omega arith) in
        ap (λ x. 0 + cond x 1 0) a ∙ ap (λ x. cond x 1 0) (sym b))

pub alone_done : WorksAreInTurn → (table : Layout) (maps new : List Map) (skip : List SkipId) (t : PlacedJob) (r : JobRan)
    → IsTable table → HasOwnKeys table maps → t.job.groups ≡ task_groups table t.job.asked.batch → t.place ≡ 0
    → HasRunInRow table skip t maps r new → IsDone table maps skip (t.job ∷ []) (ended_of r ∷ []) new
alone_done law table maps new skip t r is_table own groups place run =
    (row_given table maps skip (t.job ∷ []) is_table own (groups, tt) law ((0 ∷ []) ∷ []) (Some t.job ∷ []) (None ∷ []) (Some r ∷ []) new
    (lone_unit t.job.groups) at_zero refl
    (t, r, new, record { there = refl; place = place }, run, (refl, refl))).done
  where
    at_zero : (i : ℕ) (j : Job) → slice_get (Some t.job ∷ []) i ≡ Some (Some j) → slice_get (t.job ∷ []) i ≡ Some j
    at_zero zero j e = (let f = e in cc)
    at_zero (suc i) j e = absurd (let f = e in cc)
