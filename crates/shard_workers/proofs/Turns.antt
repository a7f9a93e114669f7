-- A request that a body has run on a map, and that its task was so run over the shards of a span.
use Rattle.std.proofs.Common.{◌≡◌, ℕ, ◌==◌, List, [], ◌∷◌, true, false, cond, Option, Some, None, Result, Ok, Err, inl, inr, refl, sym, ap}
use Rattle.std.proofs.Common.{◌∙◌, subst, eqb-true, eq-eqb, map, length, arith}
use Rattle.std.proofs.lemmas.Bool.{both_ways, or_left, or_cases}
use Rattle.std.specs.Cmp.Lexicographic.{slice_cmp}
use Rattle.std.specs.FinMap.{get, get-empty}
use Rattle.std.specs.Option.{IsSome, option_or}
use Rattle.std.specs.Ordering.{nat_cmp}
use Rattle.std.specs.List.{AllByRecursion}
use Rattle.std.specs.Result.{IfOk, OnErr, result_ok}
use Rattle.tasks.specs.Batch.{DoesBatch}
use Rattle.groups.specs.GroupSet.{has, IsAscending}
use Rattle.groups.specs.declared.skip_id.SkipId.{SkipId}
use Rattle.keyspace.proofs.Gets.{same}
use Rattle.keyspace.specs.Map.{Map}
use Rattle.placement.specs.Layout.{Layout, IsTable, shard_of}
use Rattle.resp.specs.Content.{Content, content}
use Rattle.resp.specs.declared.answered.Answered.{Answered}
use Rattle.shards.proofs.Joins.{get-joined-cons, none_elsewhere, or_none}
use Rattle.shards.proofs.Runs.{SpanRan-answered, SpanRan-starved}
use Rattle.shards.specs.Joined.{HasKeysOf, Span, joined, numbers, union, SpanHasOwnKeys, SpanRan}
use Rattle.shards.specs.Layer.{UnitRan}
use Rattle.tasks.specs.Tasks.{Task, task_groups, deed_of, task_reply}
use Rattle.tasks.proofs.Within.{same_elsewhere}
use Rattle.tasks.proofs.Groups.{IsAscending-task_groups}
use Rattle.shard_workers.specs.Runs.{HaveRunOver}
use Rattle.shard_workers.specs.PlacedJobs.{outcome, MapRan, HasRunOn, first_map, IsReadyFor, HasRunOver}
use Rattle.shard_workers.specs.declared.placed_job.PlacedJob.{PlacedJob}
use Rattle.shard_workers.specs.declared.placed_job.JobRan.{JobRan}

-- what a body did is told by its reply
pub map_ran : {E : Type 0} (task : Task) (before after : Map) (r : Result Answered E)
    → DoesBatch task before after (task_reply r) → MapRan task before (outcome (result_ok r)) after
map_ran task before after (Ok answered) did = did
map_ran task before after (Err fault) did = did

pub starves : {E : Type 0} {P : Type 0} (r : Result Answered E) → OnErr r P → outcome (result_ok r) ≡ None → P
starves (Ok x) h e = absurd (let f = e in cc)
starves (Err x) h e = h

pub answers : {E : Type 0} (P : Content → Type 0) (r : Result Answered E) → IfOk r (λ a. P (content a.reply)) → (reply : Content)
    → outcome (result_ok r) ≡ Some reply → P reply
answers P (Ok a) h reply e = subst P (let f = e in cc) h
answers P (Err x) h reply e = absurd (let f = e in cc)

-- a task that was run on the union of a span's maps was run over the span
pub span_ran : (table : Layout) (task : Task) (before after : Span) → IsAscending (numbers before) → numbers after ≡ numbers before
    → SpanHasOwnKeys table before → SpanHasOwnKeys table after → (outcome : Option Content)
    → MapRan task (union before) outcome (union after) → SpanRan table task before outcome after
span_ran table task before after up kept own own' None ran = SpanRan-starved table task before after up kept own' own ran
span_ran table task before after up kept own own' (Some reply) ran = SpanRan-answered table task before after up kept own' reply ran

-- ---- one shard

-- the union of one map is that map
pub joined-one : (m : Map) → joined (m ∷ []) ≡ m
joined-one m = same (joined (m ∷ [])) m (λ q.
    get-joined-cons m [] q ∙ ap (option_or (get m q)) (get-empty (slice_cmp nat_cmp) q) ∙ or_none (get m q))

module _ (table : Layout) (task : Task) (g : ℕ) (before : Map) (is_table : IsTable table) (lone : task_groups table task ≡ g ∷ [])
    (own : HasKeysOf table g before) where
  there : (q : List ℕ) → shard_of table q ≡ g → has (task_groups table task) (shard_of table q) ≡ true
  there q e = ap (λ gs. has gs (shard_of table q)) lone ∙ or_left _ _ (eq-eqb g (shard_of table q) (sym e))

  here : (q : List ℕ) → has (task_groups table task) (shard_of table q) ≡ true → shard_of table q ≡ g
  here q is = elim (or_cases (g == shard_of table q) false (sym (ap (λ gs. has gs (shard_of table q)) lone) ∙ is)) [
    | inl e ↦ sym (eqb-true g (shard_of table q) e)
    | inr e ↦ absurd (cc)
  ]

  within : (q : List ℕ) → get before q ≡ cond (has (task_groups table task) (shard_of table q)) (get before q) None
  within q = elim (has (task_groups table task) (shard_of table q))
      as (λ b. has (task_groups table task) (shard_of table q) ≡ b → get before q ≡ cond b (get before q) None) [
        | true ↦ λ _. refl
        | false ↦ λ away. none_elsewhere table g before q own (λ e. both_ways _ away (there q e))
      ] refl

  -- a task of one group leaves only keys of that group on its shard
  pub own_after : (outcome : Option Content) (after : Map) → MapRan task before outcome after → HasKeysOf table g after
  own_after None after ran = subst (HasKeysOf table g) (sym ran) own
  own_after (Some reply) after ran = λ q some. elim (has (task_groups table task) (shard_of table q))
      as (λ b. has (task_groups table task) (shard_of table q) ≡ b → shard_of table q ≡ g) [
        | true ↦ λ is. here q is
        | false ↦ λ away. own q (subst IsSome (ap (λ r. get r.0 q) ran
            ∙ same_elsewhere table (deed_of task reply) before before is_table within q away) some)
      ] refl

-- a request that was run on the map of its one shard was run over that
pub one_over : (table : Layout) (skip : List SkipId) (t : PlacedJob) (r : JobRan) (before after : Span) → IsReadyFor table t before
    → length before ≡ 1
    → numbers after ≡ numbers before → HasRunOn skip t (first_map before) r (first_map after) → HasRunOver table skip t before r after
one_over table skip t r [] after ready one kept run = absurd (omega (arith, one))
one_over table skip t r (b ∷ c ∷ more) after ready one kept run = absurd (omega (arith, one))
one_over table skip t r (b ∷ []) [] ready one kept run = absurd (let e = kept in cc)
one_over table skip t r (b ∷ []) (a ∷ c ∷ more) ready one kept run = absurd (let e : numbers (a ∷ c ∷ more) ≡ b.0 ∷ [] = kept in cc)
one_over table skip t r (b ∷ []) (a ∷ []) ready one kept run =
    let lone : task_groups table t.job.asked.batch ≡ b.0 ∷ [] = sym ready.groups ∙ sym ready.numbers in
    let same_number : a.0 ≡ b.0 = (let e : a.0 ∷ [] ≡ b.0 ∷ [] = kept in cc) in
    record {
      numbers = kept;
      own = (
        subst (λ n. HasKeysOf table n a.1) (sym same_number)
            (own_after table t.job.asked.batch b.0 b.1 ready.is_table lone ready.own.0 (outcome r.reply) a.1 run.ran),
        tt,
      );
      on = subst (λ m. HasRunOn skip t m r (joined (a.1 ∷ []))) (sym (joined-one b.1))
          (subst (HasRunOn skip t b.1 r) (sym (joined-one a.1)) run);
    }

-- ---- a unit

-- a request that was run over shards has run its task over them
pub over_ran : (table : Layout) (skip : List SkipId) (t : PlacedJob) (r : JobRan) (before after : Span) → IsReadyFor table t before
    → HasRunOver table skip t before r after → SpanRan table t.job.asked.batch before (outcome r.reply) after
over_ran table skip t r before after ready run =
    span_ran table t.job.asked.batch before after
    (subst IsAscending (sym (ready.numbers ∙ ready.groups)) (IsAscending-task_groups table t.job.asked.batch))
    run.numbers ready.own run.own (outcome r.reply) run.on.ran

-- the next one has the shards that it left
pub ready_still : (table : Layout) (skip : List SkipId) (t : PlacedJob) (r : JobRan) (before after : Span) (ts : List PlacedJob)
    → HasRunOver table skip t before r after → AllByRecursion (λ u. IsReadyFor table u before) ts
    → AllByRecursion (λ u. IsReadyFor table u after) ts
ready_still table skip t r before after [] run ready = tt
ready_still table skip t r before after (u ∷ us) run ready = (
  record {
    is_table = ready.0.is_table;
    groups = ready.0.groups;
    numbers = run.numbers ∙ ready.0.numbers;
    own = run.own;
  },
  ready_still table skip t r before after us run ready.1,
)

pub unit_ran : (table : Layout) (skip : List SkipId) (ts : List PlacedJob) (rs : List JobRan) (before after : Span)
    → AllByRecursion (λ t. IsReadyFor table t before) ts
    → HaveRunOver table skip ts before rs after
    → UnitRan table (map (λ t. t.job.asked.batch) ts) before (map (λ r. outcome r.reply) rs) after
unit_ran table skip [] [] before after ready run = run
unit_ran table skip [] (r ∷ rs) before after ready run = absurd run
unit_ran table skip (t ∷ ts) [] before after ready run = absurd run
unit_ran table skip (t ∷ ts) (r ∷ rs) before after ready run = (
  run.0,
  over_ran table skip t r before run.0 ready.0 run.1,
  unit_ran table skip ts rs run.0 after (ready_still table skip t r before run.0 ts run.1 ready.1) run.2,
)
