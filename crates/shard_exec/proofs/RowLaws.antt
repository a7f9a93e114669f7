-- Requests that were run in the row, one after another, at the places of units: unit by unit they were run in place.
use Rattle.std.proofs.Common.{◌≡◌, ℕ, ◌==◌, List, [], ◌∷◌, ◌++◌, map, length, true, false, Option, Some, None, slice_get, slice_set}
use Rattle.std.proofs.Common.{inl, inr, refl, sym, ap, ◌∙◌, subst, eqb-true, eq-eqb}
use Rattle.std.proofs.lemmas.Bool.{or_cases, or_left, or_right, cases_Bool}
use Rattle.std.proofs.Math.ListN.{replicate}
use Rattle.std.specs.FinMap.{empty}
use Rattle.std.specs.List.{AllZip, concat}
use Rattle.groups.specs.GroupSet.{has}
use Rattle.groups.specs.Order.{In}
use Rattle.groups.specs.declared.skip_id.SkipId.{SkipId}
use Rattle.keyspace.specs.Map.{Map}
use Rattle.layer_planner.specs.Units.{groups_each, IsUnit, AreUnitsOf}
use Rattle.layer_planner.specs.declared.job.Job.{Job}
use Rattle.placement.specs.Layout.{Layout, IsTable}
use Rattle.resp.specs.Content.{Content}
use Rattle.shards.proofs.Rows.{picked-alike}
use Rattle.shards.proofs.Spans.{numbers-span_at}
use Rattle.shards.specs.Joined.{map_of_shard, HasKeysOf, HasOwnKeys, Span, span_at, union, SpanHasOwnKeys}
use Rattle.shards.specs.Layer as layers
use Rattle.shards.specs.Laws.{WorksAreInTurn}
use Rattle.shard_workers.proofs.Turns.{unit_ran}
use Rattle.shard_workers.specs.Runs.{HaveRunOver}
use Rattle.shard_workers.specs.PlacedJobs.{outcome, HasRunOver}
use Rattle.shard_workers.specs.declared.placed_job.PlacedJob.{PlacedJob}
use Rattle.shard_workers.specs.declared.placed_job.JobRan.{JobRan}
use Rattle.shard_exec.specs.Dealing.{flat, left_at, placed}
use Rattle.shard_exec.specs.Layers.{tasks_of, AddressTheirGroups, HaveGiven}
use Rattle.shard_exec.specs.RowRuns.{HaveRunAt}
use Rattle.shard_exec.proofs.Slots.{still, left_still, placed-append, AtMostOnce, once_in, once_later}
use Rattle.shard_exec.proofs.Starving.{HaveRunOn, run_on, unit_groups, has_unit_groups}
use Rattle.shard_exec.proofs.UnitLaws.{IsJobOf, Tells, UnitsRunOn, works_of, are_works, are_ready, tells_all, units_apart}
use Rattle.shard_exec.proofs.UnitLaws.{outcomes, outcomes_many, outcomes_stand, units_there, given, get_set, zip_map}

-- ---- only their own keys

pub own_span : (table : Layout) (maps : List Map) (gs : List ℕ) → HasOwnKeys table maps → SpanHasOwnKeys table (span_at maps gs)
own_span table maps [] own = tt
own_span table maps (g ∷ gs) own = (own g, own_span table maps gs own)

own_at : (table : Layout) (maps : List Map) (gs : List ℕ) → SpanHasOwnKeys table (span_at maps gs) → (g : ℕ) → has gs g ≡ true
    → HasKeysOf table g (map_of_shard maps g)
own_at table maps [] own g there = absurd (let f = there in cc)
own_at table maps (h ∷ gs) own g there = elim (or_cases (h == g) (has gs g) there) [
  | inl e ↦ subst (λ n. HasKeysOf table n (map_of_shard maps n)) (eqb-true h g e) own.0
  | inr later ↦ own_at table maps gs own.1 g later
]

pub own_row : (table : Layout) (old new : List Map) (gs : List ℕ) → HasOwnKeys table old → SpanHasOwnKeys table (span_at new gs)
    → ((g : ℕ) → has gs g ≡ false → map_of_shard new g ≡ map_of_shard old g) → HasOwnKeys table new
own_row table old new gs own span others g = elim (cases_Bool (has gs g)) [
  | inl there ↦ own_at table new gs span g there
  | inr away ↦ subst (HasKeysOf table g) (sym (others g away)) (own g)
]

own_over : (table : Layout) (skip : List SkipId) (ts : List PlacedJob) (rs : List JobRan) (before after : Span)
    → SpanHasOwnKeys table before
    → HaveRunOver table skip ts before rs after → SpanHasOwnKeys table after
own_over table skip [] [] before after own run = subst (SpanHasOwnKeys table) (sym run) own
own_over table skip [] (r ∷ rs) before after own run = absurd run
own_over table skip (t ∷ ts) [] before after own run = absurd run
own_over table skip (t ∷ ts) (r ∷ rs) before after own run = own_over table skip ts rs run.0 after run.1.own run.2

-- ---- a unit in the row

-- the requests of a unit were run over the shards of these groups, and the others are as they were
pub record UnitInRow (table : Layout) (skip : List SkipId) (old : List Map) (gs : List ℕ) (ts : List PlacedJob) (rs : List JobRan)
    (new : List Map) : Type 0 where
  pub over : HaveRunOver table skip ts (span_at old gs) rs (span_at new gs)
  pub others : (shard : ℕ) → has gs shard ≡ false → map_of_shard new shard ≡ map_of_shard old shard

abbrev pub UnitsInRow : Layout → List SkipId → List (List ℕ) → List Map → List (List ℕ) → List (List PlacedJob) → List (List JobRan)
    → List Map → Type 0
UnitsInRow table skip sets row [] [] [] left = left ≡ row
UnitsInRow table skip sets row (u ∷ us) (ts ∷ tss) (rs ∷ rss) left =
    (mid : List Map) × UnitInRow table skip row (unit_groups sets u) ts rs mid × UnitsInRow table skip sets mid us tss rss left
UnitsInRow table skip sets row _ _ _ left = ⊥

-- what was run at the places of a unit, and at the others behind it
pub record UnitApart (table : Layout) (skip : List SkipId) (layer : List Job) (slots : List (Option Job)) (row : List Map) (gs : List ℕ)
    (u others : List ℕ) (rans given : List (Option JobRan)) (left : List Map) : Type 0 where
  pub ts : List PlacedJob
  pub rs : List JobRan
  pub mid : List Map
  pub jobs : AllZip (IsJobOf layer) u ts
  pub run : UnitInRow table skip row gs ts rs mid
  pub rest : HaveRunAt table skip (left_at slots u) mid others (placed rans rs) given left

module _ (table : Layout) (skip : List SkipId) (layer : List Job) where
  split_unit : (slots : List (Option Job)) (row : List Map) (gs u rest : List ℕ) (rans given : List (Option JobRan)) (left : List Map)
      → ((i : ℕ) (j : Job) → slice_get slots i ≡ Some (Some j) → slice_get layer i ≡ Some j)
      → ((i : ℕ) (j : Job) → has u i ≡ true → slice_get layer i ≡ Some j → j.groups ≡ gs)
      → HaveRunAt table skip slots row (u ++ rest) rans given left → UnitApart table skip layer slots row gs u rest rans given left
  split_unit slots row gs [] rest rans given left sub its run = record {
    ts = [];
    rs = [];
    mid = row;
    jobs = tt;
    run = record { over = refl; others = λ g away. refl };
    rest = run;
  }
  split_unit slots row gs (i ∷ u) rest rans given left sub its run =
      let t = run.0 in let r = run.1 in let mid = run.2 in
      let at : slice_get layer i ≡ Some t.job = sub i t.job run.3.there in
      let groups : t.job.groups ≡ gs = its i t.job (or_left _ _ (same_place i)) at in
      let more = split_unit (slice_set slots i None) mid gs u rest (slice_set rans i (Some r)) given left
      (λ k j e. sub k j (still slots i k j e)) (λ k j there e. its k j (or_right _ _ there) e) run.5 in
      let over : HasRunOver table skip t (span_at row gs) r (span_at mid gs) =
      subst (λ x. HasRunOver table skip t (span_at row x) r (span_at mid x)) groups run.4.over in
      record {
        ts = t ∷ more.ts;
        rs = r ∷ more.rs;
        mid = more.mid;
        jobs = (record { at = at; place = run.3.place }, more.jobs);
        run = record {
          over = (span_at mid gs, over, more.run.over);
          others = λ g away. more.run.others g away ∙ run.4.others g (ap (λ x. has x g) groups ∙ away);
        };
        rest = subst (λ k. HaveRunAt table skip (left_at (slice_set slots i None) u) more.mid rest
            (placed (slice_set rans k (Some r)) more.rs) given left) (sym (over.on.place ∙ run.3.place)) more.rest;
      }
    where
      same_place : (i : ℕ) → (i == i) ≡ true
      same_place i = eq-eqb i i refl

-- all units
pub record AllApart (table : Layout) (skip : List SkipId) (layer : List Job) (row : List Map) (us : List (List ℕ))
    (rans given : List (Option JobRan)) (left : List Map) : Type 0 where
  pub tss : List (List PlacedJob)
  pub rss : List (List JobRan)
  pub jobs : AllZip (AllZip (IsJobOf layer)) us tss
  pub run : UnitsInRow table skip (groups_each layer) row us tss rss left
  pub put : given ≡ placed rans (flat rss)

-- the groups of the requests at the places of a unit
unit_has : (layer : List Job) (u : List ℕ) → IsUnit (groups_each layer) u → (i : ℕ) (j : Job) → has u i ≡ true → slice_get layer i ≡ Some j
    → j.groups ≡ unit_groups (groups_each layer) u
unit_has layer u is i j there at = sym (get_set layer i j at) ∙ has_unit_groups (groups_each layer) u is i there

pub all_apart : (table : Layout) (skip : List SkipId) (layer : List Job) (us : List (List ℕ)) (slots : List (Option Job))
    (row : List Map)
    (rans given : List (Option JobRan)) (left : List Map) → ((u : List ℕ) → In u us → IsUnit (groups_each layer) u)
    → ((i : ℕ) (j : Job) → slice_get slots i ≡ Some (Some j) → slice_get layer i ≡ Some j)
    → HaveRunAt table skip slots row (concat us) rans given left → AllApart table skip layer row us rans given left
all_apart table skip layer [] slots row rans given left each sub run = record {
  tss = [];
  rss = [];
  jobs = tt;
  run = run.1;
  put = run.0;
}
all_apart table skip layer (u ∷ us) slots row rans given left each sub run =
    let first = split_unit table skip layer slots row (unit_groups (groups_each layer) u) u (concat us) rans given left sub
    (unit_has layer u (each u (inl refl))) run in
    let more = all_apart table skip layer us (left_at slots u) first.mid (placed rans first.rs) given left (λ v i. each v (inr i))
    (λ i j e. sub i j (left_still slots u i j e)) first.rest in
    record {
      tss = first.ts ∷ more.tss;
      rss = first.rs ∷ more.rss;
      jobs = (first.jobs, more.jobs);
      run = (first.mid, first.run, more.run);
      put = more.put ∙ sym (placed-append rans first.rs (flat more.rss));
    }

-- ---- from what the shards had before the layer

-- the units run on what their shards had, since those before them leave these alone
pub runs_on : (table : Layout) (skip : List SkipId) (sets : List (List ℕ)) (maps row : List Map) (us : List (List ℕ))
    (tss : List (List PlacedJob))
    (rss : List (List JobRan)) (left : List Map) → ((u : List ℕ) → In u us → IsUnit sets u) → AtMostOnce (concat us)
    → ((u : List ℕ) → In u us → (g : ℕ) → has (unit_groups sets u) g ≡ true → map_of_shard row g ≡ map_of_shard maps g)
    → UnitsInRow table skip sets row us tss rss left → UnitsRunOn skip sets maps us tss rss
runs_on table skip sets maps row [] [] [] left each once alike run = tt
runs_on table skip sets maps row [] [] (rs ∷ rss) left each once alike run = tt
runs_on table skip sets maps row [] (ts ∷ tss) rss left each once alike run = tt
runs_on table skip sets maps row (u ∷ us) [] rss left each once alike run = tt
runs_on table skip sets maps row (u ∷ us) (ts ∷ tss) [] left each once alike run = tt
runs_on table skip sets maps row (u ∷ us) (ts ∷ tss) (rs ∷ rss) left each once alike run = (
  subst (λ s. HaveRunOn skip ts (union s) rs) (picked-alike empty row maps (unit_groups sets u) (alike u (inl refl)))
      (run_on table skip ts rs (span_at row (unit_groups sets u)) (span_at run.0 (unit_groups sets u)) run.1.over),
  runs_on table skip sets maps run.0 us tss rss left (λ v i. each v (inr i)) (later_once u once)
      (λ v i g there. run.1.others g (away v i g there) ∙ alike v (inr i) g there) run.2,
)
  where
    away : (v : List ℕ) → In v us → (g : ℕ) → has (unit_groups sets v) g ≡ true → has (unit_groups sets u) g ≡ false
    away v i g there = elim (cases_Bool (has (unit_groups sets u) g)) [
      | inl here ↦ absurd (units_apart sets u v us (each u (inl refl)) (each v (inr i)) once i g here there)
      | inr out ↦ out
    ]

    later_once : (l : List ℕ) → AtMostOnce (l ++ concat us) → AtMostOnce (concat us)
    later_once [] once = once
    later_once (x ∷ l) once = later_once l (once_later x (l ++ concat us) once)

-- ---- the layer

module _ (table : Layout) (maps : List Map) (skip : List SkipId) (layer : List Job) (is_table : IsTable table)
    (own : HasOwnKeys table maps)
    (address : AddressTheirGroups table layer) where
  works_ran : (outs : List (Option Content)) (row : List Map) (us : List (List ℕ)) (tss : List (List PlacedJob)) (rss : List (List JobRan))
      (left : List Map) → HasOwnKeys table row → ((u : List ℕ) → In u us → IsUnit (groups_each layer) u)
      → AllZip (AllZip (IsJobOf layer)) us tss
      → AllZip (λ u rs. layers.StandAt outs u (map (λ r. outcome r.reply) rs)) us rss
      → UnitsInRow table skip (groups_each layer) row us tss rss left
      → layers.WorksRan table outs row (works_of (groups_each layer) us tss) left
  works_ran outs row [] [] [] left own_now each jobs stand run = run
  works_ran outs row [] [] (rs ∷ rss) left own_now each jobs stand run = absurd run
  works_ran outs row [] (ts ∷ tss) rss left own_now each jobs stand run = absurd jobs
  works_ran outs row (u ∷ us) [] rss left own_now each jobs stand run = absurd jobs
  works_ran outs row (u ∷ us) (ts ∷ tss) [] left own_now each jobs stand run = absurd run
  works_ran outs row (u ∷ us) (ts ∷ tss) (rs ∷ rss) left own_now each jobs stand run =
      let gs = unit_groups (groups_each layer) u in
      let ready = are_ready table layer is_table address u ts (span_at row gs) (each u (inl refl)) jobs.0 (numbers-span_at row gs)
      (own_span table row gs own_now) in (
        run.0,
        record {
          answered = map (λ r. outcome r.reply) rs;
          ran = unit_ran table skip ts rs (span_at row gs) (span_at run.0 gs) ready run.1.over;
          stand = stand.0;
          others = run.1.others;
        },
        works_ran outs run.0 us tss rss left
            (own_row table row run.0 gs own_now
            (own_over table skip ts rs (span_at row gs) (span_at run.0 gs) (own_span table row gs own_now)
            run.1.over) run.1.others)
            (λ v i. each v (inr i)) jobs.1 stand.1 run.2,
      )

  tells_units : (row : List Map) (us : List (List ℕ)) (tss : List (List PlacedJob)) (rss : List (List JobRan)) (left : List Map)
      → UnitsInRow table skip (groups_each layer) row us tss rss left → AllZip (AllZip Tells) tss rss
  tells_units row [] [] [] left run = tt
  tells_units row [] [] (rs ∷ rss) left run = absurd run
  tells_units row [] (ts ∷ tss) rss left run = absurd run
  tells_units row (u ∷ us) [] rss left run = absurd run
  tells_units row (u ∷ us) (ts ∷ tss) [] left run = absurd run
  tells_units row (u ∷ us) (ts ∷ tss) (rs ∷ rss) left run = (
    tells_all table skip ts rs (span_at row (unit_groups (groups_each layer) u))
        (span_at run.0 (unit_groups (groups_each layer) u)) run.1.over,
    tells_units run.0 us tss rss left run.2,
  )

  -- the requests of a layer were run at the places of its units, in the row
  pub row_given : WorksAreInTurn → (units : List (List ℕ)) (slots : List (Option Job)) (rans gave : List (Option JobRan)) (new : List Map)
      → AreUnitsOf (groups_each layer) units
      → ((i : ℕ) (j : Job) → slice_get slots i ≡ Some (Some j) → slice_get layer i ≡ Some j)
      → rans ≡ replicate (length layer) None → HaveRunAt table skip slots maps (concat units) rans gave new
      → HaveGiven table maps skip layer gave new
  row_given law units slots rans gave new of sub none run =
      let apart = all_apart table skip layer units slots maps rans gave new of.each sub run in
      let tells = tells_units maps units apart.tss apart.rss new apart.run in
      let put = apart.put ∙ ap (λ s. placed s (flat apart.rss)) none in
      let there = units_there layer units apart.tss apart.rss of apart.jobs tells gave put in
      let outs = outcomes layer units apart.tss apart.rss of apart.jobs tells gave put in
      let stand : AllZip (λ u rs. layers.StandAt outs u (map (λ r. outcome r.reply) rs)) units apart.rss =
      zip_map (AllZip (λ i r. slice_get gave i ≡ Some (Some r))) (λ u rs. layers.StandAt outs u (map (λ r. outcome r.reply) rs))
      (outcomes_stand layer units apart.tss apart.rss of apart.jobs tells gave put) units apart.rss there in
      let ran = works_ran outs maps units apart.tss apart.rss new own of.each apart.jobs stand apart.run in
      let turn = law table maps new (tasks_of layer) (works_of (groups_each layer) units apart.tss) outs is_table own
      (are_works table layer units apart.tss address of apart.jobs)
      (outcomes_many layer units apart.tss apart.rss of apart.jobs tells gave put) ran in
      given layer units apart.tss apart.rss of apart.jobs tells gave put table maps skip is_table own address
      (runs_on table skip (groups_each layer) maps maps units apart.tss apart.rss new of.each
      (once_in (length (groups_each layer)) units of.once)
      (λ u i g there. refl) apart.run)
      new turn.0 turn.1 turn.2
