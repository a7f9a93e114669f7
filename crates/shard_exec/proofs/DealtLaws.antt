-- The units of a layer that were taken out with their shards and run by workers: what they are ready for, and what follows
-- once their shards are put back.
use Rattle.std.proofs.Common.{◌≡◌, ℕ, suc, ◌<◌, List, [], ◌∷◌, ◌++◌, map, length, true, Option, Some, None, slice_get, slice_set}
use Rattle.std.proofs.Common.{slice_index_or, drop, inl, inr, refl, sym, ap, ◌∙◌, subst, arith, eq-eqb, zero, append_assoc}
use Rattle.std.proofs.lemmas.Bool.{or_left, or_right}
use Rattle.std.proofs.lemmas.List.{append-nil}
use Rattle.std.proofs.Math.ListN.{replicate}
use Rattle.std.specs.FinMap.{empty}
use Rattle.std.specs.Global.{Vec}
use Rattle.std.specs.List.{AllZip, AllByRecursion, concat}
use Rattle.groups.specs.GroupSet.{has}
use Rattle.groups.specs.Order.{In}
use Rattle.groups.specs.declared.skip_id.SkipId.{SkipId}
use Rattle.keyspace.specs.Map.{Map}
use Rattle.layer_planner.specs.Parts.{units_in}
use Rattle.layer_planner.specs.Units.{groups_each, AreUnitsOf}
use Rattle.layer_planner.specs.declared.job.Job.{Job}
use Rattle.placement.specs.Layout.{Layout, IsTable}
use Rattle.resp.specs.Content.{Content}
use Rattle.shards.proofs.Spans.{numbers-span_at}
use Rattle.shards.specs.Joined.{joined, HasOwnKeys, Span, numbers, span_at, union, SpanHasOwnKeys}
use Rattle.shards.specs.Layer as layers
use Rattle.shards.specs.Laws.{TakenOutAsTheyWere, PartsAreInTurn}
use Rattle.shards.specs.Rows.{taken_out, emptied, taken_out_each, emptied_each, put_span, put_spans}
use Rattle.shard_workers.proofs.Turns.{unit_ran}
use Rattle.shard_workers.specs.Loads.{IsReadyLoad, HasRunLoad}
use Rattle.shard_workers.specs.Runs.{IsReady, HasRun, HaveRunOver}
use Rattle.shard_workers.specs.PlacedJobs.{outcome}
use Rattle.shard_workers.specs.declared.load.Load.{Load}
use Rattle.shard_workers.specs.declared.placed_job.PlacedJob.{PlacedJob}
use Rattle.shard_workers.specs.declared.placed_job.JobRan.{JobRan}
use Rattle.shard_workers.specs.declared.work.Work.{Work}
use Rattle.shard_workers.specs.declared.work.Ran.{Ran}
use Rattle.tasks.proofs.Groups.{task_groups-below}
use Rattle.shard_exec.specs.Dealing.{flat, left_at, placed, all_works, all_rans, jobs_of, spans_of, AreInside}
use Rattle.shard_exec.specs.DealtRooms.{IsForGroups, MadeWorks, FitsLoad, HaveRoomFor, all_rooms, IsInRow}
use Rattle.shard_exec.specs.Layers.{tasks_of, AddressTheirGroups, HaveGiven, TookJobs}
use Rattle.shard_exec.specs.declared.dealt_room.LoadRoom.{LoadRoom}
use Rattle.shard_exec.specs.declared.dealt_room.UnitRoom.{UnitRoom}
use Rattle.shard_exec.proofs.Slots.{still, left_still, left_at-append, within}
use Rattle.shard_exec.proofs.RowLaws.{own_span}
use Rattle.shard_exec.proofs.Starving.{HaveRunOn, run_on, unit_groups}
use Rattle.shard_exec.proofs.UnitLaws.{IsJobOf, Tells, UnitsRunOn, works_of, are_works, are_ready, tells_all, zip_map, zip_both, outcomes}
use Rattle.shard_exec.proofs.UnitLaws.{outcomes_many, outcomes_stand, units_there, given, places_inside, address_at, get_set}

abbrev pub jobs_each : List Work → List (List PlacedJob)
jobs_each ws = map (λ w. w.jobs.items) ws

abbrev pub rans_each : List Ran → List (List JobRan)
rans_each rs = map (λ r. r.jobs.items) rs

-- ---- what was made

pub took_length : (slots : List (Option Job)) (is : List ℕ) (ts : List PlacedJob) → TookJobs slots is ts
    → length ts ≡ length is
took_length slots [] [] took = refl
took_length slots [] (t ∷ ts) took = absurd took
took_length slots (i ∷ is) [] took = absurd took
took_length slots (i ∷ is) (t ∷ ts) took = ap suc (took_length (slice_set slots i None) is ts took.1)

took_of : (layer : List Job) (slots : List (Option Job)) (is : List ℕ) (ts : List PlacedJob)
    → ((i : ℕ) (j : Job) → slice_get slots i ≡ Some (Some j) → slice_get layer i ≡ Some j) → TookJobs slots is ts
    → AllZip (IsJobOf layer) is ts
took_of layer slots [] [] sub took = tt
took_of layer slots [] (t ∷ ts) sub took = absurd took
took_of layer slots (i ∷ is) [] sub took = absurd took
took_of layer slots (i ∷ is) (t ∷ ts) sub took = (
  record { at = sub i t.job took.0.there; place = took.0.place },
  took_of layer (slice_set slots i None) is ts (λ k j e. sub k j (still slots i k j e)) took.1,
)

pub made_jobs : (layer : List Job) (slots : List (Option Job)) (row : List Map) (us : List (List ℕ))
    (ms : List UnitRoom) (ws : List Work) (left : List Map)
    → ((i : ℕ) (j : Job) → slice_get slots i ≡ Some (Some j) → slice_get layer i ≡ Some j) → MadeWorks slots row us ms ws left
    → AllZip (AllZip (IsJobOf layer)) us (jobs_each ws)
made_jobs layer slots row [] [] [] left sub made = tt
made_jobs layer slots row [] [] (w ∷ ws) left sub made = absurd made
made_jobs layer slots row [] (m ∷ ms) ws left sub made = absurd made
made_jobs layer slots row (u ∷ us) [] ws left sub made = absurd made
made_jobs layer slots row (u ∷ us) (m ∷ ms) [] left sub made = absurd made
made_jobs layer slots row (u ∷ us) (m ∷ ms) (w ∷ ws) left sub made = (
  took_of layer slots u w.jobs.items sub made.0,
  made_jobs layer (left_at slots u) (emptied empty row m.groups) us ms ws left (λ i j e. sub i j (left_still slots u i j e)) made.2,
)

abbrev room_groups : List UnitRoom → List (List ℕ)
room_groups ms = map (λ m. m.groups) ms

made_spans : (slots : List (Option Job)) (row : List Map) (us : List (List ℕ)) (ms : List UnitRoom)
    (ws : List Work) (left : List Map) → MadeWorks slots row us ms ws left
    → ◌≡◌ {A = List Span} (map (λ w. w.shards.items) ws) (taken_out_each empty row (room_groups ms))
made_spans slots row [] [] [] left made = refl
made_spans slots row [] [] (w ∷ ws) left made = absurd made
made_spans slots row [] (m ∷ ms) ws left made = absurd made
made_spans slots row (u ∷ us) [] ws left made = absurd made
made_spans slots row (u ∷ us) (m ∷ ms) [] left made = absurd made
made_spans slots row (u ∷ us) (m ∷ ms) (w ∷ ws) left made =
    ap (λ (s : Span). s ∷ map (λ v. v.shards.items) ws) made.1
    ∙ ap (λ (l : List Span). taken_out empty row m.groups ∷ l)
    (made_spans (left_at slots u) (emptied empty row m.groups) us ms ws left made.2)

pub made_left : (slots : List (Option Job)) (row : List Map) (us : List (List ℕ)) (ms : List UnitRoom)
    (ws : List Work) (left : List Map) → MadeWorks slots row us ms ws left → left ≡ emptied_each empty row (room_groups ms)
made_left slots row [] [] [] left made = made
made_left slots row [] [] (w ∷ ws) left made = absurd made
made_left slots row [] (m ∷ ms) ws left made = absurd made
made_left slots row (u ∷ us) [] ws left made = absurd made
made_left slots row (u ∷ us) (m ∷ ms) [] left made = absurd made
made_left slots row (u ∷ us) (m ∷ ms) (w ∷ ws) left made =
    made_left (left_at slots u) (emptied empty row m.groups) us ms ws left made.2

-- the units of one part, and those of the others
pub made_both : (slots : List (Option Job)) (row mid left : List Map) (us us' : List (List ℕ))
    (ms ms' : List UnitRoom)
    (ws ws' : List Work) → MadeWorks slots row us ms ws mid → MadeWorks (left_at slots (concat us)) mid us' ms' ws' left
    → MadeWorks slots row (us ++ us') (ms ++ ms') (ws ++ ws') left
made_both slots row mid left [] us' [] ms' [] ws' made more = subst (λ r. MadeWorks slots r us' ms' ws' left) made more
made_both slots row mid left [] us' [] ms' (w ∷ ws) ws' made more = absurd made
made_both slots row mid left [] us' (m ∷ ms) ms' ws ws' made more = absurd made
made_both slots row mid left (u ∷ us) us' [] ms' ws ws' made more = absurd made
made_both slots row mid left (u ∷ us) us' (m ∷ ms) ms' [] ws' made more = absurd made
made_both slots row mid left (u ∷ us) us' (m ∷ ms) ms' (w ∷ ws) ws' made more = (
  made.0,
  made.1,
  made_both (left_at slots u) (emptied empty row m.groups) mid left us us' ms ms' ws ws' made.2
      (subst (λ s. MadeWorks s mid us' ms' ws' left) (left_at-append slots u (concat us)) more),
)

pub works_snoc : (ps : List Load) (p : Load) (ws : List Work) → all_works (ps ++ p ∷ []) ++ ws ≡ all_works ps ++ (p.works.items ++ ws)
works_snoc [] p ws = ap (λ l. l ++ ws) (append-nil p.works.items)
works_snoc (q ∷ ps) p ws =
    append_assoc q.works.items (all_works (ps ++ p ∷ [])) ws ∙ ap (λ l. q.works.items ++ l) (works_snoc ps p ws)
    ∙ sym (append_assoc q.works.items (all_works ps) (p.works.items ++ ws))

-- ---- the rooms are for the groups of the units

groups_of_rooms : (sets : List (List ℕ)) (us : List (List ℕ)) (ms : List UnitRoom) (tss : List (List PlacedJob))
    → AllZip (IsForGroups sets) us ms
    → length tss ≡ length us
    → ◌≡◌ {A = List (List ℕ)} (room_groups ms) (map (λ (w : layers.Work). w.groups) (works_of sets us tss))
groups_of_rooms sets [] [] [] z e = refl
groups_of_rooms sets [] [] (ts ∷ tss) z e = absurd (omega (arith, e))
groups_of_rooms sets [] (m ∷ ms) tss z e = absurd z
groups_of_rooms sets (u ∷ us) [] tss z e = absurd z
groups_of_rooms sets (u ∷ us) (m ∷ ms) [] z e = absurd (omega (arith, e))
groups_of_rooms sets (u ∷ us) (m ∷ ms) (ts ∷ tss) z e =
    ap (λ (g : List ℕ). g ∷ room_groups ms) z.0
    ∙ ap (λ (l : List (List ℕ)). unit_groups sets u ∷ l) (groups_of_rooms sets us ms tss z.1 (omega (arith, e)))

zip_lengths : {A B : Type 0} (R : A → B → Type 0) (xs : List A) (ys : List B) → AllZip R xs ys → length ys ≡ length xs
zip_lengths R [] [] z = refl
zip_lengths R [] (y ∷ ys) z = absurd z
zip_lengths R (x ∷ xs) [] z = absurd z
zip_lengths R (x ∷ xs) (y ∷ ys) z = ap suc (zip_lengths R xs ys z.1)

pub rooms_in : (sets : List (List ℕ)) (plan : List (List (List ℕ))) (rooms : List LoadRoom) → AllZip (FitsLoad sets) plan rooms
    → AllZip (IsForGroups sets) (units_in plan) (all_rooms rooms)
rooms_in sets [] [] z = tt
rooms_in sets [] (r ∷ rooms) z = absurd z
rooms_in sets (p ∷ plan) [] z = absurd z
rooms_in sets (p ∷ plan) (r ∷ rooms) z =
    zip_both (IsForGroups sets) p (units_in plan) r.units.items (all_rooms rooms) z.0.groups (rooms_in sets plan rooms z.1)

pub have_rooms : (sets : List (List ℕ)) (plan : List (List (List ℕ))) (rooms : List LoadRoom) → AllZip (FitsLoad sets) plan rooms
    → AllZip HaveRoomFor plan rooms
have_rooms sets plan rooms z = zip_map (FitsLoad sets) HaveRoomFor (λ p r f. f.room) plan rooms z

-- ---- all loads

pub zip_loads : (table : Layout) (skip : List SkipId) (ps : List Load) (rs : List (Vec Ran)) → AllZip (HasRunLoad table skip) ps rs
    → AllZip (HasRun table skip) (all_works ps) (all_rans rs)
zip_loads table skip [] [] z = tt
zip_loads table skip [] (r ∷ rs) z = absurd z
zip_loads table skip (p ∷ ps) [] z = absurd z
zip_loads table skip (p ∷ ps) (r ∷ rs) z =
    zip_both (HasRun table skip) p.works.items (all_works ps) r.items (all_rans rs) z.0 (zip_loads table skip ps rs z.1)

pub all_first : {A : Type 0} (P : A → Type 0) (xs ys : List A) → AllByRecursion P (xs ++ ys) → AllByRecursion P xs × AllByRecursion P ys
all_first P [] ys h = (tt, h)
all_first P (x ∷ xs) ys h = let rest = all_first P xs ys h.1 in ((h.0, rest.0), rest.1)

pub ready_loads : (table : Layout) (ps : List Load) → AllByRecursion (IsReady table) (all_works ps) → AllByRecursion (IsReadyLoad table) ps
ready_loads table [] r = tt
ready_loads table (p ∷ ps) r =
    let both = all_first (IsReady table) p.works.items (all_works ps) r in (both.0, ready_loads table ps both.1)

flat_jobs : (rs : List Ran) → ◌≡◌ {A = List JobRan} (flat (rans_each rs)) (jobs_of rs)
flat_jobs [] = refl
flat_jobs (r ∷ rs) = ap (λ (l : List JobRan). r.jobs.items ++ l) (flat_jobs rs)

-- ---- inside the row

-- the groups of a unit are shards of the table
unit_inside : (table : Layout) (layer : List Job) (units : List (List ℕ)) → AddressTheirGroups table layer
    → AreUnitsOf (groups_each layer) units → (u : List ℕ) → In u units → (g : ℕ) → has (unit_groups (groups_each layer) u) g ≡ true
    → g < table.shards
unit_inside table layer units a of [] i g there = (let k = (of.each [] i).some in absurd (omega (arith, k)))
unit_inside table layer units a of (p ∷ u) i g there = at_place (some_job layer p inside)
  where
    sets_length : (js : List Job) → length (groups_each js) ≡ length js
    sets_length [] = refl
    sets_length (j ∷ js) = ap suc (sets_length js)

    behind : (v : List ℕ) (us : List (List ℕ)) → In p (concat us) → In p (v ++ concat us)
    behind [] us h = h
    behind (x ∷ v) us h = inr (behind v us h)

    first_in : (us : List (List ℕ)) → In (p ∷ u) us → In p (concat us)
    first_in [] h = absurd h
    first_in (v ∷ us) (inl e) = subst (λ l. In p (l ++ concat us)) e (inl refl)
    first_in (v ∷ us) (inr more) = behind v us (first_in us more)

    inside : p < length layer
    inside = subst (λ n. p < n) (sets_length layer) (within (length (groups_each layer)) units of.once p (first_in units i))

    some_job : (js : List Job) (k : ℕ) → k < length js → (j : Job) × (slice_get js k ≡ Some j)
    some_job [] k h = absurd (omega (arith, h))
    some_job (j ∷ js) zero h = (j, refl)
    some_job (j ∷ js) (suc k) h = some_job js k (omega (arith, h))

    at_place : (j : Job) × (slice_get layer p ≡ Some j) → g < table.shards
    at_place j = task_groups-below table j.0.asked.batch g
        (ap (λ gs. has gs g) (sym (address_at table layer a p j.0 j.1)) ∙ ap (λ gs. has gs g) (sym (get_set layer p j.0 j.1)) ∙ there)

pub rooms_inside : (table : Layout) (layer : List Job) (units : List (List ℕ)) (n : ℕ) → n ≡ table.shards → AddressTheirGroups table layer
    → AreUnitsOf (groups_each layer) units → (us : List (List ℕ)) (ms : List UnitRoom) → ((u : List ℕ) → In u us → In u units)
    → AllZip (IsForGroups (groups_each layer)) us ms → AllByRecursion (IsInRow n) ms
rooms_inside table layer units n long a of [] [] sub z = tt
rooms_inside table layer units n long a of [] (m ∷ ms) sub z = absurd z
rooms_inside table layer units n long a of (u ∷ us) [] sub z = tt
rooms_inside table layer units n long a of (u ∷ us) (m ∷ ms) sub z = (
  (λ g there. subst (λ k. g < k) (sym long)
      (unit_inside table layer units a of u (sub u (inl refl)) g (ap (λ gs. has gs g) (sym z.0) ∙ there))),
  rooms_inside table layer units n long a of us ms (λ v i. sub v (inr i)) z.1,
)

over_numbers : (table : Layout) (skip : List SkipId) (ts : List PlacedJob) (rs : List JobRan) (before after : Span)
    → HaveRunOver table skip ts before rs after
    → numbers after ≡ numbers before
over_numbers table skip [] [] before after run = ap numbers run
over_numbers table skip [] (r ∷ rs) before after run = absurd run
over_numbers table skip (t ∷ ts) [] before after run = absurd run
over_numbers table skip (t ∷ ts) (r ∷ rs) before after run = over_numbers table skip ts rs run.0 after run.2 ∙ run.1.numbers

below_all : (n : ℕ) (span : Span) → ((g : ℕ) → has (numbers span) g ≡ true → g < n) → AllByRecursion (λ s. s.0 < n) span
below_all n [] h = tt
below_all n (s ∷ ss) h = (h s.0 (or_left _ _ (eq-eqb s.0 s.0 refl)), below_all n ss (λ g there. h g (or_right _ _ there)))

-- ---- put back one after another

pub jobs_of-append : (xs ys : List Ran) → jobs_of (xs ++ ys) ≡ jobs_of xs ++ jobs_of ys
jobs_of-append [] ys = refl
jobs_of-append (x ∷ xs) ys = ap (λ l. x.jobs.items ++ l) (jobs_of-append xs ys)
    ∙ sym (append_assoc x.jobs.items (jobs_of xs) (jobs_of ys))

pub spans_of-append : (xs ys : List Ran) → ◌≡◌ {A = List Span} (spans_of (xs ++ ys)) (spans_of xs ++ spans_of ys)
spans_of-append [] ys = refl
spans_of-append (x ∷ xs) ys = ap (λ (l : List Span). x.shards.items ∷ l) (spans_of-append xs ys)

pub put_spans-append : (row : List Map) (xs ys : List Span) → put_spans row (xs ++ ys) ≡ put_spans (put_spans row xs) ys
put_spans-append row [] ys = refl
put_spans-append row (x ∷ xs) ys = put_spans-append (put_span row x) xs ys

-- ---- what follows

module _ (table : Layout) (maps : List Map) (layer : List Job) (units : List (List ℕ)) (rooms : List UnitRoom)
    (works : List Work) (left : List Map) (slots : List (Option Job)) (is_table : IsTable table) (own : HasOwnKeys table maps)
    (address : AddressTheirGroups table layer) (of : AreUnitsOf (groups_each layer) units)
    (for_groups : AllZip (IsForGroups (groups_each layer)) units rooms)
    (sub : (i : ℕ) (j : Job) → slice_get slots i ≡ Some (Some j) → slice_get layer i ≡ Some j)
    (made : MadeWorks slots maps units rooms works left) (taken_law : TakenOutAsTheyWere) where
  abbrev sets : List (List ℕ)
  sets = groups_each layer

  jobs : AllZip (AllZip (IsJobOf layer)) units (jobs_each works)
  jobs = made_jobs layer slots maps units rooms works left sub made

  abbrev law_works : List layers.Work
  law_works = works_of sets units (jobs_each works)

  groups_same : ◌≡◌ {A = List (List ℕ)} (room_groups rooms) (map (λ (w : layers.Work). w.groups) law_works)
  groups_same = groups_of_rooms sets units rooms (jobs_each works) for_groups
      (zip_lengths (AllZip (IsJobOf layer)) units (jobs_each works) jobs)

  pub left_is : left ≡ layers.left_of maps law_works
  left_is = made_left slots maps units rooms works left made ∙ ap (emptied_each empty maps) groups_same

  spans_are : ◌≡◌ {A = List Span} (map (λ w. w.shards.items) works) (map (λ (w : layers.Work). span_at maps w.groups) law_works)
  spans_are = made_spans slots maps units rooms works left made ∙ ap (taken_out_each empty maps) groups_same
      ∙ taken_law table maps (tasks_of layer) law_works (are_works table layer units (jobs_each works) address of jobs)

  -- each unit has its shards as they were
  has_span : (us : List (List ℕ)) (ws : List Work) → AllZip (AllZip (IsJobOf layer)) us (jobs_each ws)
      → ◌≡◌ {A = List Span} (map (λ w. w.shards.items) ws)
      (map (λ (w : layers.Work). span_at maps w.groups) (works_of sets us (jobs_each ws)))
      → AllZip (λ u w. w.shards.items ≡ span_at maps (unit_groups sets u)) us ws
  has_span [] [] z e = tt
  has_span [] (w ∷ ws) z e = absurd z
  has_span (u ∷ us) [] z e = absurd z
  has_span (u ∷ us) (w ∷ ws) z e = (
    ap (λ (l : List Span). slice_index_or l 0 []) e,
    has_span us ws z.1 (ap (λ (l : List Span). drop 1 l) e),
  )

  with_spans : AllZip (λ u w. w.shards.items ≡ span_at maps (unit_groups sets u)) units works
  with_spans = has_span units works jobs spans_are

  ready_each : (us : List (List ℕ)) (ws : List Work) → ((u : List ℕ) → In u us → In u units)
      → AllZip (AllZip (IsJobOf layer)) us (jobs_each ws) → AllZip (λ u w. w.shards.items ≡ span_at maps (unit_groups sets u)) us ws
      → AllByRecursion (IsReady table) ws
  ready_each [] [] inside z e = tt
  ready_each [] (w ∷ ws) inside z e = absurd z
  ready_each (u ∷ us) [] inside z e = tt
  ready_each (u ∷ us) (w ∷ ws) inside z e = (
    are_ready table layer is_table address u w.jobs.items w.shards.items (of.each u (inside u (inl refl))) z.0
        (ap numbers e.0 ∙ numbers-span_at maps (unit_groups sets u))
        (subst (SpanHasOwnKeys table) (sym e.0) (own_span table maps (unit_groups sets u) own)),
    ready_each us ws (λ v i. inside v (inr i)) z.1 e.1,
  )

  pub all_ready : AllByRecursion (IsReady table) works
  all_ready = ready_each units works (λ u i. i) jobs with_spans

  module _ (skip : List SkipId) (rans : List Ran) (ran : AllZip (HasRun table skip) works rans) where
    tells_each : (ws : List Work) (rs : List Ran) → AllZip (HasRun table skip) ws rs → AllZip (AllZip Tells) (jobs_each ws) (rans_each rs)
    tells_each [] [] z = tt
    tells_each [] (r ∷ rs) z = absurd z
    tells_each (w ∷ ws) [] z = absurd z
    tells_each (w ∷ ws) (r ∷ rs) z =
        (tells_all table skip w.jobs.items r.jobs.items w.shards.items r.shards.items z.0, tells_each ws rs z.1)

    tells : AllZip (AllZip Tells) (jobs_each works) (rans_each rans)
    tells = tells_each works rans ran

    runs_each : (us : List (List ℕ)) (ws : List Work) (rs : List Ran)
        → AllZip (λ u w. w.shards.items ≡ span_at maps (unit_groups sets u)) us ws → AllZip (HasRun table skip) ws rs
        → UnitsRunOn skip sets maps us (jobs_each ws) (rans_each rs)
    runs_each [] [] rs e z = tt
    runs_each [] (w ∷ ws) rs e z = absurd e
    runs_each (u ∷ us) [] rs e z = absurd e
    runs_each (u ∷ us) (w ∷ ws) [] e z = absurd z
    runs_each (u ∷ us) (w ∷ ws) (r ∷ rs) e z = (
      subst (λ s. HaveRunOn skip w.jobs.items (union s) r.jobs.items) e.0
          (run_on table skip w.jobs.items r.jobs.items w.shards.items r.shards.items z.0),
      runs_each us ws rs e.1 z.1,
    )

    abbrev law_rans : List Ran → List layers.Ran
    law_rans rs = map (λ r. record { outcomes = map (λ t. outcome t.reply) r.jobs.items; span = r.shards.items }) rs

    spans_same : (rs : List Ran) → ◌≡◌ {A = List Span} (map (λ (r : layers.Ran). r.span) (law_rans rs)) (spans_of rs)
    spans_same [] = refl
    spans_same (r ∷ rs) = ap (λ (l : List Span). r.shards.items ∷ l) (spans_same rs)

    runs_of : (outs : List (Option Content)) (us : List (List ℕ)) (ws : List Work) (rs : List Ran) → ((u : List ℕ) → In u us → In u units)
        → AllZip (AllZip (IsJobOf layer)) us (jobs_each ws)
        → AllZip (λ u w. w.shards.items ≡ span_at maps (unit_groups sets u)) us ws → AllZip (HasRun table skip) ws rs
        → AllZip (λ u r. layers.StandAt outs u (map (λ t. outcome t.reply) r)) us (rans_each rs)
        → AllZip (layers.IsRunOf table maps outs) (works_of sets us (jobs_each ws)) (law_rans rs)
    runs_of outs [] [] [] inside z e run stand = tt
    runs_of outs [] [] (r ∷ rs) inside z e run stand = absurd run
    runs_of outs [] (w ∷ ws) rs inside z e run stand = absurd z
    runs_of outs (u ∷ us) [] rs inside z e run stand = absurd z
    runs_of outs (u ∷ us) (w ∷ ws) [] inside z e run stand = absurd run
    runs_of outs (u ∷ us) (w ∷ ws) (r ∷ rs) inside z e run stand = (
      record {
        ran = subst (λ s. layers.UnitRan table (map (λ t. t.job.asked.batch) w.jobs.items) s
            (map (λ t. outcome t.reply) r.jobs.items) r.shards.items)
            e.0 (unit_ran table skip w.jobs.items r.jobs.items w.shards.items r.shards.items
            (are_ready table layer is_table address u w.jobs.items w.shards.items (of.each u (inside u (inl refl))) z.0
            (ap numbers e.0 ∙ numbers-span_at maps (unit_groups sets u))
            (subst (SpanHasOwnKeys table) (sym e.0) (own_span table maps (unit_groups sets u) own))) run.0);
        stand = stand.0;
      },
      runs_of outs us ws rs (λ v i. inside v (inr i)) z.1 e.1 run.1 stand.1,
    )

    spans_each : (n : ℕ) → n ≡ table.shards → (us : List (List ℕ)) (ws : List Work) (rs : List Ran) → ((u : List ℕ) → In u us → In u units)
        → AllZip (λ u w. w.shards.items ≡ span_at maps (unit_groups sets u)) us ws → AllZip (HasRun table skip) ws rs
        → AllByRecursion (AllByRecursion (λ s. s.0 < n)) (spans_of rs)
    spans_each n long us ws [] inside e run = tt
    spans_each n long us [] (r ∷ rs) inside e run = absurd run
    spans_each n long [] (w ∷ ws) (r ∷ rs) inside e run = absurd e
    spans_each n long (u ∷ us) (w ∷ ws) (r ∷ rs) inside e run = (
      below_all n r.shards.items (λ g there. subst (λ k. g < k) (sym long)
          (unit_inside table layer units address of u (inside u (inl refl)) g
          (ap (λ gs. has gs g) (sym (numbers-span_at maps (unit_groups sets u)) ∙ ap numbers (sym e.0)
          ∙ sym (over_numbers table skip w.jobs.items r.jobs.items w.shards.items r.shards.items run.0)) ∙ there))),
      spans_each n long us ws rs (λ v i. inside v (inr i)) e.1 run.1,
    )

    -- the shards are put back inside the row, and what became of the requests in places of the layer
    pub spans_inside : (n : ℕ) → n ≡ table.shards → AllByRecursion (AllByRecursion (λ s. s.0 < n)) (spans_of rans)
    spans_inside n long = spans_each n long units works rans (λ u i. i) with_spans ran

    pub jobs_inside : (n : ℕ) → n ≡ length layer → AreInside n (jobs_of rans)
    jobs_inside n long = subst (AreInside n) (flat_jobs rans)
        (places_inside layer units (jobs_each works) (rans_each rans) of jobs tells n long)

    -- the layer is done once the shards are back and the outcomes in their places
    pub dealt_given : PartsAreInTurn → length maps ≡ table.shards → (rans0 gave : List (Option JobRan)) (new : List Map)
        → rans0 ≡ replicate (length layer) None → gave ≡ placed rans0 (jobs_of rans) → new ≡ put_spans left (spans_of rans)
        → HaveGiven table maps skip layer gave new
    dealt_given law long rans0 gave new none put back =
        let is : gave ≡ placed (replicate (length layer) None) (flat (rans_each rans)) =
        put ∙ ap (λ s. placed s (jobs_of rans)) none ∙ ap (placed (replicate (length layer) None)) (sym (flat_jobs rans)) in
        let there = units_there layer units (jobs_each works) (rans_each rans) of jobs tells gave is in
        let outs = outcomes layer units (jobs_each works) (rans_each rans) of jobs tells gave is in
        let stand : AllZip (λ u rs. layers.StandAt outs u (map (λ t. outcome t.reply) rs)) units (rans_each rans) =
        zip_map (AllZip (λ i r. slice_get gave i ≡ Some (Some r))) (λ u rs. layers.StandAt outs u (map (λ t. outcome t.reply) rs))
        (outcomes_stand layer units (jobs_each works) (rans_each rans) of jobs tells gave is) units (rans_each rans) there in
        let row : layers.with_rans (layers.left_of maps law_works) (law_rans rans) ≡ new =
        ap (put_spans (layers.left_of maps law_works)) (spans_same rans) ∙ ap (λ r. put_spans r (spans_of rans)) (sym left_is) ∙ sym back in
        let turn = law table maps (tasks_of layer) law_works (law_rans rans) outs is_table own long
        (are_works table layer units (jobs_each works) address of jobs)
        (outcomes_many layer units (jobs_each works) (rans_each rans) of jobs tells gave is)
        (runs_of outs units works rans (λ u i. i) jobs with_spans ran stand) in
        given layer units (jobs_each works) (rans_each rans) of jobs tells gave is table maps skip is_table own address
        (runs_each units works rans with_spans ran) new
        (subst (layers.LayerRan table maps (tasks_of layer) outs) row turn.0)
        (subst (λ n. layers.AnsweredInTurn (joined maps) (tasks_of layer) outs (joined n)) row turn.1)
        (subst (HasOwnKeys table) row turn.2)
