-- A layer whose units were run, each over its own shards: what stands in the places of the requests, and that the layer is
-- done.
use Rattle.std.proofs.Common.{◌≡◌, ℕ, zero, suc, ◌+◌, ◌<◌, ◌==◌, List, [], ◌∷◌, ◌++◌, map, length, true, Option, Some, None, slice_get}
use Rattle.std.proofs.Common.{get_or, ◌⊎◌, inl, inr, arith, refl, sym, ap, ◌∙◌, subst, eq-eqb, eqb-true}
use Rattle.std.proofs.lemmas.Bool.{or_left, or_right, or_cases}
use Rattle.std.proofs.lemmas.List.{length-replicate, length-map}
use Rattle.std.proofs.lemmas.Option.{slice_get_within}
use Rattle.std.proofs.Math.ListN.{replicate}
use Rattle.std.specs.List.{AllZip, AllByRecursion, concat}
use Rattle.std.specs.Option.{IsSome}
use Rattle.groups.specs.GroupSet.{has}
use Rattle.groups.specs.Order.{In}
use Rattle.groups.specs.declared.skip_id.SkipId.{SkipId}
use Rattle.groups.specs.declared.stamp.Stamp.{Stamp}
use Rattle.keyspace.specs.Map.{Map}
use Rattle.layer_planner.specs.Units.{groups_each, groups_at, IsUnit, AreUnitsOf}
use Rattle.layer_planner.specs.declared.job.Job.{Job}
use Rattle.placement.specs.Layout.{Layout, IsTable}
use Rattle.resp.specs.Content.{Content}
use Rattle.shards.specs.Joined.{joined, HasOwnKeys, Span, numbers, span_at, union, SpanHasOwnKeys}
use Rattle.shards.specs.Layer as layers
use Rattle.shard_workers.specs.Runs.{HaveRunOver}
use Rattle.shard_workers.specs.PlacedJobs.{outcome, IsReadyFor}
use Rattle.shard_workers.specs.declared.placed_job.PlacedJob.{PlacedJob}
use Rattle.shard_workers.specs.declared.placed_job.JobRan.{JobRan}
use Rattle.tasks.specs.Tasks.{Task, task_groups}
use Rattle.tasks.proofs.Groups.{task_groups-below}
use Rattle.shard_exec.specs.Dealing.{filled, flat, placed, AreInside}
use Rattle.shard_exec.specs.Layers.{tasks_of, AddressTheirGroups, outcomes_of_ended, IsOf, MayStarveInTurn, ended_of}
use Rattle.shard_exec.specs.Layers.{HasItsGroups, HaveGiven, on_groups}
use Rattle.shard_exec.specs.Stamps.{AreInRow, raise, raised, raised_by}
use Rattle.shard_exec.specs.declared.done.Ended.{Ended}
use Rattle.shard_exec.proofs.Slots.{same_some, once_in, all_in, within, full_from, at_filled, at_slot, length-filled, length-placed}
use Rattle.shard_exec.proofs.Slots.{placed_there, AtMostOnce, not_later, once_later}
use Rattle.shard_exec.proofs.Starving.{union-on_groups, starve_turns, starve_along, Items, HaveRunOn, unit_groups}
use Rattle.shard_exec.proofs.Starving.{has_unit_groups, StarveAlong}

-- ---- several lists

pub zip_both : {A B : Type 0} (R : A → B → Type 0) (xs xs' : List A) (ys ys' : List B) → AllZip R xs ys → AllZip R xs' ys'
    → AllZip R (xs ++ xs') (ys ++ ys')
zip_both R [] xs' [] ys' z w = w
zip_both R [] xs' (y ∷ ys) ys' z w = absurd z
zip_both R (x ∷ xs) xs' [] ys' z w = absurd z
zip_both R (x ∷ xs) xs' (y ∷ ys) ys' z w = (z.0, zip_both R xs xs' ys ys' z.1 w)

pub zip_flat : {A B : Type 0} (R : A → B → Type 0) (xss : List (List A)) (yss : List (List B)) → AllZip (AllZip R) xss yss
    → AllZip R (flat xss) (flat yss)
zip_flat R [] [] z = tt
zip_flat R [] (ys ∷ yss) z = absurd z
zip_flat R (xs ∷ xss) [] z = absurd z
zip_flat R (xs ∷ xss) (ys ∷ yss) z = zip_both R xs (flat xss) ys (flat yss) z.0 (zip_flat R xss yss z.1)

pub zip_map : {A B : Type 0} (R S : A → B → Type 0) → ((a : A) (b : B) → R a b → S a b) → (xs : List A) (ys : List B) → AllZip R xs ys
    → AllZip S xs ys
zip_map R S f [] [] z = tt
zip_map R S f [] (y ∷ ys) z = absurd z
zip_map R S f (x ∷ xs) [] z = absurd z
zip_map R S f (x ∷ xs) (y ∷ ys) z = (f x y z.0, zip_map R S f xs ys z.1)

get_map : {A B : Type 0} (f : A → B) (xs : List A) (i : ℕ) (x : A) → slice_get xs i ≡ Some x → slice_get (map f xs) i ≡ Some (f x)
get_map f [] i x e = absurd (let k = e in cc)
get_map f (y ∷ xs) zero x e = ap (λ v. Some (f v)) (same_some y x e)
get_map f (y ∷ xs) (suc i) x e = get_map f xs i x e

pub get_set : (js : List Job) (i : ℕ) (j : Job) → slice_get js i ≡ Some j → groups_at (groups_each js) i ≡ j.groups
get_set [] i j e = absurd (let k = e in cc)
get_set (x ∷ js) zero j e = ap (λ (v : Job). v.groups) (same_some x j e)
get_set (x ∷ js) (suc i) j e = get_set js i j e

pub set_at : (js : List Job) (i : ℕ) (j : Job) → j ≡ get_or js i j → i < length js → groups_at (groups_each js) i ≡ j.groups
set_at [] i j e below = absurd (omega (arith, below))
set_at (x ∷ js) zero j e below = ap (λ (v : Job). v.groups) (sym e)
set_at (x ∷ js) (suc i) j e below = set_at js i j e (omega (arith, below))

in_concat : (i : ℕ) (units : List (List ℕ)) → In i (concat units) → (unit : List ℕ) × In unit units × (has unit i ≡ true)
in_concat i [] there = absurd there
in_concat i (u ∷ us) there = elim (in_either u there) [
  | inl h ↦ (u, inl refl, h)
  | inr later ↦ (let rest = in_concat i us later in (rest.0, inr rest.1, rest.2))
]
  where
    in_either : (xs : List ℕ) → In i (xs ++ concat us) → (has xs i ≡ true) ⊎ In i (concat us)
    in_either [] later = inr later
    in_either (x ∷ xs) (inl e) = inl (or_left _ _ (eq-eqb x i (sym e)))
    in_either (x ∷ xs) (inr more) = elim (in_either xs more) [
      | inl h ↦ inl (or_right _ _ h)
      | inr later ↦ inr later
    ]

pub zip_units : {B : Type 0} (R : ℕ → B → Type 0) (us : List (List ℕ)) (yss : List (List B)) → AllZip (AllZip R) us yss
    → AllZip R (concat us) (flat yss)
zip_units R [] [] z = tt
zip_units R [] (ys ∷ yss) z = absurd z
zip_units R (u ∷ us) [] z = absurd z
zip_units R (u ∷ us) (ys ∷ yss) z = zip_both R u (concat us) ys (flat yss) z.0 (zip_units R us yss z.1)

-- ---- the requests of a layer by their places

-- this is the request at the place of the layer
pub record IsJobOf (layer : List Job) (i : ℕ) (t : PlacedJob) : Type 0 where
  pub at : slice_get layer i ≡ Some t.job
  pub place : t.place ≡ i

-- this is what became of it
pub record Tells (t : PlacedJob) (r : JobRan) : Type 0 where
  pub place : r.place ≡ t.place
  pub id : r.id ≡ t.job.id
  pub stamp : r.stamp ≡ t.job.stamp
  pub groups : r.groups ≡ t.job.groups
  pub words : r.words ≡ t.job.asked.words

pub record TellsOf (layer : List Job) (i : ℕ) (r : JobRan) : Type 0 where
  pub job : Job
  pub at : slice_get layer i ≡ Some job
  pub place : r.place ≡ i
  pub id : r.id ≡ job.id
  pub stamp : r.stamp ≡ job.stamp
  pub groups : r.groups ≡ job.groups
  pub words : r.words ≡ job.asked.words

tells_of : (layer : List Job) (is : List ℕ) (ts : List PlacedJob) (rs : List JobRan)
    → AllZip (IsJobOf layer) is ts
    → AllZip Tells ts rs → AllZip (TellsOf layer) is rs
tells_of layer [] [] [] z w = tt
tells_of layer [] [] (r ∷ rs) z w = absurd w
tells_of layer [] (t ∷ ts) rs z w = absurd z
tells_of layer (i ∷ is) [] rs z w = absurd z
tells_of layer (i ∷ is) (t ∷ ts) [] z w = absurd w
tells_of layer (i ∷ is) (t ∷ ts) (r ∷ rs) z w = (
  record {
    job = t.job;
    at = z.0.at;
    place = w.0.place ∙ z.0.place;
    id = w.0.id;
    stamp = w.0.stamp;
    groups = w.0.groups;
    words = w.0.words;
  },
  tells_of layer is ts rs z.1 w.1,
)

pub tells_all : (table : Layout) (skip : List SkipId) (ts : List PlacedJob) (rs : List JobRan) (before after : Span)
    → HaveRunOver table skip ts before rs after
    → AllZip Tells ts rs
tells_all table skip [] [] before after run = tt
tells_all table skip [] (r ∷ rs) before after run = absurd run
tells_all table skip (t ∷ ts) [] before after run = absurd run
tells_all table skip (t ∷ ts) (r ∷ rs) before after run = (
  record { place = run.1.on.place; id = run.1.on.id; stamp = run.1.on.stamp; groups = run.1.on.groups; words = run.1.on.words },
  tells_all table skip ts rs run.0 after run.2,
)

-- ---- in their places

-- the places and what stands there, for any one of them
zip_in : {B : Type 0} (R : ℕ → B → Type 0) (is : List ℕ) (ys : List B) → AllZip R is ys → (i : ℕ) → In i is → (y : B) × R i y
zip_in R [] ys z i there = absurd there
zip_in R (k ∷ is) [] z i there = absurd z
zip_in R (k ∷ is) (y ∷ ys) z i (inl e) = (y, subst (λ x. R x y) (sym e) z.0)
zip_in R (k ∷ is) (y ∷ ys) z i (inr later) = zip_in R is ys z.1 i later

zip_two : {B : Type 0} (R S : ℕ → B → Type 0) (is : List ℕ) (ys : List B) → AllZip R is ys → AllZip S is ys
    → AllZip (λ i y. R i y × S i y) is ys
zip_two R S [] [] z w = tt
zip_two R S [] (y ∷ ys) z w = absurd z
zip_two R S (i ∷ is) [] z w = absurd z
zip_two R S (i ∷ is) (y ∷ ys) z w = ((z.0, w.0), zip_two R S is ys z.1 w.1)

from_places : {X Y : Type 0} (R : X → Y → Type 0) (xs : List X) (ys : List Y) → length ys ≡ length xs
    → ((i : ℕ) (x : X) (y : Y) → slice_get xs i ≡ Some x → slice_get ys i ≡ Some y → R x y) → AllZip R xs ys
from_places R [] [] e each = tt
from_places R [] (y ∷ ys) e each = absurd (omega (arith, e))
from_places R (x ∷ xs) [] e each = absurd (omega (arith, e))
from_places R (x ∷ xs) (y ∷ ys) e each = (each zero x y refl refl, from_places R xs ys (omega (arith, e)) (λ i. each (suc i)))

-- what stands in a list at the places of some
stand_at : {X Y : Type 0} (xs : List X) (f : Y → X) (is : List ℕ) (ys : List Y) → AllZip (λ i y. slice_get xs i ≡ Some (f y)) is ys
    → layers.StandAt xs is (map f ys)
stand_at xs f [] [] z = refl
stand_at xs f [] (y ∷ ys) z = absurd z
stand_at xs f (i ∷ is) [] z = absurd z
stand_at xs f (i ∷ is) (y ∷ ys) z =
    ap (λ o. o ∷ map (slice_get xs) is) z.0 ∙ ap (λ l. Some (f y) ∷ l) (stand_at xs f is ys z.1)

-- each unit was run from what its shards had
abbrev pub UnitsRunOn : List SkipId → List (List ℕ) → List Map → List (List ℕ) → List (List PlacedJob) → List (List JobRan) → Type 0
UnitsRunOn skip sets maps (u ∷ us) (ts ∷ tss) (rs ∷ rss) =
    HaveRunOn skip ts (union (span_at maps (unit_groups sets u))) rs × UnitsRunOn skip sets maps us tss rss
UnitsRunOn skip sets maps _ _ _ = Unit {0}

-- what became of the requests names places of the layer
pub places_inside : (layer : List Job) (units : List (List ℕ)) (tss : List (List PlacedJob))
    (rss : List (List JobRan)) → AreUnitsOf (groups_each layer) units → AllZip (AllZip (IsJobOf layer)) units tss
    → AllZip (AllZip Tells) tss rss → (n : ℕ) → n ≡ length layer → AreInside n (flat rss)
places_inside layer units tss rss of jobs tells n long =
    each (concat units) (flat rss) (tells_of layer (concat units) (flat tss) (flat rss)
    (zip_units (IsJobOf layer) units tss jobs)
    (zip_flat Tells tss rss tells))
  where
    each : (is : List ℕ) (rs : List JobRan) → AllZip (TellsOf layer) is rs → AreInside n rs
    each [] [] z = tt
    each [] (r ∷ rs) z = absurd z
    each (i ∷ is) [] z = tt
    each (i ∷ is) (r ∷ rs) z = (
      (let h = slice_get_within layer i z.0.job z.0.at in let p = z.0.place in omega (arith, h, p, long)),
      each is rs z.1,
    )

module _ (layer : List Job) (units : List (List ℕ)) (tss : List (List PlacedJob)) (rss : List (List JobRan))
    (of : AreUnitsOf (groups_each layer) units) (jobs : AllZip (AllZip (IsJobOf layer)) units tss)
    (tells : AllZip (AllZip Tells) tss rss) (slots : List (Option JobRan))
    (is : slots ≡ placed (replicate (length layer) None) (flat rss)) where
  sets_length : length (groups_each layer) ≡ length layer
  sets_length = map_length layer
    where
      map_length : (js : List Job) → length (groups_each js) ≡ length js
      map_length [] = refl
      map_length (j ∷ js) = ap suc (map_length js)

  by_place : AllZip (TellsOf layer) (concat units) (flat rss)
  by_place = tells_of layer (concat units) (flat tss) (flat rss) (zip_units (IsJobOf layer) units tss jobs)
      (zip_flat Tells tss rss tells)

  pub below : (i : ℕ) → In i (concat units) → i < length layer
  below i there = subst (λ n. i < n) sets_length (within (length (groups_each layer)) units of.once i there)

  in_slots : AllZip (λ i r. slice_get slots i ≡ Some (Some r)) (concat units) (flat rss)
  in_slots = subst (λ s. AllZip (λ i r. slice_get s i ≡ Some (Some r)) (concat units) (flat rss)) (sym is)
      (placed_there (replicate (length layer) None) (concat units) (flat rss)
      (zip_map (TellsOf layer) (λ i r. r.place ≡ i) (λ i r t. t.place) (concat units) (flat rss) by_place)
      (once_in (length (groups_each layer)) units of.once)
      (λ i there. subst (λ n. i < n) (sym (length-replicate (length layer) None)) (below i there)))

  pub as_many : length slots ≡ length layer
  as_many = ap (λ (l : List (Option JobRan)). length l) is ∙ length-placed (replicate (length layer) None) (flat rss)
      ∙ length-replicate (length layer) None

  each_there : (i : ℕ) → i < length layer → (r : JobRan) × TellsOf layer i r × (slice_get slots i ≡ Some (Some r))
  each_there i below_it =
      let found = zip_in (λ k r. TellsOf layer k r × (slice_get slots k ≡ Some (Some r))) (concat units) (flat rss)
      (zip_two (TellsOf layer) (λ k r. slice_get slots k ≡ Some (Some r)) (concat units) (flat rss) by_place in_slots) i
      (all_in (length (groups_each layer)) units of.once i (subst (λ n. i < n) (sym sets_length) below_it)) in
      (found.0, found.1.0, found.1.1)

  pub full : AllByRecursion IsSome slots
  full = full_from slots (λ i b. let e = each_there i (subst (λ n. i < n) as_many b) in (e.0, e.2))

  -- what holds of each request and what became of it
  of_each : (R : Job → JobRan → Type 0)
      → ((j : Job) (r : JobRan) → r.id ≡ j.id → r.stamp ≡ j.stamp → r.groups ≡ j.groups → r.words ≡ j.asked.words → R j r)
      → AllZip R layer (filled slots)
  of_each R holds = from_places R layer (filled slots) (length-filled slots full ∙ as_many) (λ i j r at there.
      let e = each_there i (slice_get_within layer i j at) in
      let same_ran : e.0 ≡ r = same_some e.0 r (same_some _ _ (sym e.2 ∙ at_slot slots full i r there)) in
      let same_job : e.1.job ≡ j = same_some e.1.job j (sym e.1.at ∙ at) in
      subst (R j) same_ran (subst (λ k. R k e.0) same_job (holds e.1.job e.0 e.1.id e.1.stamp e.1.groups e.1.words)))

  pub have_groups : AllZip HasItsGroups layer (filled slots)
  have_groups = of_each HasItsGroups (λ j r id stamp groups words. (groups, stamp))

  abbrev pub done : List Ended
  done = map ended_of (filled slots)

  pub told : AllZip IsOf layer done
  told = through layer (filled slots) (of_each (λ j r. IsOf j (ended_of r)) (λ j r id stamp groups words. (id, stamp, words)))
    where
      through : (js : List Job) (rs : List JobRan) → AllZip (λ j r. IsOf j (ended_of r)) js rs → AllZip IsOf js (map ended_of rs)
      through [] [] z = tt
      through [] (r ∷ rs) z = absurd z
      through (j ∷ js) [] z = absurd z
      through (j ∷ js) (r ∷ rs) z = (z.0, through js rs z.1)

  -- unit by unit
  at_units : (us : List (List ℕ)) (yss : List (List JobRan)) → AllZip (AllZip (TellsOf layer)) us yss
      → AllZip (λ i r. slice_get slots i ≡ Some (Some r)) (concat us) (flat yss)
      → AllZip (AllZip (λ i r. slice_get slots i ≡ Some (Some r))) us yss
  at_units [] [] z w = tt
  at_units [] (ys ∷ yss) z w = absurd z
  at_units (u ∷ us) [] z w = absurd z
  at_units (u ∷ us) (ys ∷ yss) z w = (let both = split u ys z.0 w in (both.0, at_units us yss z.1 both.1))
    where
      split : (u : List ℕ) (ys : List JobRan) → AllZip (TellsOf layer) u ys
          → AllZip (λ i r. slice_get slots i ≡ Some (Some r)) (u ++ concat us) (ys ++ flat yss)
          → AllZip (λ i r. slice_get slots i ≡ Some (Some r)) u ys
          × AllZip (λ i r. slice_get slots i ≡ Some (Some r)) (concat us) (flat yss)
      split [] [] z w = (tt, w)
      split [] (y ∷ ys) z w = absurd z
      split (i ∷ u) [] z w = absurd z
      split (i ∷ u) (y ∷ ys) z w = (let rest = split u ys z.1 w.1 in ((w.0, rest.0), rest.1))

  tells_units : (us : List (List ℕ)) (xss : List (List PlacedJob)) (yss : List (List JobRan)) → AllZip (AllZip (IsJobOf layer)) us xss
      → AllZip (AllZip Tells) xss yss → AllZip (AllZip (TellsOf layer)) us yss
  tells_units [] [] [] z w = tt
  tells_units [] [] (ys ∷ yss) z w = absurd w
  tells_units [] (xs ∷ xss) yss z w = absurd z
  tells_units (u ∷ us) [] yss z w = absurd z
  tells_units (u ∷ us) (xs ∷ xss) [] z w = absurd w
  tells_units (u ∷ us) (xs ∷ xss) (ys ∷ yss) z w = (tells_of layer u xs ys z.0 w.0, tells_units us xss yss z.1 w.1)

  pub units_there : AllZip (AllZip (λ i r. slice_get slots i ≡ Some (Some r))) units rss
  units_there = at_units units rss (tells_units units tss rss jobs tells) in_slots

  abbrev pub outcomes : List (Option Content)
  outcomes = outcomes_of_ended done

  pub outcomes_many : length outcomes ≡ length (tasks_of layer)
  outcomes_many = length-map done (λ (d : Ended). outcome d.reply) ∙ length-map (filled slots) ended_of ∙ length-filled slots full ∙ as_many
      ∙ sym (length-map layer (λ (j : Job). j.asked.batch))

  outcome_at : (i : ℕ) (r : JobRan) → slice_get slots i ≡ Some (Some r) → slice_get outcomes i ≡ Some (outcome r.reply)
  outcome_at i r e = get_map (λ (d : Ended). outcome d.reply) done i (ended_of r)
      (get_map ended_of (filled slots) i r (at_filled slots full i r e))

  -- the outcomes of a unit stand in its places
  pub outcomes_stand : (u : List ℕ) (rs : List JobRan) → AllZip (λ i r. slice_get slots i ≡ Some (Some r)) u rs
      → layers.StandAt outcomes u (map (λ r. outcome r.reply) rs)
  outcomes_stand u rs z = stand_at outcomes (λ r. outcome r.reply) u rs
      (zip_map (λ i r. slice_get slots i ≡ Some (Some r)) (λ i r. slice_get outcomes i ≡ Some (outcome r.reply)) outcome_at u rs z)

  -- ---- whom it starves

  module _ (table : Layout) (maps : List Map) (skip : List SkipId) (is_table : IsTable table) (own : HasOwnKeys table maps)
      (address : AddressTheirGroups table layer)
      (runs : UnitsRunOn skip (groups_each layer) maps units tss rss) where
    abbrev met_by : List ℕ → Map
    met_by u = on_groups table (unit_groups (groups_each layer) u) (joined maps)

    items : (is : List ℕ) (ts : List PlacedJob) (rs : List JobRan) → AllZip (IsJobOf layer) is ts
        → AllZip (λ i r. slice_get slots i ≡ Some (Some r)) is rs → Items 0 layer done is ts rs
    items [] [] [] z w = tt
    items [] [] (r ∷ rs) z w = absurd w
    items [] (t ∷ ts) rs z w = absurd z
    items (i ∷ is) [] rs z w = absurd z
    items (i ∷ is) (t ∷ ts) [] z w = absurd w
    items (i ∷ is) (t ∷ ts) (r ∷ rs) z w = (
      ((i, omega arith, z.0.at), (i, omega arith, get_map ended_of (filled slots) i r (at_filled slots full i r w.0))),
      items is ts rs z.1 w.1,
    )

    along : (us : List (List ℕ)) (xss : List (List PlacedJob)) (yss : List (List JobRan)) → ((u : List ℕ) → In u us → In u units)
        → AllZip (AllZip (IsJobOf layer)) us xss → AllZip (AllZip (λ i r. slice_get slots i ≡ Some (Some r))) us yss
        → UnitsRunOn skip (groups_each layer) maps us xss yss → (u : List ℕ) → In u us → StarveAlong skip u 0 layer done (met_by u)
    along [] xss yss sub z w run u there = absurd there
    along (v ∷ us) [] yss sub z w run u there = absurd z
    along (v ∷ us) (xs ∷ xss) [] sub z w run u there = absurd w
    along (v ∷ us) (xs ∷ xss) (ys ∷ yss) sub z w run u (inl e) =
        subst (λ x. StarveAlong skip x 0 layer done (met_by x)) (sym e)
        (starve_along skip v 0 layer done v xs ys (met_by v) (λ k. refl) (of.each v (sub v (inl refl))).ascending (λ i there. omega arith)
        (items v xs ys z.0 w.0)
        (subst (λ m. HaveRunOn skip xs m ys) (union-on_groups table maps (unit_groups (groups_each layer) v) own) run.0))
    along (v ∷ us) (xs ∷ xss) (ys ∷ yss) sub z w run u (inr later) = along us xss yss (λ x i. sub x (inr i)) z.1 w.1 run.1 u later

    pub starved : MayStarveInTurn table (joined maps) skip layer done
    starved = starve_turns table skip (groups_each layer) units is_table of.each
        (λ i b. in_concat i units (all_in (length (groups_each layer)) units of.once i b)) 0 layer done (joined maps)
        (λ k j e. (let z : 0 + k ≡ k = omega arith in (
          ap (groups_at (groups_each layer)) z ∙ get_set layer k j e,
          subst (λ n. n < length (groups_each layer)) (sym z) (subst (λ n. k < n) (sym sets_length) (slice_get_within layer k j e)),
        )))
        (long (filled slots) ∙ length-filled slots full ∙ as_many) address (along units tss rss (λ u i. i) jobs units_there runs)
      where
        long : (rs : List JobRan) → length (map ended_of rs) ≡ length rs
        long [] = refl
        long (r ∷ rs) = ap suc (long rs)

    -- so the layer is done, where its requests were run
    pub given : (new : List Map) → layers.LayerRan table maps (tasks_of layer) outcomes new
        → layers.AnsweredInTurn (joined maps) (tasks_of layer) outcomes (joined new) → HasOwnKeys table new
        → HaveGiven table maps skip layer slots new
    given new ran turn own' = record {
      full = full;
      as_many = as_many;
      groups = have_groups;
      done = record {
        told = told;
        in_turn = turn;
        shards = ran;
        own = own';
        starved = starved;
      };
    }

-- ---- the last stamps

-- they are those of the requests
pub raised_same : (jobs : List Job) (rs : List JobRan) (lasts : List (Option Stamp)) → AllZip HasItsGroups jobs rs
    → raised_by lasts rs ≡ raised lasts jobs
raised_same [] [] lasts z = refl
raised_same [] (r ∷ rs) lasts z = absurd z
raised_same (j ∷ js) [] lasts z = absurd z
raised_same (j ∷ js) (r ∷ rs) lasts z =
    raised_same js rs (raise lasts r.groups r.stamp) z.1
    ∙ ap (λ gs. raised (raise lasts gs r.stamp) js) z.0.0 ∙ ap (λ s. raised (raise lasts j.groups s) js) z.0.1

pub groups_in_row : (table : Layout) (n : ℕ) (jobs : List Job) (rs : List JobRan) → n ≡ table.shards → AddressTheirGroups table jobs
    → AllZip HasItsGroups jobs rs → AreInRow n rs
groups_in_row table n [] [] long a z = tt
groups_in_row table n [] (r ∷ rs) long a z = absurd z
groups_in_row table n (j ∷ js) [] long a z = tt
groups_in_row table n (j ∷ js) (r ∷ rs) long a z = (
  (λ g there. subst (λ m. g < m) (sym long)
      (task_groups-below table j.asked.batch g (ap (λ gs. has gs g) (sym (z.0.0 ∙ a.0)) ∙ there))),
  groups_in_row table n js rs long a.1 z.1,
)

-- ---- the units as the laws of layers have them

abbrev pub works_of : List (List ℕ) → List (List ℕ) → List (List PlacedJob) → List layers.Work
works_of sets (u ∷ us) (ts ∷ tss) =
    record { places = u; tasks = map (λ t. t.job.asked.batch) ts; groups = unit_groups sets u } ∷ works_of sets us tss
works_of sets _ _ = []

groups_are : (table : Layout) (jobs : List Job) → AddressTheirGroups table jobs
    → groups_each jobs ≡ map (task_groups table) (tasks_of jobs)
groups_are table [] a = refl
groups_are table (j ∷ js) a =
    ap (λ (g : List ℕ). g ∷ groups_each js) a.0
    ∙ ap (λ (l : List (List ℕ)). task_groups table j.asked.batch ∷ l) (groups_are table js a.1)

pub address_at : (table : Layout) (jobs : List Job) → AddressTheirGroups table jobs → (i : ℕ) (j : Job) → slice_get jobs i ≡ Some j
    → j.groups ≡ task_groups table j.asked.batch
address_at table [] a i j e = absurd (let k = e in cc)
address_at table (x ∷ jobs) a zero j e = subst (λ (v : Job). v.groups ≡ task_groups table v.asked.batch) (same_some x j e) a.0
address_at table (x ∷ jobs) a (suc i) j e = address_at table jobs a.1 i j e

-- each request of a unit has its groups
pub unit_jobs : (layer : List Job) (unit : List ℕ) → IsUnit (groups_each layer) unit
    → (is : List ℕ) (ts : List PlacedJob)
    → ((i : ℕ) → has is i ≡ true → has unit i ≡ true) → AllZip (IsJobOf layer) is ts
    → AllByRecursion (λ t. t.job.groups ≡ unit_groups (groups_each layer) unit) ts
unit_jobs layer unit is [] [] sub z = tt
unit_jobs layer unit is [] (t ∷ ts) sub z = absurd z
unit_jobs layer unit is (i ∷ js) [] sub z = absurd z
unit_jobs layer unit is (i ∷ js) (t ∷ ts) sub z = (
  sym (get_set layer i t.job z.0.at) ∙ has_unit_groups (groups_each layer) unit is i (sub i (or_left _ _ (eq-eqb i i refl))),
  unit_jobs layer unit is js ts (λ k there. sub k (or_right _ _ there)) z.1,
)

jobs_address : (table : Layout) (layer : List Job) → AddressTheirGroups table layer
    → (is : List ℕ) (ts : List PlacedJob)
    → AllZip (IsJobOf layer) is ts → AllByRecursion (λ t. t.job.groups ≡ task_groups table t.job.asked.batch) ts
jobs_address table layer a [] [] z = tt
jobs_address table layer a [] (t ∷ ts) z = absurd z
jobs_address table layer a (i ∷ is) [] z = absurd z
jobs_address table layer a (i ∷ is) (t ∷ ts) z =
    (address_at table layer a i t.job z.0.at, jobs_address table layer a is ts z.1)

pub are_ready : (table : Layout) (layer : List Job) → IsTable table → AddressTheirGroups table layer
    → (unit : List ℕ)
    (ts : List PlacedJob) (span : Span) → IsUnit (groups_each layer) unit → AllZip (IsJobOf layer) unit ts
    → numbers span ≡ unit_groups (groups_each layer) unit → SpanHasOwnKeys table span → AllByRecursion (λ t. IsReadyFor table t span) ts
are_ready table layer t a unit ts span is z ns own =
    each ts (unit_jobs layer unit is unit ts (λ i h. h) z) (jobs_address table layer a unit ts z)
  where
    each : (us : List PlacedJob) → AllByRecursion (λ u. u.job.groups ≡ unit_groups (groups_each layer) unit) us
        → AllByRecursion (λ u. u.job.groups ≡ task_groups table u.job.asked.batch) us → AllByRecursion (λ u. IsReadyFor table u span) us
    each [] g b = tt
    each (u ∷ us) g b = (record { is_table = t; groups = b.0; numbers = ns ∙ sym g.0; own = own }, each us g.1 b.1)

-- they are the units of the layer's tasks
pub are_works : (table : Layout) (layer : List Job) (units : List (List ℕ)) (tss : List (List PlacedJob))
    → AddressTheirGroups table layer → AreUnitsOf (groups_each layer) units → AllZip (AllZip (IsJobOf layer)) units tss
    → layers.AreWorksOf table (tasks_of layer) (works_of (groups_each layer) units tss)
are_works table layer units tss a of z = record {
  units = subst (λ sets. AreUnitsOf sets (map (λ (w : layers.Work). w.places) (works_of (groups_each layer) units tss)))
      (groups_are table layer a)
      (subst (AreUnitsOf (groups_each layer)) (sym (places units tss z)) of);
  stand = stand units tss z;
  groups = groups units tss (λ u i. i) z;
}
  where
    places : (us : List (List ℕ)) (xss : List (List PlacedJob)) → AllZip (AllZip (IsJobOf layer)) us xss
        → ◌≡◌ {A = List (List ℕ)} (map (λ (w : layers.Work). w.places) (works_of (groups_each layer) us xss)) us
    places [] [] z = refl
    places [] (xs ∷ xss) z = absurd z
    places (u ∷ us) [] z = absurd z
    places (u ∷ us) (xs ∷ xss) z = ap (λ (l : List (List ℕ)). u ∷ l) (places us xss z.1)

    tasks : (is : List ℕ) (ts : List PlacedJob) → AllZip (IsJobOf layer) is ts
        → AllZip (λ i t. slice_get (tasks_of layer) i ≡ Some t.job.asked.batch) is ts
    tasks is ts z = zip_map (IsJobOf layer) (λ i t. slice_get (tasks_of layer) i ≡ Some t.job.asked.batch)
        (λ i t of. get_map (λ (j : Job). j.asked.batch) layer i t.job of.at) is ts z

    stand : (us : List (List ℕ)) (xss : List (List PlacedJob)) → AllZip (AllZip (IsJobOf layer)) us xss → (w : layers.Work)
        → In w (works_of (groups_each layer) us xss) → layers.StandAt (tasks_of layer) w.places w.tasks
    stand [] xss z w there = absurd there
    stand (u ∷ us) [] z w there = absurd there
    stand (u ∷ us) (xs ∷ xss) z w (inl e) = subst (λ v. layers.StandAt (tasks_of layer) v.places v.tasks) (sym e)
        (stand_at (tasks_of layer) (λ t. t.job.asked.batch) u xs (tasks u xs z.0))
    stand (u ∷ us) (xs ∷ xss) z w (inr later) = stand us xss z.1 w later

    groups : (us : List (List ℕ)) (xss : List (List PlacedJob)) → ((u : List ℕ) → In u us → In u units)
        → AllZip (AllZip (IsJobOf layer)) us xss → (w : layers.Work) (c : Task)
        → In w (works_of (groups_each layer) us xss) → In c w.tasks → task_groups table c ≡ w.groups
    groups [] xss sub z w c there in_it = absurd there
    groups (u ∷ us) [] sub z w c there in_it = absurd there
    groups (u ∷ us) (xs ∷ xss) sub z w c (inl e) in_it = subst (λ v. task_groups table c ≡ v.groups) (sym e)
        (one xs (unit_jobs layer u (of.each u (sub u (inl refl))) u xs (λ i h. h) z.0) (jobs_address table layer a u xs z.0)
        (subst (λ v. In c v.tasks) e in_it))
      where
        one : (ts : List PlacedJob) → AllByRecursion (λ t. t.job.groups ≡ unit_groups (groups_each layer) u) ts
            → AllByRecursion (λ t. t.job.groups ≡ task_groups table t.job.asked.batch) ts → In c (map (λ t. t.job.asked.batch) ts)
            → task_groups table c ≡ unit_groups (groups_each layer) u
        one [] g b there = absurd there
        one (t ∷ ts) g b (inl e) = ap (task_groups table) e ∙ sym b.0 ∙ g.0
        one (t ∷ ts) g b (inr later) = one ts g.1 b.1 later
    groups (u ∷ us) (xs ∷ xss) sub z w c (inr later) in_it = groups us xss (λ x i. sub x (inr i)) z.1 w c later in_it

-- two units share no group
pub units_apart : (sets : List (List ℕ)) (u v : List ℕ) (us : List (List ℕ)) → IsUnit sets u → IsUnit sets v → AtMostOnce (concat (u ∷ us))
    → In v us → (g : ℕ) → has (unit_groups sets u) g ≡ true → has (unit_groups sets v) g ≡ true → ⊥
units_apart sets [] v us is_u is_v once there g here too = (let k = is_u.some in omega (arith, k))
units_apart sets (i ∷ u) [] us is_u is_v once there g here too = (let k = is_v.some in omega (arith, k))
units_apart sets (i ∷ u) (k ∷ v) us is_u is_v once there g here too =
    twice (i ∷ u) (is_u.whole i k g (or_left _ _ (eq-eqb i i refl)) here too) once
  where
    later : (xs : List (List ℕ)) → In (k ∷ v) xs → In k (concat xs)
    later [] there = absurd there
    later (x ∷ xs) (inl e) = subst (λ l. In k (l ++ concat xs)) e (inl refl)
    later (x ∷ xs) (inr more) = behind x (later xs more)
      where
        behind : (l : List ℕ) → In k (concat xs) → In k (l ++ concat xs)
        behind [] h = h
        behind (y ∷ l) h = inr (behind l h)

    behind : (l : List ℕ) → In k (concat us) → In k (l ++ concat us)
    behind [] h = h
    behind (y ∷ l) h = inr (behind l h)

    twice : (l : List ℕ) → has l k ≡ true → AtMostOnce (l ++ concat us) → ⊥
    twice [] h once = (let f = h in cc)
    twice (y ∷ l) h once = elim (or_cases (y == k) (has l k) h) [
      | inl e ↦ not_later y (l ++ concat us) once k (behind l (later us there)) (eqb-true y k e)
      | inr e ↦ twice l e (once_later y (l ++ concat us) once)
    ]
