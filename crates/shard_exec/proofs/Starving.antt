-- What each request of a layer meets on its shards, when the layer is run unit by unit: what one thread in the layer's
-- order has there.
use Rattle.std.proofs.Common.{◌≡◌, ℕ, zero, suc, ◌+◌, ◌<◌, ◌||◌, List, [], ◌∷◌, length, Bool, true, false, cond, Option, Some, None}
use Rattle.std.proofs.Common.{slice_get, slice_index_or, inl, inr, arith, refl, sym, ap, ◌∙◌, subst, eq-eqb, ne_eqb}
use Rattle.std.proofs.lemmas.Bool.{cases_eq, cases_Bool, both_ways, or_left, or_right}
use Rattle.std.specs.FinMap.{get}
use Rattle.groups.specs.GroupSet.{has, IsAscending}
use Rattle.groups.specs.Order.{In}
use Rattle.groups.specs.Skips.{names_whole, parts_of}
use Rattle.groups.specs.declared.skip_id.SkipId.{SkipId}
use Rattle.keyspace.proofs.Gets.{same, get-retain_keys}
use Rattle.keyspace.specs.Map.{Map}
use Rattle.layer_planner.specs.Units.{groups_at, IsUnit}
use Rattle.layer_planner.specs.declared.job.Job.{Job}
use Rattle.placement.specs.Layout.{Layout, IsTable, shard_of}
use Rattle.resp.specs.Content.{Content}
use Rattle.shards.proofs.Spans.{get-union-joined}
use Rattle.shards.specs.Joined.{joined, HasOwnKeys, union, span_at, Span}
use Rattle.shard_workers.specs.Runs.{HaveRunOver}
use Rattle.shard_workers.specs.PlacedJobs.{outcome, MapRan, HasRunOn}
use Rattle.shard_workers.specs.declared.placed_job.PlacedJob.{PlacedJob}
use Rattle.shard_workers.specs.declared.placed_job.JobRan.{JobRan}
use Rattle.tasks.specs.Tasks.{Task, task_groups, deed_effect, deed_of, task_takes_memory, MembersStarveRightly}
use Rattle.tasks.proofs.Within.{same_elsewhere, same_there}
use Rattle.shard_exec.specs.Layers.{AddressTheirGroups, on_groups, left_by, MayStarveInTurn, ended_of}
use Rattle.shard_exec.specs.declared.done.Ended.{Ended}
use Rattle.values.specs.declared.Value.{Value}

-- ---- what the shards of some groups have of a map

get-on_groups : (table : Layout) (gs : List ℕ) (m : Map) (q : List ℕ)
    → get (on_groups table gs m) q ≡ cond (has gs (shard_of table q)) (get m q) None
get-on_groups table gs m q = get-retain_keys m (λ key. has gs (shard_of table key)) q

-- the shards of these groups hold together what they have of the joined map
pub union-on_groups : (table : Layout) (maps : List Map) (gs : List ℕ) → HasOwnKeys table maps
    → union (span_at maps gs) ≡ on_groups table gs (joined maps)
union-on_groups table maps gs own = same (union (span_at maps gs)) (on_groups table gs (joined maps)) (λ q.
    get-union-joined table maps gs q own ∙ sym (get-on_groups table gs (joined maps) q))

cond_twice : (b : Bool) (o : Option Value) → cond b o None ≡ cond b (cond b o None) None
cond_twice true o = refl
cond_twice false o = refl

module _ (table : Layout) (c : Task) (m : Map) (is_table : IsTable table) where
  abbrev own_part : Map
  own_part = on_groups table (task_groups table c) m

  is_part : (q : List ℕ) → get own_part q ≡ cond (has (task_groups table c) (shard_of table q)) (get m q) None
  is_part q = get-on_groups table (task_groups table c) m q

  of_itself : (q : List ℕ) → get own_part q ≡ cond (has (task_groups table c) (shard_of table q)) (get own_part q) None
  of_itself q = is_part q ∙ cond_twice (has (task_groups table c) (shard_of table q)) (get m q)
      ∙ ap (λ o. cond (has (task_groups table c) (shard_of table q)) o None) (sym (is_part q))

  -- a task leaves on its own shards what it leaves of what they have
  pub left-own : (o : Option Content) → on_groups table (task_groups table c) (left_by c m o) ≡ left_by c own_part o
  left-own None = refl
  left-own (Some reply) = same _ _ (λ q. get-on_groups table (task_groups table c) (deed_effect (deed_of c reply) m).0 q ∙ at_key q)
    where
      at_key : (q : List ℕ) → cond (has (task_groups table c) (shard_of table q)) (get (deed_effect (deed_of c reply) m).0 q) None
          ≡ get (deed_effect (deed_of c reply) own_part).0 q
      at_key q = elim (has (task_groups table c) (shard_of table q)) as (λ b. has (task_groups table c) (shard_of table q) ≡ b
          → cond b (get (deed_effect (deed_of c reply) m).0 q) None ≡ get (deed_effect (deed_of c reply) own_part).0 q) [
            | true ↦ λ there. sym (same_there table (deed_of c reply) m own_part is_table is_part q there)
            | false ↦ λ away. sym (same_elsewhere table (deed_of c reply) own_part own_part is_table of_itself q away
                ∙ is_part q ∙ ap (λ b. cond b (get m q) None) away)
          ] refl

  -- and nothing else on shards of groups that it doesn't address
  pub left-other : (gs : List ℕ) → ((g : ℕ) → has gs g ≡ true → has (task_groups table c) g ≡ true → ⊥) → (o : Option Content)
      → on_groups table gs (left_by c m o) ≡ on_groups table gs m
  left-other gs apart None = refl
  left-other gs apart (Some reply) = same _ _ (λ q.
      get-on_groups table gs (deed_effect (deed_of c reply) m).0 q ∙ at_key q ∙ sym (get-on_groups table gs m q))
    where
      at_key : (q : List ℕ) → cond (has gs (shard_of table q)) (get (deed_effect (deed_of c reply) m).0 q) None
          ≡ cond (has gs (shard_of table q)) (get m q) None
      at_key q = elim (has gs (shard_of table q)) as (λ b. has gs (shard_of table q) ≡ b
          → cond b (get (deed_effect (deed_of c reply) m).0 q) None ≡ cond b (get m q) None) [
            | true ↦ λ there. same_elsewhere table (deed_of c reply) m own_part is_table is_part q
                (elim (cases_Bool (has (task_groups table c) (shard_of table q))) [
                  | inl here ↦ absurd (apart (shard_of table q) there here)
                  | inr away ↦ away
                ])
            | false ↦ λ _. refl
          ] refl

-- ---- the requests of a unit, along the layer

-- the request starves only where it may, on this map
pub record StarvesOn (skip : List SkipId) (j : Job) (e : Ended) (u : Map) : Type 0 where
  pub skipped : names_whole skip j.id ≡ true → outcome e.reply ≡ None
  pub starved : names_whole skip j.id ≡ false → outcome e.reply ≡ None → task_takes_memory j.asked.batch u
  pub members : (reply : Content) → outcome e.reply ≡ Some reply → MembersStarveRightly (parts_of skip j.id) j.asked.batch u reply

abbrev next_map : Bool → Job → Ended → Map → Map
next_map b j e u = cond b (left_by j.asked.batch u (outcome e.reply)) u

-- from the n-th place of the layer on: each request of the unit on what those of the unit before it left
abbrev pub StarveAlong : List SkipId → List ℕ → ℕ → List Job → List Ended → Map → Type 0
StarveAlong skip unit n [] es u = Unit {0}
StarveAlong skip unit n (j ∷ js) [] u = Unit {0}
StarveAlong skip unit n (j ∷ js) (e ∷ es) u =
    (has unit n ≡ true → StarvesOn skip j e u) × StarveAlong skip unit (suc n) js es (next_map (has unit n) j e u)

abbrev pub unit_groups : List (List ℕ) → List ℕ → List ℕ
unit_groups sets unit = groups_at sets (slice_index_or unit 0 0)

-- all places of a unit have its groups
pub has_unit_groups : (sets : List (List ℕ)) (unit : List ℕ) → IsUnit sets unit → (n : ℕ) → has unit n ≡ true
    → groups_at sets n ≡ unit_groups sets unit
has_unit_groups sets [] is n there = absurd (let k = is.some in omega (arith, k))
has_unit_groups sets (i ∷ unit) is n there = is.alike n i there (or_left _ _ (eq-eqb i i refl))

-- so each request of the layer starves only where it may
pub starve_turns : (table : Layout) (skip : List SkipId) (sets units : List (List ℕ)) → IsTable table
    → ((unit : List ℕ) → In unit units → IsUnit sets unit)
    → ((i : ℕ) → i < length sets → (unit : List ℕ) × In unit units × (has unit i ≡ true))
    → (n : ℕ) (js : List Job) (es : List Ended) (m : Map)
    → ((k : ℕ) (j : Job) → slice_get js k ≡ Some j → (groups_at sets (n + k) ≡ j.groups) × (n + k < length sets))
    → length es ≡ length js → AddressTheirGroups table js
    → ((unit : List ℕ) → In unit units → StarveAlong skip unit n js es (on_groups table (unit_groups sets unit) m))
    → MayStarveInTurn table m skip js es
starve_turns table skip sets units t each all n [] [] m at long address along = tt
starve_turns table skip sets units t each all n [] (e ∷ es) m at long address along = absurd (omega (arith, long))
starve_turns table skip sets units t each all n (j ∷ js) [] m at long address along = absurd (omega (arith, long))
starve_turns table skip sets units t each all n (j ∷ js) (e ∷ es) m at long address along = (
  record {
    skipped = here.skipped;
    starved = here.starved;
    members = here.members;
  },
  starve_turns table skip sets units t each all (suc n) js es (left_by j.asked.batch m (outcome e.reply)) later
      (omega (arith, long)) address.1
      (λ unit i. subst (StarveAlong skip unit (suc n) js es) (sym (moves unit i)) (along unit i).1),
)
  where
    at_n : (groups_at sets n ≡ j.groups) × (n < length sets)
    at_n = (let z : n + 0 ≡ n = omega arith in
        (ap (groups_at sets) (sym z) ∙ (at 0 j refl).0, subst (λ k. k < length sets) z (at 0 j refl).1))

    here : StarvesOn skip j e (on_groups table j.groups m)
    here =
        let u = all n at_n.1 in
        subst (λ gs. StarvesOn skip j e (on_groups table gs m)) (sym (has_unit_groups sets u.0 (each u.0 u.1) n u.2) ∙ at_n.0)
        ((along u.0 u.1).0 u.2)

    later : (k : ℕ) (i : Job) → slice_get js k ≡ Some i → (groups_at sets (suc n + k) ≡ i.groups) × (suc n + k < length sets)
    later k i e = (let z : n + suc k ≡ suc n + k = omega arith in
        (ap (groups_at sets) (sym z) ∙ (at (suc k) i e).0, subst (λ x. x < length sets) z (at (suc k) i e).1))

    moves : (unit : List ℕ) (i : In unit units) → on_groups table (unit_groups sets unit) (left_by j.asked.batch m (outcome e.reply))
        ≡ next_map (has unit n) j e (on_groups table (unit_groups sets unit) m)
    moves unit i = elim (has unit n) as (λ b. has unit n ≡ b
        → on_groups table (unit_groups sets unit) (left_by j.asked.batch m (outcome e.reply))
        ≡ next_map b j e (on_groups table (unit_groups sets unit) m)) [
          | true ↦ λ there.
              let is : task_groups table j.asked.batch ≡ unit_groups sets unit =
              sym (at_n.0 ∙ address.0) ∙ has_unit_groups sets unit (each unit i) n there in
              subst (λ gs. on_groups table gs (left_by j.asked.batch m (outcome e.reply))
              ≡ left_by j.asked.batch (on_groups table gs m) (outcome e.reply)) is
              (left-own table j.asked.batch m t (outcome e.reply))
          | false ↦ λ away. left-other table j.asked.batch m t (unit_groups sets unit) (apart away) (outcome e.reply)
        ] refl
      where
        apart : has unit n ≡ false → (g : ℕ) → has (unit_groups sets unit) g ≡ true → has (task_groups table j.asked.batch) g ≡ true → ⊥
        apart away g there its = first unit (each unit i) away there
          where
            first : (unit : List ℕ) → IsUnit sets unit → has unit n ≡ false → has (unit_groups sets unit) g ≡ true → ⊥
            first [] is out has_it = (let k = is.some in omega (arith, k))
            first (p ∷ unit) is out has_it = both_ways _ out
                (is.whole p n g (or_left _ _ (eq-eqb p p refl)) has_it (ap (λ gs. has gs g) (at_n.0 ∙ address.0) ∙ its))

-- ---- from the order of the unit

-- x stands in the list, which begins with the n-th place, at the place i
abbrev pub StandsAt : {X : Type 0} → ℕ → List X → ℕ → X → Type 0
StandsAt n xs i x = (k : ℕ) × (i ≡ n + k) × (slice_get xs k ≡ Some x)

at_first : {X : Type 0} (n : ℕ) (y : X) (xs : List X) (x : X) → StandsAt n (y ∷ xs) n x → y ≡ x
at_first n y xs x (zero, is, e) = (let f = e in cc)
at_first n y xs x (suc k, is, e) = absurd (omega (arith, is))

at_later : {X : Type 0} (n : ℕ) (y : X) (xs : List X) (i : ℕ) (x : X) → StandsAt n (y ∷ xs) i x → n < i → StandsAt (suc n) xs i x
at_later n y xs i x (zero, is, e) above = absurd (omega (arith, is, above))
at_later n y xs i x (suc k, is, e) above = (k, omega (arith, is), e)

-- at these places stand these requests, and what is told of them
abbrev pub Items : ℕ → List Job → List Ended → List ℕ → List PlacedJob → List JobRan → Type 0
Items n js es [] [] [] = Unit {0}
Items n js es (i ∷ is) (t ∷ ts) (r ∷ rs) =
    (StandsAt n js i t.job × StandsAt n es i (ended_of r)) × Items n js es is ts rs
Items n js es _ _ _ = ⊥

-- each was run on the map that those before it left
abbrev pub HaveRunOn : List SkipId → List PlacedJob → Map → List JobRan → Type 0
HaveRunOn skip [] u [] = Unit {0}
HaveRunOn skip (t ∷ ts) u (r ∷ rs) = (mid : Map) × HasRunOn skip t u r mid × HaveRunOn skip ts mid rs
HaveRunOn skip _ u _ = ⊥

pub run_on : (table : Layout) (skip : List SkipId) (ts : List PlacedJob) (rs : List JobRan) (before after : Span)
    → HaveRunOver table skip ts before rs after
    → HaveRunOn skip ts (union before) rs
run_on table skip [] [] before after run = tt
run_on table skip [] (r ∷ rs) before after run = absurd run
run_on table skip (t ∷ ts) [] before after run = absurd run
run_on table skip (t ∷ ts) (r ∷ rs) before after run = (union run.0, run.1.on, run_on table skip ts rs run.0 after run.2)

items_later : (n : ℕ) (j : Job) (js : List Job) (e : Ended) (es : List Ended) (is : List ℕ) (ts : List PlacedJob)
    (rs : List JobRan) → ((i : ℕ) → has is i ≡ true → n < i) → Items n (j ∷ js) (e ∷ es) is ts rs → Items (suc n) js es is ts rs
items_later n j js e es [] [] [] above z = tt
items_later n j js e es [] [] (r ∷ rs) above z = absurd z
items_later n j js e es [] (t ∷ ts) rs above z = absurd z
items_later n j js e es (i ∷ is) [] rs above z = absurd z
items_later n j js e es (i ∷ is) (t ∷ ts) [] above z = absurd z
items_later n j js e es (i ∷ is) (t ∷ ts) (r ∷ rs) above z =
    let up = above i (or_left _ _ (eq-eqb i i refl)) in (
      (at_later n j js i t.job z.0.0 up, at_later n e es i (ended_of r) z.0.1 up),
      items_later n j js e es is ts rs (λ k there. above k (or_right _ _ there)) z.1,
    )

-- what a request left
left_is : (skip : List SkipId) (t : PlacedJob) (u : Map) (r : JobRan) (mid : Map) → HasRunOn skip t u r mid →
    mid ≡ left_by t.job.asked.batch u (outcome r.reply)
left_is skip t u r mid run = by_outcome (outcome r.reply) run.ran
  where
    by_outcome : (o : Option Content) → MapRan t.job.asked.batch u o mid → mid ≡ left_by t.job.asked.batch u o
    by_outcome None ran = ran
    by_outcome (Some reply) ran = ap (λ p. p.0) ran

-- the same from the next place on, for whatever is left of the unit
abbrev Again : List SkipId → List ℕ → ℕ → List Job → List Ended → Type 0
Again skip unit n js es = (is : List ℕ) (ts : List PlacedJob) (rs : List JobRan) (v : Map)
    → ((k : ℕ) → has unit (suc n + k) ≡ has is (suc n + k)) → IsAscending is → ((i : ℕ) → has is i ≡ true → suc n < suc i)
    → Items (suc n) js es is ts rs → HaveRunOn skip ts v rs → StarveAlong skip unit (suc n) js es v

pub starve_along : (skip : List SkipId) (unit : List ℕ) (n : ℕ) (js : List Job) (es : List Ended) (is : List ℕ) (ts : List PlacedJob)
    (rs : List JobRan) (u : Map)
    → ((k : ℕ) → has unit (n + k) ≡ has is (n + k)) → IsAscending is → ((i : ℕ) → has is i ≡ true → n < suc i)
    → Items n js es is ts rs → HaveRunOn skip ts u rs → StarveAlong skip unit n js es u
starve_along skip unit n [] es is ts rs u same_has up above items run = tt
starve_along skip unit n (j ∷ js) [] is ts rs u same_has up above items run = tt
starve_along skip unit n (j ∷ js) (e ∷ es) is ts rs u same_has up above items run =
    by_first (λ is ts rs v same_has up above items run. starve_along skip unit (suc n) js es is ts rs v same_has up above items run)
    is ts rs same_has up above items run
  where
    here : (is : List ℕ) → ((k : ℕ) → has unit (n + k) ≡ has is (n + k)) → has unit n ≡ has is n
    here is same_has = (let z : n + 0 ≡ n = omega arith in subst (λ x. has unit x ≡ has is x) z (same_has 0))

    -- where the unit's next place isn't this one
    skips : Again skip unit n js es → (is : List ℕ) (ts : List PlacedJob) (rs : List JobRan)
        → ((k : ℕ) → has unit (n + k) ≡ has is (n + k)) → IsAscending is
        → ((i : ℕ) → has is i ≡ true → n < i) → Items n (j ∷ js) (e ∷ es) is ts rs → HaveRunOn skip ts u rs
        → StarveAlong skip unit n (j ∷ js) (e ∷ es) u
    skips again is ts rs same_has up above items run =
        let out_of : has is n ≡ false =
        (elim (cases_Bool (has is n)) [ inl there ↦ absurd (let k = above n there in omega (arith, k)) | inr away ↦ away ]) in
        let out : has unit n ≡ false = here is same_has ∙ out_of in (
          λ there. absurd (both_ways _ out there),
          subst (λ b. StarveAlong skip unit (suc n) js es (next_map b j e u)) (sym out)
              (again is ts rs u
              (λ k. (let z : n + suc k ≡ suc n + k = omega arith in subst (λ x. has unit x ≡ has is x) z (same_has (suc k))))
              up (λ i there. (let k = above i there in omega (arith, k))) (items_later n j js e es is ts rs above items) run),
        )

    first_is : (i : ℕ) (is : List ℕ) → (i ≡ n → ⊥) → IsAscending (i ∷ is) → n < suc i → (k : ℕ) → has (i ∷ is) k ≡ true → n < k
    first_is i is other up low k there = elim (cases_eq i k) [
      | inl e ↦ subst (λ x. n < x) e (strict n i low (λ x. other (sym x)))
      | inr ne ↦ (let h = up.0 k (not_first ne there) in omega (arith, low, h))
    ]
      where
        not_first : (i ≡ k → ⊥) → has (i ∷ is) k ≡ true → has is k ≡ true
        not_first ne there = ap (λ b. b || has is k) (sym (ne_eqb i k ne)) ∙ there

        strict : (a b : ℕ) → a < suc b → (a ≡ b → ⊥) → a < b
        strict a b low ne = omega (arith, low, ne)

    takes : Again skip unit n js es → (i : ℕ) (is : List ℕ) (t : PlacedJob) (ts : List PlacedJob) (r : JobRan) (rs : List JobRan)
        → ((k : ℕ) → has unit (n + k) ≡ has (i ∷ is) (n + k)) → IsAscending (i ∷ is)
        → Items n (j ∷ js) (e ∷ es) (i ∷ is) (t ∷ ts) (r ∷ rs) → HaveRunOn skip (t ∷ ts) u (r ∷ rs) → i ≡ n
        → StarveAlong skip unit n (j ∷ js) (e ∷ es) u
    takes again i is t ts r rs same_has up items run at =
        let job : j ≡ t.job = at_first n j js t.job (subst (λ x. StandsAt n (j ∷ js) x t.job) at items.0.0) in
        let told : e ≡ ended_of r = at_first n e es (ended_of r) (subst (λ x. StandsAt n (e ∷ es) x (ended_of r)) at items.0.1) in
        let there : has unit n ≡ true = here (i ∷ is) same_has ∙ or_left _ _ (eq-eqb i n at) in
        let reply : outcome e.reply ≡ outcome r.reply = ap (λ (x : Ended). outcome x.reply) told in
        let named : names_whole skip t.job.id ≡ names_whole skip j.id = ap (λ (x : Job). names_whole skip x.id) (sym job) in
        let left : run.0 ≡ next_map true j e u =
        left_is skip t u r run.0 run.1 ∙ ap (λ (x : Job). left_by x.asked.batch u (outcome r.reply)) (sym job)
        ∙ ap (left_by j.asked.batch u) (sym reply) in (
          λ _. record {
            skipped = λ is_skipped. reply ∙ run.1.skipped (named ∙ is_skipped);
            starved = λ passed none. subst (λ (x : Job). task_takes_memory x.asked.batch u) (sym job)
                (run.1.starved (named ∙ passed) (sym reply ∙ none));
            members = λ told_so is. subst (λ (x : Job). MembersStarveRightly (parts_of skip x.id) x.asked.batch u told_so) (sym job)
                (run.1.members told_so (sym reply ∙ is));
          },
          subst (λ b. StarveAlong skip unit (suc n) js es (next_map b j e u)) (sym there)
              (subst (StarveAlong skip unit (suc n) js es) left
              (again is ts rs run.0 rest up.1 (λ k there. (let h = up.0 k there in omega (arith, at, h)))
              (items_later n j js e es is ts rs (λ k there. (let h = up.0 k there in omega (arith, at, h))) items.1) run.2)),
        )
      where
        rest : (k : ℕ) → has unit (suc n + k) ≡ has is (suc n + k)
        rest k =
            let z : n + suc k ≡ suc n + k = omega arith in
            let ne : i ≡ suc n + k → ⊥ = λ x. absurd (omega (arith, at, x)) in
            subst (λ x. has unit x ≡ has (i ∷ is) x) z (same_has (suc k)) ∙ ap (λ b. b || has is (suc n + k)) (ne_eqb i (suc n + k) ne)

    by_first : Again skip unit n js es → (is : List ℕ) (ts : List PlacedJob) (rs : List JobRan)
        → ((k : ℕ) → has unit (n + k) ≡ has is (n + k)) → IsAscending is
        → ((i : ℕ) → has is i ≡ true → n < suc i) → Items n (j ∷ js) (e ∷ es) is ts rs → HaveRunOn skip ts u rs
        → StarveAlong skip unit n (j ∷ js) (e ∷ es) u
    by_first again [] [] [] same_has up above items run =
        skips again [] [] [] same_has up (λ i there. absurd (let k = there in cc)) items run
    by_first again [] [] (r ∷ rs) same_has up above items run = absurd items
    by_first again [] (t ∷ ts) rs same_has up above items run = absurd items
    by_first again (i ∷ is) [] rs same_has up above items run = absurd items
    by_first again (i ∷ is) (t ∷ ts) [] same_has up above items run = absurd items
    by_first again (i ∷ is) (t ∷ ts) (r ∷ rs) same_has up above items run = elim (cases_eq i n) [
      | inl at ↦ takes again i is t ts r rs same_has up items run at
      | inr other ↦ skips again (i ∷ is) (t ∷ ts) (r ∷ rs) same_has up
          (first_is i is other up (above i (or_left _ _ (eq-eqb i i refl)))) items run
    ]
