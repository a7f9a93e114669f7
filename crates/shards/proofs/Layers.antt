-- A layer's tasks, run in units, each unit over its own shards, are run one after another on the joined map.
use Rattle.std.proofs.Common.{◌≡◌, ℕ, zero, suc, ◌==◌, nat_eq, List, [], ◌∷◌, true, false, cond, Option, Some, None, inl, inr, refl}
use Rattle.std.proofs.Common.{sym, ap, ◌∙◌, subst, arith, eq-eqb}
use Rattle.std.proofs.lemmas.Bool.{cases_Bool, both_ways, or_parts, and_from}
use Rattle.std.specs.Cmp.Lexicographic.{pointwise, same_text}
use Rattle.std.specs.FinMap.{get, empty}
use Rattle.tasks.proofs.Turns.{pair}
use Rattle.groups.specs.GroupSet.{has, IsAscending}
use Rattle.groups.specs.Order.{In}
use Rattle.keyspace.proofs.Gets.{same}
use Rattle.keyspace.specs.Map.{Map}
use Rattle.placement.specs.Layout.{Layout, IsTable, shard_of}
use Rattle.resp.specs.Content.{Content}
use Rattle.tasks.specs.Tasks.{Task, task_groups, deed_effect, deed_of, deeds_in_turn}
use Rattle.tasks.proofs.Groups.{IsAscending-task_groups}
use Rattle.shards.proofs.Joins.{get-joined}
use Rattle.shards.proofs.Rows.{picked-alike}
use Rattle.shards.proofs.Spans.{numbers-span_at, numbers-SpanRan}
use Rattle.shards.proofs.Steps.{at_member, span_is_joined}
use Rattle.shards.proofs.MapUnions.{not_again}
use Rattle.shards.specs.Joined.{joined, map_of_shard, HasKeysOf, HasOwnKeys, Span, numbers, span_at, SpanRan}
use Rattle.shards.specs.Layer.{MeetAlike, UnitRan, tasks_with, outcomes_with, LayerRan, AnsweredInTurn, executed_of, replies_of}

-- ---- a row with a span put in its places, however long the row is

set_at : List Map → ℕ → Map → List Map
set_at [] zero x = x ∷ []
set_at [] (suc n) x = empty ∷ set_at [] n x
set_at (m ∷ ms) zero x = x ∷ ms
set_at (m ∷ ms) (suc n) x = m ∷ set_at ms n x

at-set : (ms : List Map) (n : ℕ) (x : Map) → map_of_shard (set_at ms n x) n ≡ x
unfolding set_at
at-set [] zero x = refl
at-set [] (suc n) x = at-set [] n x
at-set (m ∷ ms) zero x = refl
at-set (m ∷ ms) (suc n) x = at-set ms n x

at-set_other : (ms : List Map) (n g : ℕ) (x : Map) → (n ≡ g → ⊥) → map_of_shard (set_at ms n x) g ≡ map_of_shard ms g
unfolding set_at
at-set_other [] zero zero x apart = absurd (apart refl)
at-set_other [] zero (suc g) x apart = refl
at-set_other [] (suc n) zero x apart = refl
at-set_other [] (suc n) (suc g) x apart = at-set_other [] n g x (λ e. apart (ap suc e))
at-set_other (m ∷ ms) zero zero x apart = absurd (apart refl)
at-set_other (m ∷ ms) zero (suc g) x apart = refl
at-set_other (m ∷ ms) (suc n) zero x apart = refl
at-set_other (m ∷ ms) (suc n) (suc g) x apart = at-set_other ms n g x (λ e. apart (ap suc e))

with_span : List Map → Span → List Map
with_span row [] = row
with_span row (s ∷ ss) = set_at (with_span row ss) s.0 s.1

with_span-away : (row : List Map) (span : Span) (g : ℕ) → has (numbers span) g ≡ false
    → map_of_shard (with_span row span) g ≡ map_of_shard row g
unfolding with_span
with_span-away row [] g away = refl
with_span-away row (s ∷ ss) g away =
    let parts = or_parts (s.0 == g) (has (numbers ss) g) away in
    at-set_other (with_span row ss) s.0 g s.1 (λ e. both_ways _ parts.0 (eq-eqb s.0 g e)) ∙ with_span-away row ss g parts.1

-- and the span is there
span_at-with : (row : List Map) (span : Span) → IsAscending (numbers span) → span_at (with_span row span) (numbers span) ≡ span
unfolding with_span
span_at-with row [] up = refl
span_at-with row (s ∷ ss) up =
    ap (λ m. (s.0, m) ∷ span_at (with_span row (s ∷ ss)) (numbers ss)) (at-set (with_span row ss) s.0 s.1)
    ∙ ap (λ (l : Span). s ∷ l) (picked-alike empty (with_span row (s ∷ ss)) (with_span row ss) (numbers ss) (λ g there.
    at-set_other (with_span row ss) s.0 g s.1 (λ e. both_ways _ (not_again s.0 (numbers ss) up) (ap (has (numbers ss)) e ∙ there)))
    ∙ span_at-with row ss up.1)

-- shards that are all the same are the same together
pub joined-alike : (table : Layout) (ms ns : List Map) → HasOwnKeys table ms → HasOwnKeys table ns
    → ((g : ℕ) → map_of_shard ns g ≡ map_of_shard ms g) → joined ns ≡ joined ms
joined-alike table ms ns own own' alike =
    same (joined ns) (joined ms)
    (λ q. get-joined table ns q own' ∙ ap (λ m. get m q) (alike (shard_of table q)) ∙ sym (get-joined table ms q own))

-- ---- the tasks of a unit

pub groups_same : (gs : List ℕ) → pointwise nat_eq gs gs ≡ true
groups_same [] = refl
groups_same (g ∷ gs) = and_from (g == g) (pointwise nat_eq gs gs) (eq-eqb g g refl) (groups_same gs)

-- a task that addresses a shard where no other one does is alone in its unit
none_with : (table : Layout) (gs : List ℕ) (g : ℕ) (cs : List Task) → has gs g ≡ true
    → ((d : Task) → In d cs → has (task_groups table d) g ≡ false) → tasks_with table gs cs ≡ []
none_with table gs g [] here away = refl
none_with table gs g (d ∷ ds) here away = elim (cases_Bool (pointwise nat_eq (task_groups table d) gs)) [
  | inl e ↦ absurd (both_ways _ (away d (inl refl)) (subst (λ l. has l g ≡ true) (sym (same_text (task_groups table d) gs (sym e))) here))
  | inr e ↦ ap (λ b. cond b (d ∷ tasks_with table gs ds) (tasks_with table gs ds)) e
      ∙ none_with table gs g ds here (λ c i. away c (inr i))
]

none_ran : (table : Layout) (before after : Span) (os : List (Option Content)) → UnitRan table [] before os after → after ≡ before
none_ran table before after [] ran = ran
none_ran table before after (o ∷ os) ran = absurd ran

-- ---- one task after another

module _ (table : Layout) (old new : List Map) (c : Task) (cs : List Task) (o : Option Content) (os : List (Option Content))
    (alike : MeetAlike table (c ∷ cs)) (ran : LayerRan table old (c ∷ cs) (o ∷ os) new) where
  abbrev gs : List ℕ
  gs = task_groups table c

  -- of those that address just these groups it is the first
  first : (s : Span) × SpanRan table c (span_at old gs) o s
      × UnitRan table (tasks_with table gs cs) s (outcomes_with table gs cs os) (span_at new gs)
  first = subst (λ b. UnitRan table (cond b (c ∷ tasks_with table gs cs) (tasks_with table gs cs)) (span_at old gs)
      (cond b (o ∷ outcomes_with table gs cs os) (outcomes_with table gs cs os)) (span_at new gs)) (groups_same gs) (ran.each c (inl refl))

  its_numbers : numbers first.0 ≡ gs
  its_numbers = numbers-SpanRan table c (span_at old gs) first.0 o first.1 ∙ numbers-span_at old gs

  -- the shards once it was run
  mid : List Map
  mid = with_span old first.0

  mid_span : span_at mid gs ≡ first.0
  unfolding mid
  mid_span = ap (span_at (with_span old first.0)) (sym its_numbers)
      ∙ span_at-with old first.0 (subst IsAscending (sym its_numbers) (IsAscending-task_groups table c))

  mid_away : (g : ℕ) → has gs g ≡ false → map_of_shard mid g ≡ map_of_shard old g
  unfolding mid
  mid_away g away = with_span-away old first.0 g (ap (λ l. has l g) its_numbers ∙ away)

  mid_ran : SpanRan table c (span_at old gs) o (span_at mid gs)
  mid_ran = subst (SpanRan table c (span_at old gs) o) (sym mid_span) first.1

  behind : UnitRan table (tasks_with table gs cs) (span_at mid gs) (outcomes_with table gs cs os) (span_at new gs)
  behind = subst (λ s. UnitRan table (tasks_with table gs cs) s (outcomes_with table gs cs os) (span_at new gs)) (sym mid_span) first.2

  each : (d : Task) → In d cs → UnitRan table (tasks_with table (task_groups table d) cs) (span_at mid (task_groups table d))
      (outcomes_with table (task_groups table d) cs os) (span_at new (task_groups table d))
  each d i = elim (cases_Bool (pointwise nat_eq gs (task_groups table d))) [
    | inl e ↦ subst (λ hs. UnitRan table (tasks_with table hs cs) (span_at mid hs) (outcomes_with table hs cs os) (span_at new hs))
        (same_text gs (task_groups table d) (sym e)) behind
    | inr e ↦
        subst (λ s. UnitRan table (tasks_with table (task_groups table d) cs) s (outcomes_with table (task_groups table d) cs os)
        (span_at new (task_groups table d)))
        (picked-alike empty old mid (task_groups table d) (λ g there. sym (mid_away g
        (elim (cases_Bool (has gs g)) as (λ _. has gs g ≡ false) [
          | inl here ↦ absurd (both_ways _ e (subst (λ l. pointwise nat_eq gs l ≡ true) (alike c d g (inl refl) (inr i) here there)
              (groups_same gs)))
          | inr none ↦ none
        ]))))
        (subst (λ b. UnitRan table
        (cond b (c ∷ tasks_with table (task_groups table d) cs) (tasks_with table (task_groups table d) cs))
        (span_at old (task_groups table d))
        (cond b (o ∷ outcomes_with table (task_groups table d) cs os) (outcomes_with table (task_groups table d) cs os))
        (span_at new (task_groups table d))) e (ran.each d (inr i)))
  ]

  others : (shard : ℕ) → ((d : Task) → In d cs → has (task_groups table d) shard ≡ false) → map_of_shard new shard ≡ map_of_shard mid shard
  others shard away = elim (cases_Bool (has gs shard)) [
    | inl here ↦
        at_member (map_of_shard new) (map_of_shard mid) gs shard
        (none_ran table (span_at mid gs) (span_at new gs) (outcomes_with table gs cs os)
        (subst (λ l. UnitRan table l (span_at mid gs) (outcomes_with table gs cs os) (span_at new gs))
        (none_with table gs shard cs here away) behind))
        here
    | inr none ↦ ran.others shard (λ d. elim [
      | inl e ↦ subst (λ (x : Task). has (task_groups table x) shard ≡ false) (sym e) none
      | inr i ↦ away d i
    ]) ∙ sym (mid_away shard none)
  ]

  rest_ran : LayerRan table mid cs os new
  rest_ran = let long = ran.as_many in record { as_many = omega (arith, long); each = each; others = others }

  rest_alike : MeetAlike table cs
  rest_alike d e g i j = alike d e g (inr i) (inr j)

pub layer_in_turn : (table : Layout) (old new : List Map) (layer : List Task) (outcomes : List (Option Content)) → IsTable table
    → HasOwnKeys table old
    → MeetAlike table layer → LayerRan table old layer outcomes new
    → AnsweredInTurn (joined old) layer outcomes (joined new) × HasOwnKeys table new
layer_in_turn table old new [] [] is_table own meet ran =
    let alike : (g : ℕ) → map_of_shard new g ≡ map_of_shard old g = (λ g. ran.others g (λ c i. absurd i)) in
    let own' : HasOwnKeys table new = (λ g. subst (HasKeysOf table g) (sym (alike g)) (own g)) in
    (joined-alike table old new own own' alike, own')
layer_in_turn table old new [] (o ∷ os) is_table own meet ran = let long = ran.as_many in absurd (omega (arith, long))
layer_in_turn table old new (c ∷ cs) [] is_table own meet ran = let long = ran.as_many in absurd (omega (arith, long))
layer_in_turn table old new (c ∷ cs) (None ∷ os) is_table own meet ran =
    let rest = layer_in_turn table between new cs os is_table own' (rest_alike table old new c cs None os meet ran)
    (rest_ran table old new c cs None os meet ran) in
    (subst (λ m. AnsweredInTurn m cs os (joined new)) (joined-alike table old between own own' alike) rest.0, rest.1)
  where
    between : List Map
    between = mid table old new c cs None os meet ran

    alike : (g : ℕ) → map_of_shard between g ≡ map_of_shard old g
    alike g = elim (cases_Bool (has (task_groups table c) g)) [
      | inl there ↦ at_member (map_of_shard between) (map_of_shard old) (task_groups table c) g
          (mid_ran table old new c cs None os meet ran) there
      | inr away ↦ mid_away table old new c cs None os meet ran g away
    ]

    own' : HasOwnKeys table between
    own' g = subst (HasKeysOf table g) (sym (alike g)) (own g)
layer_in_turn table old new (c ∷ cs) (Some reply ∷ os) is_table own meet ran =
    let step = span_is_joined table old (mid table old new c cs (Some reply) os meet ran) c reply is_table own
    (mid_ran table old new c cs (Some reply) os meet ran) (mid_away table old new c cs (Some reply) os meet ran) in
    let rest = layer_in_turn table (mid table old new c cs (Some reply) os meet ran) new cs os is_table step.1
    (rest_alike table old new c cs (Some reply) os meet ran) (rest_ran table old new c cs (Some reply) os meet ran) in
    ((ap (λ r. r.1) step.0, subst (λ m. AnsweredInTurn m cs os (joined new)) (ap (λ r. r.0) step.0) rest.0), rest.1)

-- those that starved leave no trace
pub starved_leave_no_trace : (old new : Map) (tasks : List Task) (outcomes : List (Option Content))
    → AnsweredInTurn old tasks outcomes new
    → (new, replies_of outcomes) ≡ deeds_in_turn old (executed_of tasks outcomes)
starved_leave_no_trace old new [] [] h = ap (λ m. (m, [])) h
starved_leave_no_trace old new [] (o ∷ os) h = absurd h
starved_leave_no_trace old new (c ∷ cs) [] h = absurd h
starved_leave_no_trace old new (c ∷ cs) (None ∷ os) h = starved_leave_no_trace old new cs os h
starved_leave_no_trace old new (c ∷ cs) (Some reply ∷ os) h =
    let rest = starved_leave_no_trace (deed_effect (deed_of c reply) old).0 new cs os h.1 in
    pair _ _ _ _ (ap (λ r. r.0) rest)
    (ap (λ r. r ∷ replies_of os) h.0 ∙ ap (λ l. (deed_effect (deed_of c reply) old).1 ∷ l) (ap (λ r. r.1) rest))
