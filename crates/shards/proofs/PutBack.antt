-- The shards of a layer's units, taken out, run over and put back, or run over in place: the layer has run, as `LayerRan`
-- says.
use Rattle.std.proofs.Common.{◌≡◌, ℕ, ◌<◌, List, [], ◌∷◌, map, length, true, false, Option, inl, inr, refl, sym, ap, ◌∙◌, subst}
use Rattle.std.proofs.lemmas.Bool.{cases_Bool, both_ways}
use Rattle.std.specs.FinMap.{empty}
use Rattle.std.specs.List.{AllZip, AllByRecursion}
use Rattle.groups.specs.GroupSet.{has, IsAscending}
use Rattle.groups.specs.Order.{In}
use Rattle.keyspace.specs.Map.{Map}
use Rattle.placement.specs.Layout.{Layout, IsTable}
use Rattle.resp.specs.Content.{Content}
use Rattle.tasks.specs.Tasks.{Task}
use Rattle.tasks.proofs.Groups.{task_groups-below}
use Rattle.shards.proofs.Layers.{layer_in_turn}
use Rattle.shards.proofs.Rows.{length-put_span, at-put_spans, picked-alike, picked-put_span, at-emptied, taken_out-picked}
use Rattle.shards.proofs.Rows.{at-emptied_each, length-emptied_each}
use Rattle.shards.proofs.Spans.{numbers-span_at, numbers-SpanRan}
use Rattle.shards.proofs.Works.{SomeUnits, all_units, one_of, works_apart, ascending, PairsApart, RanBetween, layer_ran, meet_alike}
use Rattle.shards.specs.Joined.{joined, map_of_shard, HasOwnKeys, Span, numbers, span_at}
use Rattle.shards.specs.Layer.{UnitRan, LayerRan, Work, Ran, AreWorksOf, IsRunOf, left_of, with_rans, RanInPlace, WorksRan}
use Rattle.shards.specs.Layer.{AnsweredInTurn}
use Rattle.shards.specs.Laws.{TakenOutAsTheyWere, PartsAreInTurn, WorksAreInTurn}
use Rattle.shards.specs.Rows.{put_span, put_spans, emptied, taken_out_each}

-- a unit leaves the same shards
pub numbers-UnitRan : (table : Layout) (cs : List Task) (before : Span) (os : List (Option Content)) (after : Span)
    → UnitRan table cs before os after → numbers after ≡ numbers before
numbers-UnitRan table [] before [] after ran = ap numbers ran
numbers-UnitRan table [] before (o ∷ os) after ran = absurd ran
numbers-UnitRan table (c ∷ cs) before [] after ran = absurd ran
numbers-UnitRan table (c ∷ cs) before (o ∷ os) after ran =
    numbers-UnitRan table cs ran.0 os after ran.2 ∙ numbers-SpanRan table c before ran.0 o ran.1

apart_other : (gs hs : List ℕ) → ((g : ℕ) → has gs g ≡ true → has hs g ≡ false) → (g : ℕ) → has hs g ≡ true → has gs g ≡ false
apart_other gs hs apart g there = elim (cases_Bool (has gs g)) as (λ _. has gs g ≡ false) [
  | inl here ↦ absurd (both_ways _ (apart g here) there)
  | inr none ↦ none
]

abbrev spans_of : List Ran → List Span
spans_of rs = map (λ r. r.span) rs

-- shards in ascending order, each inside a row of so many
pub record AreShards (shards : ℕ) (w : Work) : Type 0 where
  pub up : IsAscending w.groups
  pub inside : (g : ℕ) → has w.groups g ≡ true → g < shards

-- what became of a unit, in the same shards
abbrev pub RanOver : Layout → List Map → List (Option Content) → Work → Ran → Type 0
RanOver table old outcomes w r = (numbers r.span ≡ w.groups) × IsRunOf table old outcomes w r

over_groups : (table : Layout) (old : List Map) (outcomes : List (Option Content)) (ws : List Work) (rs : List Ran)
    → AllZip (IsRunOf table old outcomes) ws rs → AllZip (RanOver table old outcomes) ws rs
over_groups table old outcomes [] [] ran = tt
over_groups table old outcomes [] (r ∷ rs) ran = absurd ran
over_groups table old outcomes (w ∷ ws) [] ran = absurd ran
over_groups table old outcomes (w ∷ ws) (r ∷ rs) ran = (
  (numbers-UnitRan table w.tasks (span_at old w.groups) r.outcomes r.span ran.0.ran ∙ numbers-span_at old w.groups, ran.0),
  over_groups table old outcomes ws rs ran.1,
)

-- ---- put back

module _ (table : Layout) (old : List Map) (outcomes : List (Option Content)) where
  -- a shard that none of the units addresses is in none of their spans
  away_from : (ws : List Work) (rs : List Ran) (g : ℕ) → AllZip (RanOver table old outcomes) ws rs
      → ((w : Work) → In w ws → has w.groups g ≡ false) → AllByRecursion (λ s. has (numbers s) g ≡ false) (spans_of rs)
  away_from [] [] g ran away = tt
  away_from [] (r ∷ rs) g ran away = absurd ran
  away_from (w ∷ ws) [] g ran away = absurd ran
  away_from (w ∷ ws) (r ∷ rs) g ran away =
      (ap (λ ns. has ns g) ran.0.0 ∙ away w (inl refl), away_from ws rs g ran.1 (λ v i. away v (inr i)))

  each_put : (left : List Map) (ws : List Work) (rs : List Ran) → ((w : Work) → In w ws → AreShards (length left) w)
      → PairsApart (λ w. w.groups) ws → AllZip (RanOver table old outcomes) ws rs
      → (w : Work) → In w ws → RanBetween table outcomes old (put_spans left (spans_of rs)) w
  each_put left [] rs shards apart ran w i = absurd i
  each_put left (v ∷ ws) [] shards apart ran w i = absurd ran
  each_put left (v ∷ ws) (r ∷ rs) shards apart ran w (inr i) =
      each_put (put_span left r.span) ws rs
      (λ u j. subst (λ n. AreShards n u) (sym (length-put_span left r.span)) (shards u (inr j))) apart.1 ran.1 w i
  each_put left (v ∷ ws) (r ∷ rs) shards apart ran w (inl e) =
      subst (RanBetween table outcomes old (put_spans (put_span left r.span) (spans_of rs))) (sym e) (record {
        answered = r.outcomes;
        ran = subst (UnitRan table v.tasks (span_at old v.groups) r.outcomes) (sym stands) ran.0.1.ran;
        stand = ran.0.1.stand;
      })
    where
      here : span_at (put_span left r.span) v.groups ≡ r.span
      here = ap (span_at (put_span left r.span)) (sym ran.0.0)
          ∙ picked-put_span empty left r.span (subst IsAscending (sym ran.0.0) (shards v (inl refl)).up)
          (λ g there. (shards v (inl refl)).inside g (ap (λ ns. has ns g) (sym ran.0.0) ∙ there))

      stands : span_at (put_spans (put_span left r.span) (spans_of rs)) v.groups ≡ r.span
      stands =
          picked-alike empty (put_spans (put_span left r.span) (spans_of rs)) (put_span left r.span) v.groups
          (λ g there. at-put_spans empty (put_span left r.span) (spans_of rs) g (away_from ws rs g ran.1 (λ u i. apart.0 u i g there)))
          ∙ here

-- ---- taken out

spans_alike : (row other : List Map) (ws : List Work) → ((w : Work) → In w ws → span_at row w.groups ≡ span_at other w.groups)
    → ◌≡◌ {A = List Span} (map (λ w. span_at row w.groups) ws) (map (λ w. span_at other w.groups) ws)
spans_alike row other [] alike = refl
spans_alike row other (w ∷ ws) alike =
    ap (λ (s : Span). s ∷ map (λ v. span_at row v.groups) ws) (alike w (inl refl))
    ∙ ap (λ (l : List Span). span_at other w.groups ∷ l) (spans_alike row other ws (λ v i. alike v (inr i)))

-- each unit gets the shards of its groups as they were before any was taken out
pub layer_taken_out : (row : List Map) (ws : List Work) → ((w : Work) → In w ws → IsAscending w.groups) → PairsApart (λ w. w.groups) ws
    → taken_out_each empty row (map (λ w. w.groups) ws) ≡ map (λ w. span_at row w.groups) ws
layer_taken_out row [] up apart = refl
layer_taken_out row (w ∷ ws) up apart =
    ap (λ (s : Span). s ∷ taken_out_each empty (emptied empty row w.groups) (map (λ v. v.groups) ws))
    (taken_out-picked empty row w.groups (up w (inl refl)))
    ∙ ap (λ (l : List Span). span_at row w.groups ∷ l)
    (layer_taken_out (emptied empty row w.groups) ws (λ v i. up v (inr i)) apart.1
    ∙ spans_alike (emptied empty row w.groups) row ws (λ v i. picked-alike empty _ _ v.groups (λ g there.
    at-emptied empty row w.groups g (apart_other w.groups v.groups (apart.0 v i) g there))))

-- and the other shards stay
pub others_stay : (row : List Map) (ws : List Work) (shard : ℕ) → ((w : Work) → In w ws → has w.groups shard ≡ false)
    → map_of_shard (left_of row ws) shard ≡ map_of_shard row shard
others_stay row ws shard away = at-emptied_each empty row (map (λ w. w.groups) ws) shard (each ws away)
  where
    each : (vs : List Work) → ((w : Work) → In w vs → has w.groups shard ≡ false)
        → AllByRecursion (λ gs. has gs shard ≡ false) (map (λ w. w.groups) vs)
    each [] away' = tt
    each (v ∷ vs) away' = (away' v (inl refl), each vs (λ w i. away' w (inr i)))

pub length-left_of : (row : List Map) (ws : List Work) → length (left_of row ws) ≡ length row
length-left_of row ws = length-emptied_each empty row (map (λ w. w.groups) ws)

pub taken_out_as_they_were : TakenOutAsTheyWere
taken_out_as_they_were table maps layer works are =
    let some = all_units table layer works are in
    layer_taken_out maps works (ascending table layer works some) (works_apart table layer works some)

-- ---- what each unit did

-- each unit was run between these rows, and the other shards are as they were
pub record AllRan (table : Layout) (outcomes : List (Option Content)) (old new : List Map) (works : List Work) : Type 0 where
  pub each : (w : Work) → In w works → RanBetween table outcomes old new w
  pub others : (shard : ℕ) → ((w : Work) → In w works → has w.groups shard ≡ false) → map_of_shard new shard ≡ map_of_shard old shard

-- the layer has run, and so its tasks in turn
ran_in_turn : (table : Layout) (old new : List Map) (layer : List Task) (works : List Work) (outcomes : List (Option Content))
    → IsTable table → HasOwnKeys table old → AreWorksOf table layer works → length outcomes ≡ length layer
    → AllRan table outcomes old new works
    → LayerRan table old layer outcomes new × AnsweredInTurn (joined old) layer outcomes (joined new) × HasOwnKeys table new
ran_in_turn table old new layer works outcomes is_table own are as_many all =
    let has_run = layer_ran table layer outcomes old new works are as_many all.each all.others in
    let turn = layer_in_turn table old new layer outcomes is_table own
    (meet_alike table layer outcomes old new works are as_many all.each all.others) has_run in
    (has_run, turn.0, turn.1)

-- ---- the whole way, by moves

pub parts_in_turn : PartsAreInTurn
parts_in_turn table old layer works rans outcomes is_table own long are as_many ran =
    ran_in_turn table old (with_rans (left_of old works) rans) layer works outcomes is_table own are as_many (record {
      each = each_put table old outcomes (left_of old works) works rans shards (works_apart table layer works some) over;
      others = λ shard away.
          at-put_spans empty (left_of old works) (spans_of rans) shard (away_from table old outcomes works rans shard over away)
          ∙ others_stay old works shard away;
    })
  where
    some : SomeUnits table layer works
    some = all_units table layer works are

    over : AllZip (RanOver table old outcomes) works rans
    over = over_groups table old outcomes works rans ran

    shards : (w : Work) → In w works → AreShards (length (left_of old works)) w
    shards w i = record {
      up = ascending table layer works some w i;
      inside = λ g there. let r = one_of table layer works some w i in
          subst (λ n. g < n) (sym (length-left_of old works ∙ long)) (task_groups-below table r.task g
          (ap (λ l. has l g) r.groups ∙ there));
    }

-- ---- in place

one_more : (table : Layout) (outcomes : List (Option Content)) (old mid new : List Map) (w : Work) (ws : List Work)
    → ((v : Work) → In v ws → (g : ℕ) → has w.groups g ≡ true → has v.groups g ≡ false)
    → RanInPlace table outcomes old w mid → AllRan table outcomes mid new ws → AllRan table outcomes old new (w ∷ ws)
one_more table outcomes old mid new w ws apart ran rest = record {
  each = λ v. elim [
    | inl e ↦ subst (RanBetween table outcomes old new) (sym e) (record {
      answered = ran.answered;
      ran = subst (UnitRan table w.tasks (span_at old w.groups) ran.answered) its_shards ran.ran;
      stand = ran.stand;
    })
    | inr i ↦ let r = rest.each v i in record {
      answered = r.answered;
      ran = subst (λ s. UnitRan table v.tasks s r.answered (span_at new v.groups)) (other_shards v i) r.ran;
      stand = r.stand;
    }
  ];
  others = λ shard away. rest.others shard (λ v i. away v (inr i)) ∙ ran.others shard (away w (inl refl));
}
  where
    its_shards : span_at mid w.groups ≡ span_at new w.groups
    its_shards = picked-alike empty mid new w.groups (λ g there. sym (rest.others g (λ v i. apart v i g there)))

    other_shards : (v : Work) → In v ws → span_at mid v.groups ≡ span_at old v.groups
    other_shards v i = picked-alike empty mid old v.groups (λ g there. ran.others g (apart_other w.groups v.groups (apart v i) g there))

in_place : (table : Layout) (outcomes : List (Option Content)) (old new : List Map) (works : List Work) → PairsApart (λ w. w.groups) works
    → WorksRan table outcomes old works new → AllRan table outcomes old new works
in_place table outcomes old new [] apart ran =
    record { each = λ w i. absurd i; others = λ shard away. ap (λ m. map_of_shard m shard) ran }
in_place table outcomes old new (w ∷ ws) apart ran =
    one_more table outcomes old ran.0 new w ws apart.0 ran.1 (in_place table outcomes ran.0 new ws apart.1 ran.2)

pub works_in_turn : WorksAreInTurn
works_in_turn table old new layer works outcomes is_table own are as_many ran =
    ran_in_turn table old new layer works outcomes is_table own are as_many
    (in_place table outcomes old new works (works_apart table layer works (all_units table layer works are)) ran)
