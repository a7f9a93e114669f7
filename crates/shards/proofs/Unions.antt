-- A key of a span: which shard has it, and what a change there is to the union of the shards.
use Rattle.std.proofs.Common.{◌≡◌, ℕ, zero, suc, ◌+◌, ◌<◌, ◌==◌, ◌||◌, List, [], ◌∷◌, map, length, get_or, slice_set, slice_index, Bool}
use Rattle.std.proofs.Common.{true, false, cond, Option, Some, None, is_some, MatchOption, inl, inr, refl, sym, ap, ◌∙◌, subst, arith}
use Rattle.std.proofs.Common.{eqb-true, eq-eqb, add-one}
use Rattle.std.proofs.lemmas.Bool.{or_cases}
use Rattle.std.specs.Cmp.Lexicographic.{slice_cmp}
use Rattle.std.specs.FinMap.{get, empty, get-empty}
use Rattle.std.specs.Option.{option_or, IsSome}
use Rattle.std.specs.Ordering.{nat_cmp}
use Rattle.std.specs.Str.{bytes_eq}
use Rattle.groups.specs.GroupSet.{has, IsAscending}
use Rattle.keyspace.proofs.Changes.{set-get}
use Rattle.keyspace.proofs.Gets.{same, same_bytes, get-set}
use Rattle.keyspace.specs.Map.{Map, set}
use Rattle.placement.specs.Layout.{Layout, shard_of}
use Rattle.shards.proofs.Joins.{get-joined-cons, none_elsewhere}
use Rattle.shards.specs.Joined.{HasKeysOf, Span, numbers, union, SpanHasOwnKeys}
use Rattle.shards.specs.Spans.{IsSpan}
use Rattle.values.specs.declared.Value.{Value}

-- ---- numbers

has_somewhere : (ss : Span) (g : ℕ) → has (numbers ss) g ≡ true → ((k : ℕ) → k < length ss → slice_index (numbers ss) k ≡ g → ⊥) → ⊥
has_somewhere [] g there none = cc
has_somewhere (s ∷ ss) g there none = elim (or_cases (s.0 == g) (has (numbers ss) g) there) [
  | inl e ↦ none 0 (omega arith) (eqb-true s.0 g e)
  | inr later ↦ has_somewhere ss g later (λ k below e. none (suc k) (omega (arith, below)) e)
]

pub has-at : (ss : Span) (i : ℕ) → i < length ss → has (numbers ss) (slice_index (numbers ss) i) ≡ true
has-at [] i below = absurd (omega (arith, below))
has-at (s ∷ ss) zero below = ap (λ b. b || has (numbers ss) s.0) (eq-eqb s.0 s.0 refl)
has-at (s ∷ ss) (suc i) below = or_true (s.0 == slice_index (numbers ss) i) _ (has-at ss i (omega (arith, below)))
  where
    or_true : (a b : Bool) → b ≡ true → (a || b) ≡ true
    or_true true b h = refl
    or_true false b h = h

-- what stands at no place isn't there
pub has_not : (ss : Span) (g : ℕ) → ((k : ℕ) → k < length ss → slice_index (numbers ss) k ≡ g → ⊥) → has (numbers ss) g ≡ false
has_not ss g none = elim (has (numbers ss) g) as (λ b. has (numbers ss) g ≡ b → b ≡ false) [
  | true ↦ λ there. absurd (has_somewhere ss g there none)
  | false ↦ λ _. refl
] refl

-- a place where it was found, or none
pub found-has : (ss : Span) (gs : List ℕ) (g : ℕ) (r : Option ℕ) → numbers ss ≡ gs
    → MatchOption r (has gs g ≡ false) (λ i. (i < length ss) × (slice_index (numbers ss) i ≡ g)) → is_some r ≡ has gs g
found-has ss gs g None is h = sym h
found-has ss gs g (Some i) is h = sym (ap (λ l. has l g) (sym is) ∙ ap (has (numbers ss)) (sym h.1) ∙ has-at ss i h.0)

pub number_at : (ss : Span) (i : ℕ) (d : ℕ × Map) → i < length ss → (get_or ss i d).0 ≡ slice_index (numbers ss) i
number_at [] i d below = absurd (omega (arith, below))
number_at (s ∷ ss) zero d below = refl
number_at (s ∷ ss) (suc i) d below = number_at ss i d (omega (arith, below))

pub numbers-changed : (ss : Span) (i : ℕ) (d : ℕ × Map) (m : Map) → i < length ss → numbers (slice_set ss i ((get_or ss i d).0, m))
    ≡ numbers ss
numbers-changed [] i d m below = absurd (omega (arith, below))
numbers-changed (s ∷ ss) zero d m below = refl
numbers-changed (s ∷ ss) (suc i) d m below = ap (λ l. s.0 ∷ l) (numbers-changed ss i d m (omega (arith, below)))

-- the first number doesn't stand again behind it
pub not_first : (n : ℕ) (ss : Span) (i : ℕ) → IsAscending (n ∷ numbers ss) → i < length ss → slice_index (numbers ss) i ≡ n → ⊥
not_first n ss i up below e = let less = up.0 (slice_index (numbers ss) i) (has-at ss i below) in omega (arith, less, e)

-- ---- what the union has at a key

module _ (table : Layout) where
  -- no shard of the span is the key's
  pub none_of : (ss : Span) (q : List ℕ) → SpanHasOwnKeys table ss
      → ((i : ℕ) → i < length ss → slice_index (numbers ss) i ≡ shard_of table q → ⊥)
      → get (union ss) q ≡ None
  none_of [] q own away = get-empty (slice_cmp nat_cmp) q
  none_of (s ∷ ss) q own away =
      get-joined-cons s.1 (map (λ s. s.1) ss) q
      ∙ ap (λ o. option_or o (get (union ss) q)) (none_elsewhere table s.0 s.1 q own.0 (λ e. away 0 (omega arith) (sym e)))
      ∙ none_of ss q own.1 (λ i below e. away (suc i) (omega (arith, below)) e)

  or_none : (o : Option Value) → option_or o None ≡ o
  or_none None = refl
  or_none (Some v) = refl

  -- it has what the key's shard has
  pub get-union_here : (ss : Span) (i : ℕ) (d : ℕ × Map) (q : List ℕ) → SpanHasOwnKeys table ss → IsAscending (numbers ss) → i < length ss
      → slice_index (numbers ss) i ≡ shard_of table q → get (union ss) q ≡ get (get_or ss i d).1 q
  get-union_here [] i d q own up below here = absurd (omega (arith, below))
  get-union_here (s ∷ ss) zero d q own up below here =
      get-joined-cons s.1 (map (λ s. s.1) ss) q
      ∙ ap (option_or (get s.1 q)) (none_of ss q own.1 (λ i inside e. not_first s.0 ss i up inside (e ∙ sym here)))
      ∙ or_none (get s.1 q)
  get-union_here (s ∷ ss) (suc i) d q own up below here =
      get-joined-cons s.1 (map (λ s. s.1) ss) q
      ∙ ap (λ o. option_or o (get (union ss) q))
      (none_elsewhere table s.0 s.1 q own.0 (λ e. not_first s.0 ss i up (omega (arith, below)) (here ∙ e)))
      ∙ get-union_here ss i d q own.1 up.1 (omega (arith, below)) here

  -- a change at a key of the shard's own
  own-set : (n : ℕ) (m : Map) (q : List ℕ) (o : Option Value) → n ≡ shard_of table q → HasKeysOf table n m → HasKeysOf table n (set m q o)
  own-set n m q o here own r there =
      elim (bytes_eq q r) as (λ b. bytes_eq q r ≡ b → shard_of table r ≡ n) [
        | true ↦ λ e. ap (shard_of table) (sym (same_bytes q r e)) ∙ sym here
        | false ↦ λ e. own r (subst IsSome (get-set m q o r ∙ ap (λ b. cond b o (get m r)) e) there)
      ] refl

  pub own-changed : (ss : Span) (i : ℕ) (d : ℕ × Map) (q : List ℕ) (o : Option Value) → SpanHasOwnKeys table ss → i < length ss
      → slice_index (numbers ss) i ≡ shard_of table q → SpanHasOwnKeys table (slice_set ss i ((get_or ss i d).0, set (get_or ss i d).1 q o))
  own-changed [] i d q o own below here = absurd (omega (arith, below))
  own-changed (s ∷ ss) zero d q o own below here = (own-set s.0 s.1 q o here own.0, own.1)
  own-changed (s ∷ ss) (suc i) d q o own below here = (own.0, own-changed ss i d q o own.1 (omega (arith, below)) here)

  first_cases : (b : Bool) (o p r : Option Value) → (b ≡ true → r ≡ None) → option_or (cond b o p) r ≡ cond b o (option_or p r)
  first_cases true o p r none = ap (option_or o) (none refl) ∙ or_none o
  first_cases false o p r none = refl

  later_cases : (b : Bool) (o p r : Option Value) → (b ≡ true → p ≡ None) → option_or p (cond b o r) ≡ cond b o (option_or p r)
  later_cases true o p r none = ap (λ t. option_or t o) (none refl)
  later_cases false o p r none = refl

  get-union-changed : (ss : Span) (i : ℕ) (d : ℕ × Map) (q : List ℕ) (o : Option Value) → SpanHasOwnKeys table ss → IsAscending (numbers ss)
      → i < length ss
      → slice_index (numbers ss) i ≡ shard_of table q → (r : List ℕ)
      → get (union (slice_set ss i ((get_or ss i d).0, set (get_or ss i d).1 q o))) r ≡ cond (bytes_eq q r) o (get (union ss) r)
  get-union-changed [] i d q o own up below here r = absurd (omega (arith, below))
  get-union-changed (s ∷ ss) zero d q o own up below here r =
      get-joined-cons (set s.1 q o) (map (λ s. s.1) ss) r
      ∙ ap (λ p. option_or p (get (union ss) r)) (get-set s.1 q o r)
      ∙ first_cases (bytes_eq q r) o (get s.1 r) (get (union ss) r) none
      ∙ ap (cond (bytes_eq q r) o) (sym (get-joined-cons s.1 (map (λ s. s.1) ss) r))
    where
      none : bytes_eq q r ≡ true → get (union ss) r ≡ None
      none e = none_of ss r own.1 (λ i inside f. not_first s.0 ss i up inside (f ∙ ap (shard_of table) (sym (same_bytes q r e)) ∙ sym here))
  get-union-changed (s ∷ ss) (suc i) d q o own up below here r =
      get-joined-cons s.1 (map (λ s. s.1) (slice_set ss i ((get_or ss i d).0, set (get_or ss i d).1 q o))) r
      ∙ ap (option_or (get s.1 r)) (get-union-changed ss i d q o own.1 up.1 (omega (arith, below)) here r)
      ∙ later_cases (bytes_eq q r) o (get s.1 r) (get (union ss) r) none
      ∙ ap (cond (bytes_eq q r) o) (sym (get-joined-cons s.1 (map (λ s. s.1) ss) r))
    where
      none : bytes_eq q r ≡ true → get s.1 r ≡ None
      none e = none_elsewhere table s.0 s.1 r own.0
          (λ f. not_first s.0 ss i up (omega (arith, below)) (here ∙ ap (shard_of table) (same_bytes q r e) ∙ f))

  -- the union changes at that key alone
  pub union-changed : (ss : Span) (i : ℕ) (d : ℕ × Map) (q : List ℕ) (o : Option Value) → SpanHasOwnKeys table ss → IsAscending (numbers ss)
      → i < length ss
      → slice_index (numbers ss) i ≡ shard_of table q → union (slice_set ss i ((get_or ss i d).0, set (get_or ss i d).1 q o))
      ≡ set (union ss) q o
  union-changed ss i d q o own up below here =
      same _ _ (λ r. get-union-changed ss i d q o own up below here r ∙ sym (get-set (union ss) q o r))

  -- what is kept of a span by it
  pub span-changed : (groups : List ℕ) (ss : Span) (i : ℕ) (d : ℕ × Map) (q : List ℕ) (o : Option Value) → IsSpan table groups ss
      → i < length ss
      → slice_index (numbers ss) i ≡ shard_of table q → IsSpan table groups (slice_set ss i ((get_or ss i d).0, set (get_or ss i d).1 q o))
  span-changed groups ss i d q o span below here = record {
    numbers = numbers-changed ss i d (set (get_or ss i d).1 q o) below ∙ span.numbers;
    ascending = span.ascending;
    own = own-changed ss i d q o span.own below here;
  }

-- ---- all keys removed

-- the first so many of the shards without keys
abbrev pub cleared : ℕ → Span → Span
cleared zero ss = ss
cleared (suc n) [] = []
cleared (suc n) (s ∷ ss) = (s.0, empty) ∷ cleared n ss

cleared-next : (n : ℕ) (ss : Span) (d : ℕ × Map) → n < length ss → slice_set (cleared n ss) n ((get_or (cleared n ss) n d).0, empty)
    ≡ cleared (suc n) ss
cleared-next n [] d below = absurd (omega (arith, below))
cleared-next zero (s ∷ ss) d below = refl
cleared-next (suc n) (s ∷ ss) d below = ap (λ l. (s.0, empty) ∷ l) (cleared-next n ss d (omega (arith, below)))

pub cleared_step : (items ss : Span) (n : ℕ) (s : ℕ × Map) (m : Map) → items ≡ cleared n ss → n < length ss → s ≡ get_or items n s
    → m ≡ empty
    → slice_set items n (s.0, m) ≡ cleared (n + 1) ss
cleared_step items ss n s m is below at none =
    ap (λ l. slice_set l n (s.0, m)) is ∙ ap (λ x. slice_set (cleared n ss) n (s.0, x)) none
    ∙ ap (λ (p : ℕ × Map). slice_set (cleared n ss) n (p.0, empty)) (at ∙ ap (λ l. get_or l n s) is)
    ∙ cleared-next n ss s below ∙ ap (λ k. cleared k ss) (sym (add-one n))

numbers-cleared : (n : ℕ) (ss : Span) → numbers (cleared n ss) ≡ numbers ss
numbers-cleared zero ss = refl
numbers-cleared (suc n) [] = refl
numbers-cleared (suc n) (s ∷ ss) = ap (λ l. s.0 ∷ l) (numbers-cleared n ss)

own-empty : (table : Layout) (n : ℕ) → HasKeysOf table n empty
own-empty table n q there = (let none = sym there ∙ ap is_some (get-empty {X = Value} (slice_cmp nat_cmp) q) in cc)

own-cleared : (table : Layout) (n : ℕ) (ss : Span) → SpanHasOwnKeys table ss → SpanHasOwnKeys table (cleared n ss)
own-cleared table zero ss own = own
own-cleared table (suc n) [] own = tt
own-cleared table (suc n) (s ∷ ss) own = (own-empty table s.0, own-cleared table n ss own.1)

pub span-cleared : (table : Layout) (groups : List ℕ) (n : ℕ) (ss : Span) → IsSpan table groups ss → IsSpan table groups (cleared n ss)
span-cleared table groups n ss span = record {
  numbers = numbers-cleared n ss ∙ span.numbers;
  ascending = span.ascending;
  own = own-cleared table n ss span.own;
}

get-all_cleared : (ss : Span) (q : List ℕ) → get (union (cleared (length ss) ss)) q ≡ None
get-all_cleared [] q = get-empty (slice_cmp nat_cmp) q
get-all_cleared (s ∷ ss) q =
    get-joined-cons empty (map (λ s. s.1) (cleared (length ss) ss)) q
    ∙ ap (λ o. option_or o (get (union (cleared (length ss) ss)) q)) (get-empty (slice_cmp nat_cmp) q)
    ∙ get-all_cleared ss q

pub union-cleared : (ss : Span) (n : ℕ) → n ≡ length ss → union (cleared n ss) ≡ empty
union-cleared ss n all = ap (λ k. union (cleared k ss)) all ∙ same _ _ (λ q. get-all_cleared ss q ∙ sym (get-empty (slice_cmp nat_cmp) q))

-- ---- one shard changed at one key

-- the shard s of the key q is at place i of the span, whose shards are `inside`
pub record Spot (table : Layout) (groups : List ℕ) (inside ss : Span) (i : ℕ) (s : ℕ × Map) (q : List ℕ) : Type 0 where
  pub shown : inside ≡ ss
  pub span : IsSpan table groups inside
  pub below : i < length ss
  pub there : slice_index (numbers ss) i ≡ shard_of table q
  pub at : s ≡ get_or inside i s

module _ (table : Layout) (groups : List ℕ) (inside ss : Span) (i : ℕ) (s : ℕ × Map) (q : List ℕ)
    (spot : Spot table groups inside ss i s q) where
  below' : i < length inside
  below' = subst (λ l. i < length l) (sym spot.shown) spot.below

  there' : slice_index (numbers inside) i ≡ shard_of table q
  there' = ap (λ l. slice_index (numbers l) i) spot.shown ∙ spot.there

  ascends : IsAscending (numbers inside)
  ascends = subst IsAscending (sym spot.span.numbers) spot.span.ascending

  here : get (union ss) q ≡ get s.1 q
  here =
      ap (λ l. get (union l) q) (sym spot.shown) ∙ get-union_here table inside i s q spot.span.own ascends below' there'
      ∙ ap (λ (p : ℕ × Map). get p.1 q) (sym spot.at)

  changed_to : (m : Map) (o : Option Value) → m ≡ set s.1 q o
      → slice_set inside i (s.0, m) ≡ slice_set inside i ((get_or inside i s).0, set (get_or inside i s).1 q o)
  changed_to m o is = ap (λ x. slice_set inside i (s.0, x)) is ∙ ap (λ (p : ℕ × Map). slice_set inside i (p.0, set p.1 q o)) spot.at

  span-to : (m : Map) (o : Option Value) → m ≡ set s.1 q o → IsSpan table groups (slice_set inside i (s.0, m))
  span-to m o is = subst (IsSpan table groups) (sym (changed_to m o is)) (span-changed table groups inside i s q o spot.span below' there')

  union-to : (m : Map) (o : Option Value) → m ≡ set s.1 q o → union (slice_set inside i (s.0, m)) ≡ set (union ss) q o
  union-to m o is =
      ap union (changed_to m o is) ∙ union-changed table inside i s q o spot.span.own ascends below' there'
      ∙ ap (λ l. set (union l) q o) spot.shown

module _ {table : Layout} {groups : List ℕ} {inside ss : Span} {i : ℕ} {s : ℕ × Map} {q : List ℕ}
    (spot : Spot table groups inside ss i s q) where
  pub get_here : get (union ss) q ≡ get s.1 q
  get_here = here table groups inside ss i s q spot

  pub changed_span : (m : Map) (o : Option Value) → m ≡ set s.1 q o → IsSpan table groups (slice_set inside i (s.0, m))
  changed_span m o is = span-to table groups inside ss i s q spot m o is

  pub changed_union : (m : Map) (o : Option Value) → m ≡ set s.1 q o → union (slice_set inside i (s.0, m)) ≡ set (union ss) q o
  changed_union m o is = union-to table groups inside ss i s q spot m o is

  -- the shard as it was
  pub kept_span : (m : Map) → m ≡ s.1 → IsSpan table groups (slice_set inside i (s.0, m))
  kept_span m is = changed_span m (get s.1 q) (is ∙ sym (set-get s.1 q))

  pub kept_union : (m : Map) → m ≡ s.1 → union (slice_set inside i (s.0, m)) ≡ union ss
  kept_union m is = changed_union m (get s.1 q) (is ∙ sym (set-get s.1 q)) ∙ ap (set (union ss) q) (sym get_here) ∙ set-get (union ss) q
