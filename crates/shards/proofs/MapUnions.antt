-- The union of a span whose shards have only their own keys, each shard once: what it has at a key, and that what the
-- shards have is the union, divided among them.
use Rattle.std.proofs.Common.{◌≡◌, ℕ, ◌==◌, List, [], ◌∷◌, map, true, false, cond, None, inl, inr, refl, sym, ap, ◌∙◌, subst, eqb-true}
use Rattle.std.proofs.Common.{eq-eqb, ne_eqb, lt_irrefl}
use Rattle.std.proofs.lemmas.Bool.{cases_eq, cases_Bool, or_parts, or_left, or_right, both_ways}
use Rattle.std.specs.Cmp.Lexicographic.{slice_cmp}
use Rattle.std.specs.FinMap.{get, get-empty}
use Rattle.std.specs.Option.{option_or}
use Rattle.std.specs.Ordering.{nat_cmp}
use Rattle.groups.specs.GroupSet.{has, IsAscending}
use Rattle.keyspace.proofs.Gets.{same}
use Rattle.keyspace.specs.Map.{Map}
use Rattle.placement.specs.Layout.{Layout, shard_of}
use Rattle.shards.proofs.Joins.{get-joined-cons, none_elsewhere, or_none}
use Rattle.shards.proofs.Steps.{get-part_of}
use Rattle.shards.specs.Joined.{Span, numbers, union, SpanHasOwnKeys, part_of, divided}

-- the first of an ascending list doesn't stand again in it
pub not_again : (n : ℕ) (ns : List ℕ) → IsAscending (n ∷ ns) → has ns n ≡ false
not_again n ns up = elim (cases_Bool (has ns n)) [ inl e ↦ absurd (lt_irrefl n (up.0 n e)) | inr e ↦ e ]

-- at a key that lies on none of a span's shards there is nothing
pub get-union-none : (table : Layout) (span : Span) (q : List ℕ) → SpanHasOwnKeys table span → has (numbers span) (shard_of table q) ≡ false
    → get (union span) q ≡ None
get-union-none table [] q own away = get-empty (slice_cmp nat_cmp) q
get-union-none table (s ∷ ss) q own away =
    let apart = or_parts (s.0 == shard_of table q) (has (numbers ss) (shard_of table q)) away in
    get-joined-cons s.1 (map (λ t. t.1) ss) q
    ∙ ap (λ o. option_or o (get (union ss) q))
    (none_elsewhere table s.0 s.1 q own.0 (λ e. both_ways _ apart.0 (eq-eqb s.0 (shard_of table q) (sym e))))
    ∙ get-union-none table ss q own.1 apart.1

-- a span's first shard has what the union has at the keys that lie there, and the others have the rest
pub get-union-first : (table : Layout) (s : ℕ × Map) (ss : Span) (q : List ℕ) → SpanHasOwnKeys table (s ∷ ss)
    → IsAscending (numbers (s ∷ ss))
    → shard_of table q ≡ s.0 → get (union (s ∷ ss)) q ≡ get s.1 q
get-union-first table s ss q own up here =
    get-joined-cons s.1 (map (λ t. t.1) ss) q
    ∙ ap (option_or (get s.1 q)) (get-union-none table ss q own.1 (ap (has (numbers ss)) here ∙ not_again s.0 (numbers ss) up))
    ∙ or_none (get s.1 q)

pub get-union-rest : (table : Layout) (s : ℕ × Map) (ss : Span) (q : List ℕ) → SpanHasOwnKeys table (s ∷ ss)
    → (shard_of table q ≡ s.0 → ⊥) → get (union (s ∷ ss)) q ≡ get (union ss) q
get-union-rest table s ss q own apart =
    get-joined-cons s.1 (map (λ t. t.1) ss) q ∙ ap (λ o. option_or o (get (union ss) q)) (none_elsewhere table s.0 s.1 q own.0 apart)

-- ---- the union divided

divided_alike : (table : Layout) (gs : List ℕ) (m n : Map) → ((q : List ℕ) → has gs (shard_of table q) ≡ true → get m q ≡ get n q)
    → divided table gs m ≡ divided table gs n
divided_alike table [] m n alike = refl
divided_alike table (g ∷ gs) m n alike =
    ap (λ p. (g, p) ∷ divided table gs m)
    (same (part_of table m g) (part_of table n g) (λ q. get-part_of table m g q ∙ at_key q ∙ sym (get-part_of table n g q)))
    ∙ ap (λ l. (g, part_of table n g) ∷ l)
    (divided_alike table gs m n (λ q there. alike q (or_right (g == shard_of table q) (has gs (shard_of table q)) there)))
  where
    at_key : (q : List ℕ) → cond (shard_of table q == g) (get m q) None ≡ cond (shard_of table q == g) (get n q) None
    at_key q = elim (shard_of table q == g) as (λ b. (shard_of table q == g) ≡ b → cond b (get m q) None ≡ cond b (get n q) None) [
      | true ↦ λ e. alike q (or_left (g == shard_of table q) (has gs (shard_of table q))
          (eq-eqb g (shard_of table q) (sym (eqb-true (shard_of table q) g e))))
      | false ↦ λ _. refl
    ] refl

-- the shards of a span have the union, divided among them
pub divided-union : (table : Layout) (span : Span) → SpanHasOwnKeys table span → IsAscending (numbers span)
    → divided table (numbers span) (union span) ≡ span
divided-union table [] own up = refl
divided-union table (s ∷ ss) own up =
    ap (λ p. (s.0, p) ∷ divided table (numbers ss) (union (s ∷ ss)))
    (same (part_of table (union (s ∷ ss)) s.0) s.1 (λ q. get-part_of table (union (s ∷ ss)) s.0 q ∙ at_key q))
    ∙ ap (λ l. s ∷ l) (divided_alike table (numbers ss) (union (s ∷ ss)) (union ss)
    (λ q there. get-union-rest table s ss q own (λ e. lt_irrefl s.0 (up.0 s.0 (subst (λ n. has (numbers ss) n ≡ true) e there))))
    ∙ divided-union table ss own.1 up.1)
  where
    at_key : (q : List ℕ) → cond (shard_of table q == s.0) (get (union (s ∷ ss)) q) None ≡ get s.1 q
    at_key q = elim (cases_eq (shard_of table q) s.0) [
      | inl e ↦ ap (λ b. cond b (get (union (s ∷ ss)) q) None) (eq-eqb (shard_of table q) s.0 e) ∙ get-union-first table s ss q own up e
      | inr apart ↦ ap (λ b. cond b (get (union (s ∷ ss)) q) None) (ne_eqb (shard_of table q) s.0 apart)
          ∙ sym (none_elsewhere table s.0 s.1 q own.0 apart)
    ]
