-- The order of stamps, and the final stamp as the greatest proposal.
use Rattle.std.proofs.Common.{◌≡◌, ℕ, ◌<◌, ◌≤◌, ◌==◌, true, false, cond, List, [], ◌∷◌, Option, Some, None, option_map, refl, sym, ap, ◌∙◌}
use Rattle.std.proofs.Common.{subst, arith, ◌⊎◌, inl, inr, eqb-true}
use Rattle.std.proofs.lemmas.Bool.{or_cases, both_ways}
use Rattle.std.proofs.lemmas.Bool.Decides.{nat_tests}
use Rattle.groups.specs.GroupSet.{has}
use Rattle.groups.specs.declared.stamp.Stamp.{Stamp}
use Rattle.groups.specs.Stamp.{stamp_lt, later, later_of, final}

-- ---- the order

pub lt_irrefl : (s : Stamp) → stamp_lt s s ≡ false
lt_irrefl s = grind (arith, nat_tests)

pub lt_asym : (s t : Stamp) → stamp_lt s t ≡ true → stamp_lt t s ≡ false
lt_asym s t h = grind (arith, nat_tests)

pub lt_trans : (s t u : Stamp) → stamp_lt s t ≡ true → stamp_lt t u ≡ true → stamp_lt s u ≡ true
lt_trans s t u h k = grind (arith, nat_tests)

-- t isn't below s, so s comes at t or before it
pub le_trans : (s t u : Stamp) → stamp_lt t s ≡ false → stamp_lt u t ≡ false → stamp_lt u s ≡ false
le_trans s t u h k = grind (arith, nat_tests)

pub le_lt : (s t u : Stamp) → stamp_lt t s ≡ false → stamp_lt t u ≡ true → stamp_lt s u ≡ true
le_lt s t u h k = grind (arith, nat_tests)

pub lt_le : (s t u : Stamp) → stamp_lt s t ≡ true → stamp_lt u t ≡ false → stamp_lt s u ≡ true
lt_le s t u h k = grind (arith, nat_tests)

pub le_antisym : (s t : Stamp) → stamp_lt s t ≡ false → stamp_lt t s ≡ false → s ≡ t
le_antisym s t h k =
    let clocks : s.clock ≡ t.clock = grind (arith, nat_tests) in
    let groups : s.group ≡ t.group = grind (arith, nat_tests) in
    λ i. record { clock = clocks i; group = groups i }

-- what the order says of clocks
pub clocks_le : (s t : Stamp) → stamp_lt t s ≡ false → s.clock ≤ t.clock
clocks_le s t h = grind (arith, nat_tests)

pub lt_from_clocks : (s t : Stamp) → s.clock < t.clock → stamp_lt s t ≡ true
lt_from_clocks s t h = grind (arith, nat_tests)

-- ---- the final stamp

later_either : (s t : Stamp) → (later s t ≡ s) ⊎ (later s t ≡ t)
later_either s t = elim (stamp_lt s t) as (λ b. (cond b t s ≡ s) ⊎ (cond b t s ≡ t)) [ true ↦ inr refl | false ↦ inl refl ]

later_first : (s t : Stamp) → stamp_lt (later s t) s ≡ false
later_first s t = elim (stamp_lt s t) as (λ b. stamp_lt s t ≡ b → stamp_lt (cond b t s) s ≡ false) [
  | true ↦ λ e. lt_asym s t e
  | false ↦ λ e. lt_irrefl s
] refl

later_second : (s t : Stamp) → stamp_lt (later s t) t ≡ false
later_second s t = elim (stamp_lt s t) as (λ b. stamp_lt s t ≡ b → stamp_lt (cond b t s) t ≡ false) [
  | true ↦ λ e. lt_irrefl t
  | false ↦ λ e. e
] refl

-- a settled request: the first group's proposal, and the final stamp of the others
pub record Settled (f : ℕ → Option ℕ) (g : ℕ) (gs : List ℕ) (s : Stamp) : Type 0 where
  pub clock : ℕ
  pub heard : f g ≡ Some clock
  pub rest : Stamp
  pub others : final f gs ≡ Some rest
  pub greatest : later (record { clock = clock; group = g }) rest ≡ s

pub settled : (f : ℕ → Option ℕ) (g : ℕ) (gs : List ℕ) (s : Stamp) → final f (g ∷ gs) ≡ Some s → Settled f g gs s
settled f g gs s e = by_parts (f g) (final f gs) refl refl e
  where
    by_parts : (o : Option ℕ) (r : Option Stamp) → f g ≡ o → final f gs ≡ r → later_of g o r ≡ Some s → Settled f g gs s
    by_parts (Some n) (Some t) a b h = record { clock = n; heard = a; rest = t; others = b; greatest = cc }
    by_parts (Some n) None a b h = absurd (cc)
    by_parts None (Some t) a b h = absurd (cc)
    by_parts None None a b h = absurd (cc)

-- each group of a settled request has proposed, no later than the final stamp
pub record Proposed (f : ℕ → Option ℕ) (g : ℕ) (s : Stamp) : Type 0 where
  pub clock : ℕ
  pub heard : f g ≡ Some clock
  pub within : stamp_lt s (record { clock = clock; group = g }) ≡ false

pub final_above : (f : ℕ → Option ℕ) (gs : List ℕ) (s : Stamp) (g : ℕ) → final f gs ≡ Some s → has gs g ≡ true → Proposed f g s
final_above f [] s g e h = absurd (both_ways _ refl h)
final_above f (x ∷ xs) s g e h =
    let parts = settled f x xs s e in
    elim (or_cases (x == g) (has xs g) h) [
      | inl here ↦ let same = eqb-true x g here in subst (λ (y : ℕ). Proposed f y s) same (record {
        clock = parts.clock;
        heard = parts.heard;
        within = subst (λ t. stamp_lt t (record { clock = parts.clock; group = x }) ≡ false) parts.greatest (later_first _ parts.rest);
      })
      | inr there ↦ let p = final_above f xs parts.rest g parts.others there in record {
        clock = p.clock;
        heard = p.heard;
        within = le_trans (record { clock = p.clock; group = g }) parts.rest s p.within
            (subst (λ t. stamp_lt t parts.rest ≡ false) parts.greatest (later_second _ parts.rest));
      }
    ]

-- no stamp is below the lowest
lowest : (g n : ℕ) → stamp_lt (record { clock = n; group = g }) (record { clock = 0; group = 0 }) ≡ false
lowest g n = grind (arith, nat_tests)

alone : (g n : ℕ) → later (record { clock = n; group = g }) (record { clock = 0; group = 0 }) ≡ record { clock = n; group = g }
alone g n = ap (λ b. cond {A = Stamp} b (record { clock = 0; group = 0 }) (record { clock = n; group = g })) (lowest g n)

-- the final stamp of some groups is one of their proposals
pub final_proposed : (f : ℕ → Option ℕ) (g : ℕ) (gs : List ℕ) (s : Stamp) → final f (g ∷ gs) ≡ Some s → f s.group ≡ Some s.clock
final_proposed f g [] s e =
    let parts = settled f g [] s e in
    let bottom : parts.rest ≡ record { clock = 0; group = 0 } = cc in
    let it : later (record { clock = parts.clock; group = g }) (record { clock = 0; group = 0 }) ≡ s =
    subst (λ (t : Stamp). later (record { clock = parts.clock; group = g }) t ≡ s) bottom parts.greatest in
    subst (λ (t : Stamp). f t.group ≡ Some t.clock) (sym (alone g parts.clock) ∙ it) parts.heard
final_proposed f g (h ∷ hs) s e =
    let parts = settled f g (h ∷ hs) s e in
    elim (later_either (record { clock = parts.clock; group = g }) parts.rest) [
      | inl first ↦ subst (λ (t : Stamp). f t.group ≡ Some t.clock) (sym first ∙ parts.greatest) parts.heard
      | inr second ↦ subst (λ (t : Stamp). f t.group ≡ Some t.clock) (sym second
          ∙ parts.greatest) (final_proposed f h hs parts.rest parts.others)
    ]

-- what is settled stays so when more is heard
pub final_within : (f h : ℕ → Option ℕ) (gs : List ℕ) (s : Stamp) → ((g n : ℕ) → f g ≡ Some n → h g ≡ Some n) → final f gs ≡ Some s
    → final h gs ≡ Some s
final_within f h [] s more e = e
final_within f h (g ∷ gs) s more e =
    let parts = settled f g gs s e in
    let first = more g parts.clock parts.heard in
    let others = final_within f h gs parts.rest more parts.others in
    ap (λ o. later_of g o (final h gs)) first ∙ ap (λ r. later_of g (Some parts.clock) r) others ∙ ap Some parts.greatest

-- ---- the final stamp, from the first group on

lowest_first : (s : Stamp) → later (record { clock = 0; group = 0 }) s ≡ s
lowest_first s = elim (stamp_lt (record { clock = 0; group = 0 }) s) as (λ b. stamp_lt (record { clock = 0; group = 0 }) s ≡ b
    → cond {A = Stamp} b s (record { clock = 0; group = 0 }) ≡ s) [
      | true ↦ λ e. refl
      | false ↦ λ e. le_antisym (record { clock = 0; group = 0 }) s e (lowest s.group s.clock)
    ] refl

pub lowest_last : (s : Stamp) → later s (record { clock = 0; group = 0 }) ≡ s
lowest_last s = alone s.group s.clock

pub later_assoc : (s t u : Stamp) → later s (later t u) ≡ later (later s t) u
later_assoc s t u = elim (stamp_lt t u) as (λ b. stamp_lt t u ≡ b → later s (cond b u t) ≡ later (later s t) u) [
  | true ↦ λ e. elim (stamp_lt s t) as (λ b. stamp_lt s t ≡ b → later s u ≡ later (cond b t s) u) [
    | true ↦ λ d. ap (λ b. cond {A = Stamp} b u s) (lt_trans s t u d e) ∙ sym (ap (λ b. cond {A = Stamp} b u t) e)
    | false ↦ λ d. refl
  ] refl
  | false ↦ λ e. elim (stamp_lt s t) as (λ b. stamp_lt s t ≡ b → cond b t s ≡ later (cond b t s) u) [
    | true ↦ λ d. sym (ap (λ b. cond {A = Stamp} b u t) e)
    | false ↦ λ d. sym (ap (λ b. cond {A = Stamp} b u s) (le_trans u t s e d))
  ] refl
] refl

pub final_begun : (o : Option Stamp) → o ≡ option_map (later (record { clock = 0; group = 0 })) o
final_begun None = refl
final_begun (Some s) = ap Some (sym (lowest_first s))

-- one group more is looked at
pub final_more : (s : Stamp) (g n : ℕ) (o : Option Stamp)
    → option_map (later s) (later_of g (Some n) o) ≡ option_map (later (later s (record { clock = n; group = g }))) o
final_more s g n None = refl
final_more s g n (Some t) = ap Some (later_assoc s (record { clock = n; group = g }) t)

-- the loop over the groups: o is the final stamp of all, s the greatest so far, and gs are left
pub final_missing : (f : ℕ → Option ℕ) (o : Option Stamp) (s : Stamp) (left rest : List ℕ) (g : ℕ) → o ≡ option_map (later s) (final f left)
    → left ≡ g ∷ rest → f g ≡ None → o ≡ None
final_missing f o s left rest g is next none =
    is ∙ ap (λ gs. option_map (later s) (final f gs)) next ∙ ap (λ c. option_map (later s) (later_of g c (final f rest))) none

pub final_passed : (f : ℕ → Option ℕ) (o : Option Stamp) (s t : Stamp) (left rest : List ℕ) (g n : ℕ)
    → o ≡ option_map (later s) (final f left) → left ≡ g ∷ rest → f g ≡ Some n →
    later s (record { clock = n; group = g }) ≡ t → o ≡ option_map (later t) (final f rest)
final_passed f o s t left rest g n is next there greatest =
    is ∙ ap (λ gs. option_map (later s) (final f gs)) next ∙ ap (λ c. option_map (later s) (later_of g c (final f rest))) there
    ∙ final_more s g n (final f rest) ∙ ap (λ u. option_map (later u) (final f rest)) greatest

pub final_ended : (f : ℕ → Option ℕ) (o : Option Stamp) (s : Stamp) (left : List ℕ) → o ≡ option_map (later s) (final f left) → left ≡ []
    → o ≡ Some s
final_ended f o s left is none = is ∙ ap (λ gs. option_map (later s) (final f gs)) none ∙ ap Some (lowest_last s)
