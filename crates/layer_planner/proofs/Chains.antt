-- Units as chains of places: the chains, and that the places of a chain are those of its unit.
use Rattle.std.proofs.Common.{◌≡◌, ℕ, zero, suc, ◌+◌, ◌-◌, ◌<◌, ◌≤◌, ◌==◌, ◌||◌, Bool, true, false, not, List, [], ◌∷◌, ◌++◌, length}
use Rattle.std.proofs.Common.{slice_index_or, slice_set, replicate, refl, sym, ap, ◌∙◌, subst, arith, inl, inr, ne_eqb, eq-eqb}
use Rattle.std.proofs.lemmas.Bool.{cases_Bool, cases_eq, cases_lt, both_ways, or_right, or_left}
use Rattle.std.proofs.lemmas.List.{append-nil, append_assoc, get_or-set_same, get_or-set_other, length-set}
use Rattle.groups.specs.GroupSet.{chosen}
use Rattle.layer_planner.specs.Nexts.{IsFirstFrom, AreNexts, linked, heads_with}
use Rattle.layer_planner.specs.Units.{groups_at, line_up, is_in_unit, is_first, unit_at}
use Rattle.layer_planner.proofs.FirstPlaces.{chosen_yes, chosen_no, no_line}
use Rattle.layer_planner.proofs.UnitLaws.{same_groups, begun_by, lines_up}

-- ---- the chains, from the last place down

pub record AreChains (sets : List (List ℕ)) (from : ℕ) (nexts heads : List ℕ) : Type 0 where
  pub long : length nexts ≡ length sets
  pub wide : length heads ≡ 64
  pub high : from ≤ length sets
  pub done : (k : ℕ) → from ≤ k → k < length sets → IsFirstFrom sets (groups_at sets k) (suc k) (slice_index_or nexts k 0)
  pub left : (k : ℕ) → k < from → slice_index_or nexts k 0 ≡ length sets
  pub begin : (g : ℕ) → g < 64 → IsFirstFrom sets (g ∷ []) from (slice_index_or heads g 0)

-- nothing is left to be found behind the last place
past : (sets : List (List ℕ)) (gs : List ℕ) (from n : ℕ) → from ≤ n → n ≡ length sets
    → ((k : ℕ) → from ≤ k → k < n → line_up gs (groups_at sets k) ≡ false) → IsFirstFrom sets gs from n
past sets gs from n low all none = record {
  low = low;
  high = omega (arith, all);
  none = none;
  there = λ less. absurd (omega (arith, less, all));
}

-- one place further down
further : (sets : List (List ℕ)) (gs : List ℕ) (from m : ℕ) → line_up gs (groups_at sets from) ≡ false → IsFirstFrom sets gs (suc from) m
    → IsFirstFrom sets gs from m
further sets gs from m away f = let low = f.low in record {
  low = omega (arith, low);
  high = f.high;
  none = λ k above less. elim (cases_lt from k) [
    | inl behind ↦ f.none k behind less
    | inr last ↦ subst (λ j. line_up gs (groups_at sets j) ≡ false) (let e : from ≡ k = omega (arith, above, last) in e) away
  ];
  there = f.there;
}

other_line : (g h : ℕ) (hs : List ℕ) → (g ≡ h → ⊥) → hs ≡ h ∷ [] → line_up (g ∷ []) hs ≡ false
other_line g h hs apart e = ap (line_up (g ∷ [])) e ∙ ne_eqb g h apart

line_to_none : (g : ℕ) (hs : List ℕ) → ((h : ℕ) → hs ≡ h ∷ [] → ⊥) → line_up (g ∷ []) hs ≡ false
line_to_none g [] several = refl
line_to_none g (h ∷ []) several = absurd (several h refl)
line_to_none g (h ∷ k ∷ hs) several = refl

pub chain_alone : (sets : List (List ℕ)) (p : ℕ) (nexts heads : List ℕ) (g : ℕ) → AreChains sets (suc p) nexts heads → p < length sets
    → groups_at sets p ≡ g ∷ [] → g < 64 → AreChains sets p (slice_set nexts p (slice_index_or heads g 0)) (slice_set heads g p)
chain_alone sets p nexts heads g c low is small = let long = c.long in let wide = c.wide in record {
  long = length-set nexts p (slice_index_or heads g 0) ∙ long;
  wide = length-set heads g p ∙ wide;
  high = omega (arith, low);
  done = λ k above less. elim (cases_eq p k) [
    | inl e ↦ subst (λ j. IsFirstFrom sets (groups_at sets j) (suc j) (slice_index_or (slice_set nexts p (slice_index_or heads g 0)) j 0)) e
        (subst (IsFirstFrom sets (groups_at sets p) (suc p)) (sym (get_or-set_same nexts p (slice_index_or heads g 0) 0
        (omega (arith, long, low))))
        (subst (λ l. IsFirstFrom sets l (suc p) (slice_index_or heads g 0)) (sym is) (c.begin g small)))
    | inr apart ↦ subst (IsFirstFrom sets (groups_at sets k) (suc k))
        (sym (get_or-set_other nexts p k (slice_index_or heads g 0) 0 (λ e. apart (sym e))))
        (c.done k (above_next p k above apart) less)
  ];
  left = λ k less. get_or-set_other nexts p k (slice_index_or heads g 0) 0 (λ e. omega (arith, e, less)) ∙ c.left k (omega (arith, less));
  begin = λ h tiny. elim (cases_eq g h) [
    | inl e ↦ subst (λ j. IsFirstFrom sets (j ∷ []) p (slice_index_or (slice_set heads g p) j 0)) e
        (subst (IsFirstFrom sets (g ∷ []) p) (sym (get_or-set_same heads g p 0 (omega (arith, wide, small)))) (record {
          low = omega arith;
          high = omega (arith, low);
          none = λ k above less. absurd (omega (arith, above, less));
          there = λ _. lines_up (g ∷ []) (groups_at sets p) g refl is;
        }))
    | inr apart ↦ subst (IsFirstFrom sets (h ∷ []) p) (sym (get_or-set_other heads g h p 0 (λ e. apart (sym e))))
        (further sets (h ∷ []) p (slice_index_or heads h 0) (other_line h g (groups_at sets p) (λ e. apart (sym e)) is) (c.begin h tiny))
  ];
}
  where
    above_next : (a b : ℕ) → a ≤ b → (a ≡ b → ⊥) → suc a ≤ b
    above_next a b le ne = elim (cases_lt a b) [ inl less ↦ omega (arith, less) | inr more ↦ absurd (ne (omega (arith, le, more))) ]

pub chain_none : (sets : List (List ℕ)) (p : ℕ) (nexts heads : List ℕ) → AreChains sets (suc p) nexts heads → p < length sets
    → ((g : ℕ) → groups_at sets p ≡ g ∷ [] → ⊥) → AreChains sets p nexts heads
chain_none sets p nexts heads c low several = record {
  long = c.long;
  wide = c.wide;
  high = omega (arith, low);
  done = λ k above less. elim (cases_lt p k) [
    | inl behind ↦ c.done k (omega (arith, behind)) less
    | inr last ↦ subst (λ j. IsFirstFrom sets (groups_at sets j) (suc j) (slice_index_or nexts j 0))
        (let e : p ≡ k = omega (arith, above, last) in e)
        (past sets (groups_at sets p) (suc p) (slice_index_or nexts p 0) (end_above (slice_index_or nexts p 0) (c.left p (omega arith)))
        (c.left p (omega arith)) (λ j _ _. no_line (groups_at sets p) (groups_at sets j) several))
  ];
  left = λ k less. c.left k (omega (arith, less));
  begin = λ h tiny. further sets (h ∷ []) p (slice_index_or heads h 0) (line_to_none h (groups_at sets p) several) (c.begin h tiny);
}
  where
    end_above : (n : ℕ) → n ≡ length sets → suc p ≤ n
    end_above n e = omega (arith, low, e)

-- one place more, whatever its groups are
pub chain_more : (sets : List (List ℕ)) (p : ℕ) (gs nexts heads : List ℕ) → AreChains sets (suc p) nexts heads → p < length sets
    → groups_at sets p ≡ gs → ((g : ℕ) → gs ≡ g ∷ [] → g < 64) → AreChains sets p (linked gs p nexts heads) (heads_with gs p heads)
chain_more sets p [] nexts heads c low is small = chain_none sets p nexts heads c low (λ g e. let f = sym is ∙ e in cc)
chain_more sets p (g ∷ []) nexts heads c low is small = chain_alone sets p nexts heads g c low is (small g refl)
chain_more sets p (g ∷ h ∷ gs) nexts heads c low is small = chain_none sets p nexts heads c low (λ k e. let f = sym is ∙ e in cc)

at_replicate : (n x i : ℕ) → i < n → slice_index_or (replicate n x) i 0 ≡ x
at_replicate zero x i h = absurd (omega (arith, h))
at_replicate (suc n) x zero h = refl
at_replicate (suc n) x (suc i) h = at_replicate n x i (omega (arith, h))

long_replicate : (n x : ℕ) → length (replicate n x) ≡ n
long_replicate zero x = refl
long_replicate (suc n) x = ap suc (long_replicate n x)

pub no_chains : (sets : List (List ℕ)) (n : ℕ) → n ≡ length sets → AreChains sets n (replicate n n) (replicate 64 n)
no_chains sets n all = record {
  long = long_replicate n n ∙ all;
  wide = long_replicate 64 n;
  high = omega (arith, all);
  done = λ k above less. absurd (omega (arith, above, less, all));
  left = λ k less. at_replicate n n k less ∙ all;
  begin = λ g tiny. subst (IsFirstFrom sets (g ∷ []) n) (sym (at_replicate 64 n g tiny))
      (past sets (g ∷ []) n n (omega arith) all (λ k above less. absurd (omega (arith, above, less))));
}

pub all_chains : (sets : List (List ℕ)) (nexts heads : List ℕ) → AreChains sets 0 nexts heads → AreNexts sets nexts
all_chains sets nexts heads c = record { long = c.long; each = λ k less. c.done k (omega arith) less }

-- ---- along a chain

pub record Along (sets : List (List ℕ)) (first place : ℕ) (before found : List ℕ) : Type 0 where
  pub low : first ≤ place
  pub high : place ≤ length sets
  pub there : place < length sets → is_in_unit sets first place ≡ true
  pub is : found ≡ before ++ chosen (is_in_unit sets first) 0 place

gap : (test : ℕ → Bool) (a d : ℕ) → ((k : ℕ) → a ≤ k → k < a + d → test k ≡ false) → chosen test 0 (a + d) ≡ chosen test 0 a
gap test a zero none = let z : a + 0 ≡ a = omega arith in ap (chosen test 0) z
gap test a (suc d) none =
    chosen_no test (a + d) (a + suc d) (omega arith) (none (a + d) (omega arith) (omega arith))
    ∙ gap test a d (λ k above less. none k above (omega (arith, less)))

nothing : (test : ℕ → Bool) (n : ℕ) → ((k : ℕ) → k < n → test k ≡ false) → chosen test 0 n ≡ []
unfolding chosen
nothing test n none = let z : 0 + n ≡ n = omega arith in
    ap (chosen test 0) (sym z) ∙ gap test 0 n (λ k _ less. none k (omega (arith, less)))

pub along_first : (sets : List (List ℕ)) (first : ℕ) (before : List ℕ) → first < length sets → is_first sets first ≡ true
    → Along sets first first before before
along_first sets first before low is_first = record {
  low = omega arith;
  high = omega (arith, low);
  there = λ _. or_left (first == first) _ (eq-eqb first first refl);
  is = sym (append-nil before) ∙ ap (λ l. before ++ l) (sym (nothing (is_in_unit sets first) first none));
}
  where
    none : (k : ℕ) → k < first → is_in_unit sets first k ≡ false
    none k less =
        ap (λ b. b || line_up (groups_at sets first) (groups_at sets k)) (ne_eqb k first (λ e. omega (arith, e, less)))
        ∙ elim (cases_Bool (line_up (groups_at sets first) (groups_at sets k)))
        as (λ _. line_up (groups_at sets first) (groups_at sets k) ≡ false) [
          | inl line ↦ absurd (both_ways _ (ap not (begun_by sets (groups_at sets first) first k less line)) is_first)
          | inr away ↦ away
        ]

pub along_next : (sets : List (List ℕ)) (first place next : ℕ) (before found found' : List ℕ) → Along sets first place before found
    → place < length sets → IsFirstFrom sets (groups_at sets place) (suc place) next → found' ≡ found ++ place ∷ []
    → Along sets first next before found'
along_next sets first place next before found found' so_far inside f more =
    let low = so_far.low in
    let up = f.low in
    let across : suc place + (next - suc place) ≡ next = omega (arith, up) in
    record {
      low = omega (arith, low, up);
      high = f.high;
      there = λ less. or_right (next == first) _ (ap (λ l. line_up l (groups_at sets next)) same ∙ f.there less);
      is = more ∙ ap (λ l. l ++ place ∷ []) so_far.is
          ∙ append_assoc before (chosen (is_in_unit sets first) 0 place) (place ∷ [])
          ∙ ap (λ l. before ++ l) (sym (chosen_yes (is_in_unit sets first) place (suc place) (omega arith) (so_far.there inside))
          ∙ sym (gap (is_in_unit sets first) (suc place) (next - suc place)
          (λ k above less. skipped k above (omega (arith, less, across)))) ∙ ap (chosen (is_in_unit sets first) 0) across);
    }
  where
    same : groups_at sets first ≡ groups_at sets place
    same = same_groups sets first place (so_far.there inside)

    skipped : (k : ℕ) → suc place ≤ k → k < next → is_in_unit sets first k ≡ false
    skipped k above less = let low = so_far.low in
        ap (λ b. b || line_up (groups_at sets first) (groups_at sets k)) (ne_eqb k first (λ e. omega (arith, e, above, low)))
        ∙ ap (λ l. line_up l (groups_at sets k)) same ∙ f.none k above less

pub along_all : (sets : List (List ℕ)) (first place : ℕ) (before found : List ℕ) → Along sets first place before found → length sets ≤ place
    → found ≡ before ++ unit_at sets first
along_all sets first place before found so_far end =
    let high = so_far.high in
    let all : place ≡ length sets = omega (arith, high, end) in
    so_far.is ∙ ap (λ n. before ++ chosen (is_in_unit sets first) 0 n) all
