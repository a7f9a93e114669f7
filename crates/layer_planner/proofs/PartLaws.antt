-- The parts that numbers are dealt to, by their last number, and that each number stands in one part, once.
use Rattle.std.proofs.Common.{◌≡◌, ℕ, zero, suc, ◌+◌, ◌-◌, ◌*◌, ◌/◌, ◌%◌, ◌<◌, ◌≤◌, ◌==◌, Bool, true, false, cond}
use Rattle.std.proofs.Common.{List, [], ◌∷◌, ◌++◌, map, length, slice_index_or}
use Rattle.std.proofs.Common.{refl, sym, ap, ◌∙◌, subst, arith, inl, inr, ne_eqb, eq-eqb, eqb-true, lt-ltb, le-ltb, nat_lt}
use Rattle.std.specs.List.{filter, range_with_len, concat, count_by}
use Rattle.std.proofs.lemmas.Bool.{cases_lt}
use Rattle.std.proofs.lemmas.Nat.{mod-mul-add, div-add-mod', mod_below}
use Rattle.std.proofs.Math.Nat.{suc-mul}
use Rattle.std.proofs.lemmas.List.{append-nil, map-append}
use Rattle.std.proofs.lemmas.List.Sums.{sum_by-append}
use Rattle.std.proofs.lemmas.List.Folds.{concat-append}
use Rattle.std.proofs.lemmas.List.FromFn.{map-range_with_len_more}
use Rattle.layer_planner.specs.Parts.{part, dealt, picked_units}

-- ---- a filtered range, by its last number

first_kept : {X : Type 0} (b : Bool) (x : X) (xs ys zs : List X) → xs ≡ ys ++ zs → cond b (x ∷ xs) xs ≡ cond b (x ∷ ys) ys ++ zs
first_kept true x xs ys zs e = ap (λ l. x ∷ l) e
first_kept false x xs ys zs e = e

filter_last : (p : ℕ → Bool) (a n : ℕ) → filter p (range_with_len a (suc n)) ≡ filter p (range_with_len a n)
    ++ cond (p (a + n)) ((a + n) ∷ []) []
filter_last p a zero = let e : a ≡ a + 0 = omega arith in ap (λ k. cond (p k) (k ∷ []) []) e
filter_last p a (suc n) =
    let e : a + 1 + n ≡ a + suc n = omega arith in
    first_kept (p a) a _ _ _ (filter_last p (a + 1) n ∙ ap (λ k. filter p (range_with_len (a + 1) n) ++ cond (p k) (k ∷ []) []) e)

-- of one place more a part has it or not
pub part_yes : (w n k : ℕ) → n % w ≡ k → part w (suc n) k ≡ part w n k ++ n ∷ []
part_yes w n k e = filter_last (λ i. i % w == k) 0 n ∙ let z : 0 + n ≡ n = omega arith in
    ap (λ m. part w n k ++ cond (m % w == k) (m ∷ []) []) z ∙ ap (λ b. part w n k ++ cond b (n ∷ []) []) (eq-eqb (n % w) k e)

pub part_no : (w n k : ℕ) → (n % w == k) ≡ false → part w (suc n) k ≡ part w n k
part_no w n k e = filter_last (λ i. i % w == k) 0 n ∙ let z : 0 + n ≡ n = omega arith in
    ap (λ m. part w n k ++ cond (m % w == k) (m ∷ []) []) z ∙ ap (λ b. part w n k ++ cond b (n ∷ []) []) e ∙ append-nil (part w n k)

-- ---- between two places of a part there is none

-- a number less than w further on leaves another rest
mod_between : (w n i : ℕ) → 0 < i → i < w → (n + i) % w ≡ n % w → ⊥
mod_between w n i low high e =
    let split : n / w * w + n % w ≡ n = div-add-mod' n w in
    let below : n % w < w = mod_below n w (omega arith) in
    elim (cases_lt (n % w + i) w) [
      | inl h ↦
          let same : n / w * w + (n % w + i) ≡ n + i = omega arith in
          let rest : (n + i) % w ≡ n % w + i = ap (λ k. k % w) (sym same) ∙ mod-mul-add (n / w) w (n % w + i) h in
          absurd (omega arith)
      | inr h ↦
          let grown : suc (n / w) * w ≡ n / w * w + w = suc-mul (n / w) w in
          let same : suc (n / w) * w + (n % w + i - w) ≡ n + i = omega arith in
          let rest : (n + i) % w ≡ n % w + i - w = ap (λ k. k % w) (sym same) ∙ mod-mul-add (suc (n / w)) w (n % w + i - w) (omega arith) in
          absurd (omega arith)
    ]

-- up to the next place of a part nothing is added to it
part_between : (w n k i : ℕ) → n % w ≡ k → i < w → part w (suc n + i) k ≡ part w (suc n) k
part_between w n k zero e h = let z : suc n + 0 ≡ suc n = omega arith in ap (λ m. part w m k) z
part_between w n k (suc i) e h =
    let z : suc n + suc i ≡ suc (n + suc i) = omega arith in
    let other : ((n + suc i) % w == k) ≡ false =
    ne_eqb ((n + suc i) % w) k (λ same. mod_between w n (suc i) (omega arith) h (same ∙ sym e)) in
    let y : n + suc i ≡ suc n + i = omega arith in
    ap (λ m. part w m k) z ∙ part_no w (n + suc i) k other ∙ ap (λ m. part w m k) y ∙ part_between w n k i e (omega arith)

-- the part where the next place isn't there
pub part_end : (w n k m : ℕ) → n % w ≡ k → n < m → m ≤ n + w → part w m k ≡ part w (suc n) k
part_end w n k m e low high =
    let z : m ≡ suc n + (m - suc n) = omega arith in
    ap (λ j. part w j k) z ∙ part_between w n k (m - suc n) e (omega arith)

pub mod_next : (w n : ℕ) → 0 < w → (n + w) % w ≡ n % w
mod_next w n low =
    let split : n / w * w + n % w ≡ n = div-add-mod' n w in
    let below : n % w < w = mod_below n w low in
    let grown : suc (n / w) * w ≡ n / w * w + w = suc-mul (n / w) w in
    let same : suc (n / w) * w + n % w ≡ n + w = omega arith in
    ap (λ k. k % w) (sym same) ∙ mod-mul-add (suc (n / w)) w (n % w) below

-- the part once the next place is there
pub part_next : (w n k : ℕ) → 0 < w → n % w ≡ k → part w (suc (n + w)) k ≡ part w (suc n) k ++ (n + w) ∷ []
part_next w n k low e = part_yes w (n + w) k (mod_next w n low ∙ e)
    ∙ ap (λ l. l ++ (n + w) ∷ []) (part_end w n k (n + w) e (omega arith) (omega arith))

pub mod_small : (w n : ℕ) → n < w → n % w ≡ n
mod_small w n h = let same : 0 * w + n ≡ n = omega arith in ap (λ k. k % w) (sym same) ∙ mod-mul-add 0 w n h

none_before : (w k n : ℕ) → k < w → n ≤ k → part w n k ≡ []
none_before w k zero h l = refl
none_before w k (suc n) h l = part_no w n k (ne_eqb (n % w) k (λ e. let f = mod_small w n (omega arith) in absurd (omega arith)))
    ∙ none_before w k n h (omega arith)

-- the part up to its first place
pub part_first : (w k : ℕ) → k < w → part w (suc k) k ≡ k ∷ []
part_first w k h = part_yes w k k (mod_small w k h) ∙ ap (λ l. l ++ k ∷ []) (none_before w k k h (omega arith))

-- ---- the units of a part, one after another

pub record HasDealt (units : List (List ℕ)) (parts first number : ℕ) (found : List (List ℕ)) : Type 0 where
  pub within : number < length units
  pub in_part : number % parts ≡ first
  pub is : found ≡ picked_units units (part parts (suc number) first)

pub dealt_first : (units : List (List ℕ)) (parts first : ℕ) (unit : List ℕ) (found : List (List ℕ)) → first < parts → parts ≤ length units
    → unit ≡ slice_index_or units first [] → found ≡ [] ++ unit ∷ [] → HasDealt units parts first first found
dealt_first units parts first unit found low few is_unit more = record {
  within = omega (arith, low, few);
  in_part = mod_small parts first low;
  is = more ∙ ap (λ u. u ∷ []) is_unit ∙ ap (picked_units units) (sym (part_first parts first low));
}

pub dealt_next : (units : List (List ℕ)) (parts first number : ℕ) (unit : List ℕ) (found found' : List (List ℕ)) → first < parts
    → HasDealt units parts first number found → parts < length units - number
    → unit ≡ slice_index_or units (number + parts) [] → found' ≡ found ++ unit ∷ [] → HasDealt units parts first (number + parts) found'
dealt_next units parts first number unit found found' low so_far there is_unit more = record {
  within = omega (arith, there);
  in_part = mod_next parts number (omega (arith, low)) ∙ so_far.in_part;
  is = more ∙ ap (λ l. l ++ unit ∷ []) so_far.is
      ∙ ap (λ u. picked_units units (part parts (suc number) first) ++ u ∷ []) is_unit
      ∙ sym (map-append (λ i. slice_index_or units i []) (part parts (suc number) first) ((number + parts) ∷ []))
      ∙ ap (picked_units units) (sym (part_next parts number first (omega (arith, low)) so_far.in_part));
}

pub dealt_all : (units : List (List ℕ)) (parts first number : ℕ) (found : List (List ℕ)) → HasDealt units parts first number found
    → length units - number ≤ parts → found ≡ picked_units units (part parts (length units) first)
dealt_all units parts first number found so_far last =
    let within = so_far.within in
    so_far.is ∙ ap (picked_units units) (sym (part_end parts number first (length units) so_far.in_part within
    (omega (arith, last, within))))

-- one part more
pub parts_more : (w m n : ℕ) → map (part w m) (range_with_len 0 (n + 1)) ≡ map (part w m) (range_with_len 0 n) ++ part w m n ∷ []
parts_more w m n = map-range_with_len_more (part w m) 0 n n (omega arith)

-- ---- all parts

pub record HasPlanned (units : List (List ℕ)) (count n : ℕ) (found : List (List (List ℕ))) : Type 0 where
  pub is : found ≡ map (picked_units units) (map (part count (length units)) (range_with_len 0 n))

pub planned_more : (units : List (List ℕ)) (count n : ℕ) (one : List (List ℕ)) (found found' : List (List (List ℕ)))
    → HasPlanned units count n found → one ≡ picked_units units (part count (length units) n) → found' ≡ found ++ one ∷ []
    → HasPlanned units count (n + 1) found'
planned_more units count n one found found' so_far is_one more = record {
  is = more ∙ ap (λ l. l ++ one ∷ []) so_far.is
      ∙ ap (λ o. map (picked_units units) (map (part count (length units)) (range_with_len 0 n)) ++ o ∷ []) is_one
      ∙ sym (map-append (picked_units units) (map (part count (length units)) (range_with_len 0 n)) (part count (length units) n ∷ []))
      ∙ ap (map (picked_units units)) (sym (parts_more count (length units) n));
}

-- ---- how often a place stands in the parts

abbrev pub times : ℕ → List ℕ → ℕ
times i xs = count_by (λ j. j == i) xs

pub times-append : (i : ℕ) (xs ys : List ℕ) → times i (xs ++ ys) ≡ times i xs + times i ys
times-append i xs ys = sum_by-append (λ j. cond (j == i) 1 0) xs ys

times-one : (i : ℕ) (xs : List ℕ) (n : ℕ) → times i (xs ++ n ∷ []) ≡ times i xs + cond (n == i) 1 0
times-one i xs n = times-append i xs (n ∷ []) ∙ let z : 0 + cond (n == i) 1 0 ≡ cond (n == i) 1 0 = omega arith in
    ap (λ t. times i xs + t) z

times_past : (w m k i : ℕ) → m ≤ i → times i (part w m k) ≡ 0
times_past w zero k i h = refl
times_past w (suc m) k i h =
    let ih = times_past w m k i (omega arith) in
    elim (m % w == k) as (λ b. (m % w == k) ≡ b → times i (part w (suc m) k) ≡ 0) [
      | true ↦ λ e. ap (times i) (part_yes w m k (eqb-true (m % w) k e)) ∙ times-one i (part w m k) m
          ∙ ap (λ b. times i (part w m k) + cond b 1 0) (ne_eqb m i (λ s. omega arith)) ∙ omega arith
      | false ↦ λ e. ap (times i) (part_no w m k e) ∙ ih
    ] refl

times_other : (w m k i : ℕ) → (i % w ≡ k → ⊥) → times i (part w m k) ≡ 0
times_other w zero k i h = refl
times_other w (suc m) k i h =
    let ih = times_other w m k i h in
    elim (m % w == k) as (λ b. (m % w == k) ≡ b → times i (part w (suc m) k) ≡ 0) [
      | true ↦ λ e. let it = eqb-true (m % w) k e in
          ap (times i) (part_yes w m k it) ∙ times-one i (part w m k) m
          ∙ ap (λ b. times i (part w m k) + cond b 1 0) (ne_eqb m i (λ s. h (ap (λ n. n % w) (sym s) ∙ it))) ∙ omega arith
      | false ↦ λ e. ap (times i) (part_no w m k e) ∙ ih
    ] refl

times_own : (w m i : ℕ) → i < m → times i (part w m (i % w)) ≡ 1
times_own w zero i h = absurd (omega arith)
times_own w (suc m) i h = elim (cases_lt i m) [
  | inl before ↦
      let ih = times_own w m i before in
      elim (m % w == i % w) as (λ b. (m % w == i % w) ≡ b → times i (part w (suc m) (i % w)) ≡ 1) [
        | true ↦ λ e. ap (times i) (part_yes w m (i % w) (eqb-true (m % w) (i % w) e)) ∙ times-one i (part w m (i % w)) m
            ∙ ap (λ b. times i (part w m (i % w)) + cond b 1 0) (ne_eqb m i (λ s. omega arith)) ∙ omega arith
        | false ↦ λ e. ap (times i) (part_no w m (i % w) e) ∙ ih
      ] refl
  | inr at ↦
      let same : m ≡ i = omega arith in
      let past = times_past w m (i % w) i at in
      ap (times i) (part_yes w m (i % w) (ap (λ n. n % w) same)) ∙ times-one i (part w m (i % w)) m
      ∙ ap (λ b. times i (part w m (i % w)) + cond b 1 0) (eq-eqb m i same) ∙ omega arith
]

abbrev first_parts : ℕ → ℕ → ℕ → List ℕ
first_parts w m n = concat (map (part w m) (range_with_len 0 n))

one_part_more : (w m n : ℕ) → first_parts w m (suc n) ≡ first_parts w m n ++ part w m n
one_part_more w m n =
    let up : suc n ≡ n + 1 = omega arith in
    ap (first_parts w m) up ∙ ap concat (map-range_with_len_more (part w m) 0 n n (omega arith))
    ∙ concat-append (map (part w m) (range_with_len 0 n)) (part w m n ∷ []) ∙ ap (λ l. first_parts w m n ++ l) (append-nil (part w m n))

times-one_part_more : (w m n i : ℕ) → times i (first_parts w m (suc n)) ≡ times i (first_parts w m n) + times i (part w m n)
times-one_part_more w m n i = ap (times i) (one_part_more w m n) ∙ times-append i (first_parts w m n) (part w m n)

times_past_all : (w m n i : ℕ) → m ≤ i → times i (first_parts w m n) ≡ 0
times_past_all w m zero i h = refl
times_past_all w m (suc n) i h =
    let ih = times_past_all w m n i h in
    let here = times_past w m n i h in
    times-one_part_more w m n i ∙ omega arith

times_before : (w m n i : ℕ) → n ≤ i % w → times i (first_parts w m n) ≡ 0
times_before w m zero i h = refl
times_before w m (suc n) i h =
    let ih = times_before w m n i (omega arith) in
    let here = times_other w m n i (λ e. omega arith) in
    times-one_part_more w m n i ∙ omega arith

times_once : (w m n i : ℕ) → i < m → i % w < n → times i (first_parts w m n) ≡ 1
times_once w m zero i h l = absurd (omega arith)
times_once w m (suc n) i h l = elim (cases_lt (i % w) n) [
  | inl before ↦
      let ih = times_once w m n i h before in
      let here = times_other w m n i (λ e. omega arith) in
      times-one_part_more w m n i ∙ omega arith
  | inr at ↦
      let same : i % w ≡ n = omega arith in
      let none = times_before w m n i at in
      let here : times i (part w m n) ≡ 1 = subst (λ (k : ℕ). times i (part w m k) ≡ 1) same (times_own w m i h) in
      times-one_part_more w m n i ∙ omega arith
]

pub each_place_once : (w m i : ℕ) → 0 < w → times i (concat (dealt w m)) ≡ cond (nat_lt i m) 1 0
each_place_once w m i low = elim (cases_lt i m) [
  | inl inside ↦ times_once w m w i inside (mod_below i w low) ∙ ap (λ b. cond b 1 0) (sym (lt-ltb i m inside))
  | inr past ↦ times_past_all w m w i past ∙ ap (λ b. cond b 1 0) (sym (le-ltb i m past))
]
