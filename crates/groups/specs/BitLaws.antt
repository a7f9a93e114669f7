-- A set of groups in 64 bits: the places of a word's ones.
use Rattle.std.proofs.Common.{Decides, ◌≡◌, ℕ, zero, suc, ◌-◌, ◌*◌, ◌/◌, ◌%◌, ◌^◌, ◌<◌, ◌≤◌, ◌==◌, ◌||◌, ◌&&◌, nat_lt, Bool, true, false}
use Rattle.std.proofs.Common.{cond, List, [], ◌∷◌, inl, inr, refl, sym, ap, ◌∙◌, subst, arith, length, count_ones, bit_and, bit_or, w64}
use Rattle.std.proofs.Common.{pow-suc, eqb-true, eq-eqb, ne_eqb, ltb-true, lt-ltb, le-ltb}
use Rattle.std.proofs.lemmas.Bool.{cases_lt, cases_eq, cases_order, both_ways, and_parts}
use Rattle.std.proofs.lemmas.Nat.Bits.{bit_at_lowest, bit_at-suc, bit_at-zero, bit_at_set_same, bit_at_set_other, bit_at_clear_same}
use Rattle.std.proofs.lemmas.Nat.Bits.{bit_at_clear_other, bit_at-trailing_zeros, bit_at_ones, bit_at_ones_above, shr_and_one}
use Rattle.std.proofs.lemmas.Nat.{ones_le_self, zero_from_ones, or_lt}
use Rattle.std.specs.Int.{bit_at, bit_not, trailing_zeros}
use Rattle.std.specs.Int.Count.{ones_step}
use Rattle.groups.specs.GroupSet.{has, IsGroupSet, with_group, chosen}
use Rattle.groups.specs.Bits.{ones_of, number_of}
use Rattle.groups.specs.GroupSetLaws.{chosen_same, same_sets, has-chosen, IsAscending-chosen, with-chosen, and_false}

-- whether the bit of the group is 1
abbrev is_one : ℕ → ℕ → Bool
is_one n g = bit_at n g == 1

-- ---- the word of a set

shifted : (test : ℕ → Bool) (a m : ℕ) → number_of (chosen test (suc a) m) ≡ 2 * number_of (chosen (λ g. test (suc g)) a m)
unfolding chosen number_of
shifted test a zero = refl
shifted test a (suc m) =
    let rest = shifted test (suc a) m in let power = pow-suc 2 a in
    elim (test (suc a)) as (λ t. number_of (cond t (suc a ∷ chosen test (suc (suc a)) m) (chosen test (suc (suc a)) m))
    ≡ 2 * number_of (cond t (a ∷ chosen (λ g. test (suc g)) (suc a) m) (chosen (λ g. test (suc g)) (suc a) m))) [
      | true ↦ omega arith
      | false ↦ rest
    ]

halved_set : (m n : ℕ) → chosen (λ g. is_one n (suc g)) 0 m ≡ chosen (is_one (n / 2)) 0 m
halved_set m n = chosen_same _ _ m (λ g less. ap (λ b. b == 1) (bit_at-suc n g))

half_lt : (m n : ℕ) → n < 2 ^ suc m → n / 2 < 2 ^ m
half_lt m n h = let power = pow-suc 2 m in omega arith

number_of-bits : (m n : ℕ) → n < 2 ^ m → number_of (chosen (is_one n) 0 m) ≡ n
unfolding chosen number_of
number_of-bits zero n h = omega arith
number_of-bits (suc m) n h =
    let rest = shifted (is_one n) 0 m ∙ ap (λ gs. 2 * number_of gs) (halved_set m n)
    ∙ ap (λ k. 2 * k) (number_of-bits m (n / 2) (half_lt m n h)) in
    let low = bit_at_lowest n in
    elim (bit_at n 0 == 1) as (λ t. (bit_at n 0 == 1) ≡ t → number_of (cond t (0 ∷ chosen (is_one n) 1 m) (chosen (is_one n) 1 m)) ≡ n) [
      | true ↦ λ e. let one = eqb-true (bit_at n 0) 1 e in omega arith
      | false ↦ λ e. let not_one : bit_at n 0 ≡ 1 → ⊥ = (λ d. both_ways _ e (eq-eqb (bit_at n 0) 1 d)) in omega arith
    ] refl

pub number_of-ones : (n : ℕ) → n < 2 ^ 64 → number_of (ones_of n) ≡ n
number_of-ones n h = number_of-bits 64 n h

-- words with the same set are the same
pub same_words : (a b : ℕ) → a < 2 ^ 64 → b < 2 ^ 64 → ones_of a ≡ ones_of b → a ≡ b
same_words a b h l e = sym (number_of-ones a h) ∙ ap number_of e ∙ number_of-ones b l

-- ---- how many there are

moved_length : (test : ℕ → Bool) (a m : ℕ) → length (chosen test (suc a) m) ≡ length (chosen (λ g. test (suc g)) a m)
unfolding chosen
moved_length test a zero = refl
moved_length test a (suc m) =
    let rest = moved_length test (suc a) m in
    elim (test (suc a)) as (λ t. length (cond t (suc a ∷ chosen test (suc (suc a)) m) (chosen test (suc (suc a)) m))
    ≡ length (cond t (a ∷ chosen (λ g. test (suc g)) (suc a) m) (chosen (λ g. test (suc g)) (suc a) m))) [
      | true ↦ ap suc rest
      | false ↦ rest
    ]

length-bits : (m n : ℕ) → n < 2 ^ m → length (chosen (is_one n) 0 m) ≡ count_ones n
unfolding chosen
length-bits zero n h = let few = ones_le_self n in omega arith
length-bits (suc m) n h =
    let rest = moved_length (is_one n) 0 m ∙ ap (λ (gs : List ℕ). length gs) (halved_set m n) ∙ length-bits m (n / 2) (half_lt m n h) in
    let low = bit_at_lowest n in let step = ones_step n in
    elim (bit_at n 0 == 1) as (λ t. (bit_at n 0 == 1) ≡ t → length (cond t (0 ∷ chosen (is_one n) 1 m) (chosen (is_one n) 1 m))
    ≡ count_ones n) [
      | true ↦ λ e. let one = eqb-true (bit_at n 0) 1 e in omega arith
      | false ↦ λ e. let not_one : bit_at n 0 ≡ 1 → ⊥ = (λ d. both_ways _ e (eq-eqb (bit_at n 0) 1 d)) in omega arith
    ] refl

pub length-ones : (n : ℕ) → n < 2 ^ 64 → length (ones_of n) ≡ count_ones n
length-ones n h = length-bits 64 n h

-- ---- a group put in, the least taken out

pub ones_of-set : (n g : ℕ) → g < 64 → ones_of (bit_or n (1 * 2 ^ g % 2 ^ 64)) ≡ with_group (ones_of n) g
ones_of-set n g less = chosen_same _ _ 64 alike ∙ sym (with-chosen (is_one n) 64 g less)
  where
    alike : (h : ℕ) → h < 64 → is_one (bit_or n (1 * 2 ^ g % 2 ^ 64)) h ≡ (g == h || is_one n h)
    alike h below = elim (cases_eq g h) [
      | inl e ↦ ap (λ k. k == 1) (subst (λ k. bit_at (bit_or n (1 * 2 ^ g % 2 ^ 64)) k ≡ 1) e (bit_at_set_same w64 n g less))
          ∙ sym (ap (λ b. b || is_one n h) (eq-eqb g h e))
      | inr ne ↦ ap (λ k. k == 1) (bit_at_set_other w64 n g less h (λ e. ne (sym e))) ∙ sym (ap (λ b. b || is_one n h) (ne_eqb g h ne))
    ]

-- the word with one more group still has 64 bits
pub set_fits : (n g : ℕ) → n < 2 ^ 64 → bit_or n (1 * 2 ^ g % 2 ^ 64) < 2 ^ 64
set_fits n g h = or_lt 64 n (1 * 2 ^ g % 2 ^ 64) h (omega arith)

-- the test of one bit
pub has-ones : (n g : ℕ) → g < 64 → (bit_and (n / 2 ^ g) 1 == 1) ≡ has (ones_of n) g
has-ones n g less = ap (λ b. b == 1) (shr_and_one n g) ∙ sym (ap (λ b. b && is_one n g) (lt-ltb g 64 less))
    ∙ sym (has-chosen (is_one n) 64 g)

-- a word is 0 where no group is in the set
pub none_of-zero : (n : ℕ) → n < 2 ^ 64 → (n == 0) ≡ (length (ones_of n) == 0)
none_of-zero n h = elim (cases_eq n 0) [
  | inl e ↦ let few = ones_le_self n in eq-eqb n 0 e ∙ sym (ap (λ k. k == 0) (length-ones n h) ∙ eq-eqb (count_ones n) 0 (omega arith))
  | inr ne ↦ ne_eqb n 0 ne ∙ sym (ap (λ k. k == 0) (length-ones n h) ∙ ne_eqb (count_ones n) 0 (λ e. ne (zero_from_ones n e)))
]

pub ones_of-zero : ones_of 0 ≡ []
ones_of-zero = chosen_same _ (λ _. false) 64 (λ g less. ap (λ b. b == 1) (bit_at-zero g))
    ∙ same_sets _ [] (IsAscending-chosen (λ _. false) 0 64) tt (λ g. has-chosen (λ _. false) 64 g ∙ and_false (nat_lt g 64))

-- the word of the first k groups
pub ones_of-first : (k : ℕ) → k ≤ 64 → ones_of (2 ^ k - 1) ≡ chosen (λ _. true) 0 k
ones_of-first k h = same_sets _ _ (IsAscending-chosen (is_one (2 ^ k - 1)) 0 64) (IsAscending-chosen (λ _. true) 0 k)
    (λ g. has-chosen (is_one (2 ^ k - 1)) 64 g ∙ alike g ∙ sym (has-chosen (λ _. true) k g))
  where
    alike : (g : ℕ) → (nat_lt g 64 && is_one (2 ^ k - 1) g) ≡ (nat_lt g k && true)
    alike g = elim (cases_lt g k) [
      | inl less ↦ ap (λ b. b && is_one (2 ^ k - 1) g) (lt-ltb g 64 (omega arith)) ∙ ap (λ b. b == 1) (bit_at_ones k g less)
          ∙ sym (ap (λ b. b && true) (lt-ltb g k less))
      | inr more ↦ ap (λ b. nat_lt g 64 && b == 1) (bit_at_ones_above k g more) ∙ and_false (nat_lt g 64)
          ∙ sym (ap (λ b. b && true) (le-ltb g k more))
    ]

-- where k is the least place of a one, it comes first, and a word without that one has the rest
taken_out : (n n' k : ℕ) → k < 64 → bit_at n k ≡ 1 → ((i : ℕ) → i < k → bit_at n i ≡ 0) → bit_at n' k ≡ 0
    → ((i : ℕ) → i < 64 → (i ≡ k → ⊥) → bit_at n' i ≡ bit_at n i) →
    ones_of n ≡ k ∷ ones_of n'
taken_out n n' k within one below gone others =
    same_sets _ _ (IsAscending-chosen (is_one n) 0 64) (above, IsAscending-chosen (is_one n') 0 64)
    (λ g. has-chosen (is_one n) 64 g ∙ alike g ∙ ap (λ b. k == g || b) (sym (has-chosen (is_one n') 64 g)))
  where
    above : (h : ℕ) → has (ones_of n') h ≡ true → k < h
    above h there =
        let parts = and_parts (nat_lt h 64) (is_one n' h) (sym (has-chosen (is_one n') 64 h) ∙ there) in
        let it : bit_at n' h ≡ 1 = eqb-true _ 1 parts.1 in
        elim (cases_order k h) [
          | inl e ↦ let gone' : bit_at n' h ≡ 0 = subst (λ i. bit_at n' i ≡ 0) e gone in absurd (omega arith)
          | inr (inl less) ↦ less
          | inr (inr more) ↦ let same = others h (ltb-true h 64 parts.0) (λ e. omega arith) in let zero' = below h more in
              absurd (omega arith)
        ]

    alike : (g : ℕ) → (nat_lt g 64 && is_one n g) ≡ (k == g || (nat_lt g 64 && is_one n' g))
    alike g = elim (cases_eq k g) [
      | inl e ↦ let it : is_one n g ≡ true = subst (λ i. is_one n i ≡ true) e (eq-eqb (bit_at n k) 1 one) in
          let less : g < 64 = omega arith in
          ap (λ b. b && is_one n g) (lt-ltb g 64 less) ∙ it ∙ sym (ap (λ b. b || (nat_lt g 64 && is_one n' g)) (eq-eqb k g e))
      | inr ne ↦ elim (cases_lt g 64) [
        | inl less ↦ ap (λ i. nat_lt g 64 && i == 1) (sym (others g less (λ e. ne (sym e))))
            ∙ sym (ap (λ b. b || (nat_lt g 64 && is_one n' g)) (ne_eqb k g ne))
        | inr more ↦ ap (λ b. b && is_one n g) (le-ltb g 64 more) ∙ sym (ap (λ b. b && is_one n' g) (le-ltb g 64 more))
            ∙ sym (ap (λ b. b || (nat_lt g 64 && is_one n' g)) (ne_eqb k g ne))
      ]
    ]

pub ones_of-lowest : (n : ℕ) → (n ≡ 0 → ⊥) → n < 2 ^ 64 →
    ones_of n ≡ trailing_zeros w64 n ∷ ones_of (bit_and n (bit_not w64 (1 * 2 ^ trailing_zeros w64 n % 2 ^ 64)))
ones_of-lowest n some h =
    let least = bit_at-trailing_zeros w64 n (omega arith) h in
    taken_out n _ (trailing_zeros w64 n) least.0 least.1 least.2 (bit_at_clear_same w64 n _ least.0) (bit_at_clear_other w64 n _ least.0)

-- a set in a word is a set of groups
pub IsGroupSet-ones : (n : ℕ) → IsGroupSet (ones_of n)
IsGroupSet-ones n = record {
  ascending = IsAscending-chosen (is_one n) 0 64;
  below_64 = λ g there. ltb-true g 64 (and_parts (nat_lt g 64) (is_one n g) (sym (has-chosen (is_one n) 64 g) ∙ there)).0;
}

-- `==` of words tells whether their sets are the same
pub Decides-words : (a b : ℕ) → a < 2 ^ 64 → b < 2 ^ 64 → Decides (a == b) (ones_of a ≡ ones_of b)
Decides-words a b h l = (λ e. ap ones_of (eqb-true a b e), λ e. eq-eqb a b (same_words a b h l e))
