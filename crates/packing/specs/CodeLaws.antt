-- What was put is read back, and how long it is.
use Rattle.std.specs.Prelude.{◌≡◌, ℕ, zero, suc, ◌+◌, ◌-◌, ◌≤◌, ◌<◌, ◌^◌, List, [], ◌∷◌, ◌++◌, length, take, drop, nat_le, ◌==◌, true}
use Rattle.std.specs.Prelude.{false, refl, Some, slice_get}
use Rattle.std.specs.List.{flat_map, AllByRecursion}
use Rattle.std.specs.Int.{w32, w64, to_le_bytes}
use Rattle.std.proofs.Common.{add-one, sym, ap, ◌∙◌, arith, ⊎_elim, length-append}
use Rattle.std.proofs.lemmas.Bool.Decides.{nat_tests}
use Rattle.std.proofs.lemmas.Bool.{cases_lt, lt-ltb, le-ltb, le-leb}
use Rattle.std.proofs.lemmas.List.{append_assoc, append-nil, take-append-drop, take_at, drop_at, take_more, drop_more}
use Rattle.std.proofs.lemmas.List.Concat.{flat_map-append}
use Rattle.std.proofs.lemmas.Option.{slice_get_within, get_or_from_slice_get}
use Rattle.std.proofs.lemmas.Nat.{from_le_bytes-to_le_bytes_4, from_le_bytes-to_le_bytes_8}
use Rattle.packing.specs.Codes.{number_code, number_at, word_code, word_at, many, words_code, words_at, WordFits, WordsFit}

-- ---- one element of a list on

pub take_one : {A : Type 0} (xs : List A) (i : ℕ) (x : A) → slice_get xs i ≡ Some x → take (i + 1) xs ≡ take i xs ++ x ∷ []
take_one xs i x at = take_more xs i x (slice_get_within xs i x at) ∙ ap (λ y. take i xs ++ y ∷ []) (get_or_from_slice_get xs i x x at)

pub drop_one : {A : Type 0} (xs : List A) (i : ℕ) (x : A) → slice_get xs i ≡ Some x → drop i xs ≡ x ∷ drop (i + 1) xs
drop_one xs i x at = drop_more xs i x (slice_get_within xs i x at) ∙ ap (λ y. y ∷ drop (i + 1) xs) (get_or_from_slice_get xs i x x at)

pub at_drop : {A : Type 0} (xs : List A) (i : ℕ) (y : A) (ys : List A) → y ∷ ys ≡ drop i xs → (slice_get xs i ≡ Some y) ×
    (ys ≡ drop (i + 1) xs)
at_drop [] zero y ys e = cc
at_drop [] (suc i) y ys e = cc
at_drop (x ∷ xs) zero y ys e = (cc, cc)
at_drop (x ∷ xs) (suc i) y ys e = let r = at_drop xs i y ys e in (r.0, r.1 ∙ rw (add-one, add-one) refl)

pub take_codes : {A : Type 0} (code : A → List ℕ) (xs : List A) (i : ℕ) (x : A) → slice_get xs i ≡ Some x
    → flat_map code (take (i + 1) xs) ≡ flat_map code (take i xs) ++ code x
take_codes code xs i x at =
    ap (flat_map code) (take_one xs i x at) ∙ flat_map-append code (take i xs) (x ∷ []) ∙ ap (λ c. flat_map code (take i xs) ++ c)
    (append-nil (code x))

pub drop_codes : {A : Type 0} (code : A → List ℕ) (xs : List A) (i : ℕ) (x : A) → slice_get xs i ≡ Some x
    → flat_map code (drop i xs) ≡ code x ++ flat_map code (drop (i + 1) xs)
drop_codes code xs i x at = ap (flat_map code) (drop_one xs i x at)

-- the first ones take no more than all of them
pub size_rest : {A : Type 0} (code : A → List ℕ) (xs : List A) (i : ℕ) → length (flat_map code (take i xs)) ≤ length (flat_map code xs)
size_rest code xs i =
    let e = ap length (sym (flat_map-append code (take i xs) (drop i xs)) ∙ ap (flat_map code) (take-append-drop i xs)) in
    omega (arith, e, length-append (flat_map code (take i xs)) (flat_map code (drop i xs)))

pub all_more : {A : Type 0} (P : A → Type 0) (xs : List A) (x : A) → AllByRecursion P xs → P x → AllByRecursion P (xs ++ x ∷ [])
all_more P [] x all p = (p, tt)
all_more P (y ∷ ys) x all p = (all.0, all_more P ys x all.1 p)

pub all_one : {A : Type 0} (P : A → Type 0) (xs : List A) (i : ℕ) (x : A) → slice_get xs i ≡ Some x
    → AllByRecursion P (take i xs) → P x → AllByRecursion P (take (i + 1) xs)
all_one P xs i x at all p = rw (take_one xs i x at) (all_more P (take i xs) x all p)

-- ---- numbers

pub number_code-one : (n : ℕ) → n < 254 → number_code n ≡ n ∷ []
unfolding number_code
number_code-one n h = rw (lt-ltb n 254 h) refl

pub number_code-four : (n : ℕ) → 254 ≤ n → n < 2 ^ 32 → number_code n ≡ 254 ∷ to_le_bytes w32 n
unfolding number_code
number_code-four n g h = rw (le-ltb n 254 g, lt-ltb n (2 ^ 32) h) refl

pub number_code-eight : (n : ℕ) → 2 ^ 32 ≤ n → number_code n ≡ 255 ∷ to_le_bytes w64 n
unfolding number_code
number_code-eight n g = let h : 254 ≤ n = omega arith in rw (le-ltb n 254 h, le-ltb n (2 ^ 32) g) refl

number_at-one : (n : ℕ) (rest : List ℕ) → n < 254 → number_at (n ∷ rest) ≡ (n, rest)
unfolding number_at
number_at-one n rest h =
    let no : (n == 255) ≡ false = grind (arith, nat_tests) in let not : (n == 254) ≡ false = grind (arith, nat_tests) in rw (no, not) refl

number_at-four : (n : ℕ) (rest : List ℕ) → n < 2 ^ 32 → number_at (254 ∷ (to_le_bytes w32 n ++ rest)) ≡ (n, rest)
unfolding number_at
number_at-four n rest h =
    let long : nat_le 4 (length (to_le_bytes w32 n ++ rest)) ≡ true = le-leb 4 _ (omega arith) in
    rw long (ap (λ m. (m, rest)) (from_le_bytes-to_le_bytes_4 n h))

number_at-eight : (n : ℕ) (rest : List ℕ) → n < 2 ^ 64 → number_at (255 ∷ (to_le_bytes w64 n ++ rest)) ≡ (n, rest)
unfolding number_at
number_at-eight n rest h =
    let long : nat_le 8 (length (to_le_bytes w64 n ++ rest)) ≡ true = le-leb 8 _ (omega arith) in
    rw long (ap (λ m. (m, rest)) (from_le_bytes-to_le_bytes_8 n h))

pub number_at-code : (n : ℕ) (rest : List ℕ) → n < 2 ^ 64 → number_at (number_code n ++ rest) ≡ (n, rest)
number_at-code n rest h = ⊎_elim
    (λ one. rw (number_code-one n one) (number_at-one n rest one))
    (λ more. ⊎_elim
    (λ four. rw (number_code-four n more four) (number_at-four n rest four))
    (λ eight. rw (number_code-eight n eight) (number_at-eight n rest h))
    (cases_lt n (2 ^ 32)))
    (cases_lt n 254)

pub number_code-some : (n : ℕ) → 0 < length (number_code n)
number_code-some n = ⊎_elim
    (λ one. rw (number_code-one n one) (omega arith))
    (λ more. ⊎_elim
    (λ four. rw (number_code-four n more four) (omega arith))
    (λ eight. rw (number_code-eight n eight) (omega arith))
    (cases_lt n (2 ^ 32)))
    (cases_lt n 254)

pub number_code-few : (n : ℕ) → length (number_code n) ≤ 9
number_code-few n = ⊎_elim
    (λ one. rw (number_code-one n one) (omega arith))
    (λ more. ⊎_elim
    (λ four. rw (number_code-four n more four) (omega arith))
    (λ eight. rw (number_code-eight n eight) (omega arith))
    (cases_lt n (2 ^ 32)))
    (cases_lt n 254)

pub ruleset number_codes = (number_code-one, number_code-four, number_code-eight)

-- ---- words

pub word_at-code : (word rest : List ℕ) → WordFits word → word_at (word_code word ++ rest) ≡ (word, rest)
unfolding word_at word_code
word_at-code word rest h = rw (
  append_assoc,
  number_at-code (length word) (word ++ rest) h.size,
  take_at word rest (length word) refl,
  drop_at word rest (length word) refl,
) refl

pub word_code-is : (word : List ℕ) → word_code word ≡ number_code (length word) ++ word
unfolding word_code
word_code-is word = refl

pub words_code-is : (words : List (List ℕ)) → words_code words ≡ number_code (length words) ++ flat_map word_code words
unfolding words_code
words_code-is words = refl

pub length-words_code : (words : List (List ℕ)) → length (words_code words) ≡ length (number_code (length words)) + length
    (flat_map word_code words)
unfolding words_code
length-words_code words = length-append (number_code (length words)) (flat_map word_code words)

pub length-word_code : (word : List ℕ) → length (word_code word) ≡ length (number_code (length word)) + length word
unfolding word_code
length-word_code word = length-append (number_code (length word)) word

pub ruleset word_sizes = (length-word_code)

-- ---- many of anything

pub many_one : {A : Type 0} (at : List ℕ → A × List ℕ) (n i : ℕ) (bytes : List ℕ) → i < n
    → (((many at (n - i) bytes).0 ≡ (at bytes).0 ∷ (many at (n - (i + 1)) (at bytes).1).0)
    × ((many at (n - i) bytes).1 ≡ (many at (n - (i + 1)) (at bytes).1).1))
many_one at n i bytes h = let e : n - i ≡ suc (n - (i + 1)) = omega arith in rw e (refl, refl)

pub many-codes : {A : Type 0} (code : A → List ℕ) (at : List ℕ → A × List ℕ) (Fits : A → Type 0)
    → ((x : A) (rest : List ℕ) → Fits x → at (code x ++ rest) ≡ (x, rest))
    → (xs : List A) (rest : List ℕ) → AllByRecursion Fits xs → many at (length xs) (flat_map code xs ++ rest) ≡ (xs, rest)
many-codes code at Fits reads [] rest fit = refl
many-codes code at Fits reads (x ∷ xs) rest fit =
    rw (append_assoc, reads x (flat_map code xs ++ rest) fit.0, many-codes code at Fits reads xs rest fit.1) refl

pub length-many : {A : Type 0} (at : List ℕ → A × List ℕ) (n : ℕ) (bytes : List ℕ) → length (many at n bytes).0 ≡ n
length-many at zero bytes = refl
length-many at (suc n) bytes = ap suc (length-many at n (at bytes).1)

pub length-words_at : (bytes : List ℕ) → length (words_at bytes).0 ≡ (number_at bytes).0
unfolding words_at
length-words_at bytes = length-many word_at (number_at bytes).0 (number_at bytes).1

pub words_at-is : (bytes : List ℕ) → words_at bytes ≡ many word_at (number_at bytes).0 (number_at bytes).1
unfolding words_at
words_at-is bytes = refl

pub words_at-code : (words : List (List ℕ)) (rest : List ℕ) → WordsFit words → words_at (words_code words ++ rest) ≡ (words, rest)
unfolding words_at words_code
words_at-code words rest fit =
    rw (append_assoc, number_at-code (length words) (flat_map word_code words ++ rest) fit.count)
    (many-codes word_code word_at WordFits word_at-code words rest fit.each)
