-- Words, counts of words and whole requests.
use Rattle.std.proofs.Common.{◌≡◌, ℕ, zero, suc, ◌^◌, ◌<◌, ◌≤◌, List, [], ◌∷◌, ◌++◌, length, replicate, Option, Some, None, Ok, refl, sym}
use Rattle.std.proofs.Common.{ap, subst, arith}
use Rattle.std.specs.List.{flat_map, AllByRecursion}
use Rattle.std.proofs.lemmas.List.{map-append, length-replicate}
use Rattle.resp.specs.Text.{crlf}
use Rattle.resp_decoder.specs.declared.fault.Fault.TheVariants.{ExpectedStar, ExpectedDollar, ExpectedCrlf}
use Rattle.resp_decoder.specs.declared.limits.Limits.{Limits}
use Rattle.resp_decoder.specs.Texts.{Marked, mark, number_marks, word_marks, Item, item_marks, IsLawful}
use Rattle.resp_decoder.specs.Parsing.{Parsed, ◌>>=◌, byte_at, line_at, some_at, number_at, word_at, words_at, count_at, head_at, body_at}
use Rattle.resp_decoder.specs.Parsing.{item_at}
use Rattle.resp_decoder.proofs.Formats.{Reads, Both, both_marks, pair, seen, pair_reads, seen_reads, same_reads, then_seen, second_seen}
use Rattle.resp_decoder.proofs.Formats.{none_reads}
use Rattle.resp_decoder.proofs.Bytes.{Always, HasLength, byte_reads, line_reads, some_reads}
use Rattle.resp_decoder.proofs.Numbers.{IsWithin, number_reads, IsCount, count_marks, count_reads}

-- ---- words

-- so many bytes on a line of their own
abbrev rest_of_word : ℕ → List ℕ → Parsed (List ℕ)
rest_of_word n b = some_at n b >>= λ word. line_at ExpectedCrlf word.1 >>= λ end. Ok (word.0, end.1)

abbrev bytes_marks : List ℕ → Marked
bytes_marks word = mark ExpectedCrlf (word ++ crlf)

bytes_read : (n : ℕ) → Reads (rest_of_word n) (HasLength n) bytes_marks
bytes_read n =
    let two = pair (some_at n) (λ word. line_at ExpectedCrlf) in
    same_reads (seen (λ p. p.0) two) (rest_of_word n) (HasLength n) bytes_marks
    (seen_reads two (Both (HasLength n) (λ word. Always)) (both_marks (mark ExpectedCrlf) (λ word end. mark ExpectedCrlf crlf)) (λ p. p.0)
    (HasLength n) bytes_marks
    (pair_reads (some_at n) (HasLength n) (mark ExpectedCrlf) (λ word. line_at ExpectedCrlf) (λ word. Always)
    (λ word end. mark ExpectedCrlf crlf)
    (some_reads n ExpectedCrlf) (λ word h. line_reads ExpectedCrlf) (λ word h. (tt, tt)))
    (λ p h. (h.0, map-append (λ (b : ℕ). (b, ExpectedCrlf)) p.0 crlf))
    (λ word h. ((word, tt), (h, tt), refl)))
    (then_seen (λ word end. word) (some_at n) (λ word. line_at ExpectedCrlf))

-- a length and then so many bytes
abbrev behind_dollar : ℕ → List ℕ → Parsed (List ℕ)
behind_dollar bulk b = number_at bulk b >>= λ n. rest_of_word n.0 n.1

abbrev IsWord : ℕ → List ℕ → Type 0
IsWord bulk word = length word ≤ bulk

abbrev sized_marks : List ℕ → Marked
sized_marks word = number_marks (length word) ++ bytes_marks word

sized_reads : (bulk : ℕ) → bulk < 2 ^ 32 → Reads (behind_dollar bulk) (IsWord bulk) sized_marks
sized_reads bulk small =
    let two = pair (number_at bulk) rest_of_word in
    same_reads (seen (λ p. p.1) two) (behind_dollar bulk) (IsWord bulk) sized_marks
    (seen_reads two (Both (IsWithin bulk) HasLength) (both_marks number_marks (λ n. bytes_marks)) (λ p. p.1) (IsWord bulk) sized_marks
    (pair_reads (number_at bulk) (IsWithin bulk) number_marks rest_of_word HasLength (λ n. bytes_marks)
    (number_reads bulk small) (λ n h. bytes_read n) (λ n h. (replicate n 0, length-replicate {A = ℕ} n 0)))
    (λ p h. (subst (IsWithin bulk) (sym h.1) h.0, ap (λ (n : ℕ). number_marks n ++ bytes_marks p.1) h.1))
    (λ word h. ((length word, word), (h, refl), refl)))
    (second_seen (number_at bulk) rest_of_word)

pub word_reads : (bulk : ℕ) → bulk < 2 ^ 32 → Reads (word_at bulk) (IsWord bulk) word_marks
unfolding word_at
word_reads bulk small =
    let two = pair (byte_at 36 ExpectedDollar) (λ dollar. behind_dollar bulk) in
    same_reads (seen (λ p. p.1) two) (word_at bulk) (IsWord bulk) word_marks
    (seen_reads two (Both Always (λ dollar. IsWord bulk)) (both_marks (λ dollar. (36, ExpectedDollar) ∷ []) (λ dollar. sized_marks))
    (λ p. p.1) (IsWord bulk) word_marks
    (pair_reads (byte_at 36 ExpectedDollar) Always (λ dollar. (36, ExpectedDollar) ∷ []) (λ dollar. behind_dollar bulk)
    (λ dollar. IsWord bulk) (λ dollar. sized_marks)
    (byte_reads 36 ExpectedDollar) (λ dollar h. sized_reads bulk small) (λ dollar h. ([], omega arith)))
    (λ p h. (h.1, refl))
    (λ word h. ((tt, word), (tt, h), refl)))
    (second_seen (byte_at 36 ExpectedDollar) (λ dollar. behind_dollar bulk))

-- ---- so many words

abbrev pub AreWords : ℕ → ℕ → List (List ℕ) → Type 0
AreWords bulk n words = (length words ≡ n) × AllByRecursion (IsWord bulk) words

abbrev pub words_marks : List (List ℕ) → Marked
words_marks words = flat_map word_marks words

empty_words : (bulk n : ℕ) → (words : List (List ℕ)) × AreWords bulk n words
empty_words bulk zero = ([], (refl, tt))
empty_words bulk (suc n) = let ws = empty_words bulk n in ([] ∷ ws.0, (ap (λ (k : ℕ). suc k) ws.1.0, (omega arith, ws.1.1)))

abbrev cons : List ℕ × List (List ℕ) → List (List ℕ)
cons p = p.0 ∷ p.1

one_more : (bulk n : ℕ) (words : List (List ℕ)) → AreWords bulk (suc n) words → (p : List ℕ × List (List ℕ))
    × (IsWord bulk p.0 × AreWords bulk n p.1) × (cons p ≡ words)
one_more bulk n [] h = absurd (omega (arith, h.0))
one_more bulk n (word ∷ words) h = ((word, words), (h.1.0, (omega (arith, h.0), h.1.1)), refl)

no_words : (bulk : ℕ) (words : List (List ℕ)) → AreWords bulk 0 words → [] ≡ words
no_words bulk [] h = refl
no_words bulk (word ∷ words) h = absurd (omega (arith, h.0))

pub words_read : (bulk n : ℕ) → bulk < 2 ^ 32 → Reads (words_at bulk n) (AreWords bulk n) words_marks
unfolding words_at
words_read bulk zero small =
    let none : List (List ℕ) = [] in
    same_reads (seen (λ ws. ws) (λ b. Ok (none, b))) (words_at bulk zero) (AreWords bulk zero) words_marks
    (seen_reads (λ b. Ok (none, b)) (λ ws. ws ≡ none) (λ ws. []) (λ ws. ws) (AreWords bulk zero) words_marks (none_reads none)
    (λ ws h. subst (λ (w : List (List ℕ)). AreWords bulk zero w × (words_marks w ≡ [])) (sym h) ((refl, tt), refl))
    (λ ws h. ([], refl, no_words bulk ws h)))
    (λ b. refl)
words_read bulk (suc n) small =
    let two = pair (word_at bulk) (λ word. words_at bulk n) in
    same_reads (seen cons two) (words_at bulk (suc n)) (AreWords bulk (suc n)) words_marks
    (seen_reads two (Both (IsWord bulk) (λ word. AreWords bulk n)) (both_marks word_marks (λ word. words_marks)) cons
    (AreWords bulk (suc n)) words_marks
    (pair_reads (word_at bulk) (IsWord bulk) word_marks (λ word. words_at bulk n) (λ word. AreWords bulk n) (λ word. words_marks)
    (word_reads bulk small) (λ word h. words_read bulk n small) (λ word h. empty_words bulk n))
    (λ p h. ((ap (λ (k : ℕ). suc k) h.1.0, (h.0, h.1.1)), refl))
    (one_more bulk n))
    (then_seen (λ word words. word ∷ words) (word_at bulk) (λ word. words_at bulk n))

-- ---- a request

abbrev pub head_marks : Option ℕ → Marked
head_marks count = (42, ExpectedStar) ∷ count_marks count

pub head_reads : (max : ℕ) → max < 2 ^ 32 → Reads (head_at max) (IsCount max) head_marks
unfolding head_at
head_reads max small =
    let two = pair (byte_at 42 ExpectedStar) (λ star. count_at max) in
    same_reads (seen (λ p. p.1) two) (head_at max) (IsCount max) head_marks
    (seen_reads two (Both Always (λ star. IsCount max)) (both_marks (λ star. (42, ExpectedStar) ∷ []) (λ star. count_marks)) (λ p. p.1)
    (IsCount max) head_marks
    (pair_reads (byte_at 42 ExpectedStar) Always (λ star. (42, ExpectedStar) ∷ []) (λ star. count_at max) (λ star. IsCount max)
    (λ star. count_marks)
    (byte_reads 42 ExpectedStar) (λ star h. count_reads max small) (λ star h. (Some 0, omega arith)))
    (λ p h. (h.1, refl))
    (λ count h. ((tt, count), (tt, h), refl)))
    (second_seen (byte_at 42 ExpectedStar) (λ star. count_at max))

-- the item of a count
abbrev pub IsBody : ℕ → Option ℕ → Item → Type 0
IsBody bulk None None = Unit {0}
IsBody bulk None (Some words) = ⊥
IsBody bulk (Some n) None = ⊥
IsBody bulk (Some n) (Some words) = AreWords bulk n words

abbrev pub body_marks : Item → Marked
body_marks None = []
body_marks (Some words) = words_marks words

abbrev none_item : Item
none_item = None

body_none : (bulk : ℕ) (item : Item) → IsBody bulk None item → none_item ≡ item
body_none bulk None h = refl
body_none bulk (Some words) h = absurd h

body_some : (bulk n : ℕ) (item : Item) → IsBody bulk (Some n) item → (words : List (List ℕ)) × AreWords bulk n words × (Some words ≡ item)
body_some bulk n None h = absurd h
body_some bulk n (Some words) h = (words, h, refl)

body_reads : (bulk : ℕ) (count : Option ℕ) → bulk < 2 ^ 32 → Reads (body_at bulk count) (IsBody bulk count) body_marks
unfolding body_at
body_reads bulk None small =
    same_reads (seen (λ i. i) (λ b. Ok (none_item, b))) (body_at bulk None) (IsBody bulk None) body_marks
    (seen_reads (λ b. Ok (none_item, b)) (λ i. i ≡ none_item) (λ i. []) (λ i. i) (IsBody bulk None) body_marks (none_reads none_item)
    (λ i h. subst (λ (w : Item). IsBody bulk None w × (body_marks w ≡ [])) (sym h) (tt, refl))
    (λ i h. (None, refl, body_none bulk i h)))
    (λ b. refl)
body_reads bulk (Some n) small =
    same_reads (seen (λ words. Some words) (words_at bulk n)) (body_at bulk (Some n)) (IsBody bulk (Some n)) body_marks
    (seen_reads (words_at bulk n) (AreWords bulk n) words_marks (λ words. Some words) (IsBody bulk (Some n)) body_marks
    (words_read bulk n small)
    (λ words h. (h, refl))
    (body_some bulk n))
    (λ b. refl)

some_body : (bulk : ℕ) (count : Option ℕ) → (item : Item) × IsBody bulk count item
some_body bulk None = (None, tt)
some_body bulk (Some n) = let ws = empty_words bulk n in (Some ws.0, ws.1)

item_from : (limits : Limits) (count : Option ℕ) (item : Item) → IsCount limits.words count → IsBody limits.bulk count item
    → IsLawful limits item × (item_marks item ≡ head_marks count ++ body_marks item)
item_from limits None None h i = (tt, refl)
item_from limits None (Some words) h i = absurd i
item_from limits (Some n) None h i = absurd i
item_from limits (Some n) (Some words) h i =
    ((subst (IsWithin limits.words) (sym i.0) h, i.1), ap (λ (k : ℕ). (42, ExpectedStar) ∷ (number_marks k ++ words_marks words)) i.0)

item_back : (limits : Limits) (item : Item) → IsLawful limits item → (p : Option ℕ × Item)
    × (IsCount limits.words p.0 × IsBody limits.bulk p.0 p.1) × (p.1 ≡ item)
item_back limits None h = ((None, None), (tt, tt), refl)
item_back limits (Some words) h = ((Some (length words), Some words), (h.0, (refl, h.1)), refl)

-- The reader reads the grammar.
pub item_reads : (limits : Limits) → Reads (item_at limits) (IsLawful limits) item_marks
unfolding item_at
item_reads limits =
    let two = pair (head_at limits.words) (body_at limits.bulk) in
    same_reads (seen (λ p. p.1) two) (item_at limits) (IsLawful limits) item_marks
    (seen_reads two (Both (IsCount limits.words) (IsBody limits.bulk)) (both_marks head_marks (λ count. body_marks)) (λ p. p.1)
    (IsLawful limits) item_marks
    (pair_reads (head_at limits.words) (IsCount limits.words) head_marks (body_at limits.bulk) (IsBody limits.bulk) (λ count. body_marks)
    (head_reads limits.words limits.few_words) (λ count h. body_reads limits.bulk count limits.short_bulk)
    (λ count h. some_body limits.bulk count))
    (λ p h. item_from limits p.0 p.1 h.0 h.1)
    (item_back limits))
    (second_seen (head_at limits.words) (body_at limits.bulk))
