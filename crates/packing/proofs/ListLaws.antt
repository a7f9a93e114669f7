-- Lists that were put one behind another are what is read.
use Rattle.std.proofs.Common.{◌≡◌, ℕ, ◌+◌, ◌-◌, ◌≤◌, ◌<◌, ◌^◌, List, [], ◌∷◌, ◌++◌, length, map, take, get_or, refl, ap, sym, subst, ◌∙◌, arith}
use Rattle.std.proofs.Common.{length-append, slice_index, add-one, ⊎_elim}
use Rattle.std.specs.List.{flat_map, AllByRecursion}
use Rattle.std.proofs.lemmas.Bool.{cases_lt}
use Rattle.std.proofs.lemmas.List.{append_assoc, append-nil, get_or-append-add, get_or_past, length-map, length_push, take_at}
use Rattle.std.proofs.lemmas.List.Concat.{flat_map-append}
use Rattle.packing.specs.Codes.{number_code, word_code, words_code, WordFits, WordsFit}
use Rattle.packing.specs.CodeLaws.{many-codes, word_at-code, length-word_code, number_code-some, all_more, word_code-is}
use Rattle.packing.specs.CodeLaws.{words_code-is}
use Rattle.packing.specs.Lists.{list_code, list_at, lists_in, lists_size, ListFits, AreLists}
use Rattle.packing.proofs.PackedLaws.{packed_read}

list_at-code : (words : List (List ℕ)) (rest : List ℕ) → ListFits words → list_at (list_code words ++ rest) ≡ (words, rest)
unfolding list_at
list_at-code words rest fit = rw (word_at-code (words_code words) rest fit.code, packed_read words (words_code words) refl fit.own) refl

pub lists_in-codes : (lists : List (List (List ℕ))) → AllByRecursion ListFits lists
    → lists_in (length lists) (flat_map list_code lists) ≡ lists
lists_in-codes lists fit =
    ap (λ bytes. lists_in (length lists) bytes) (sym (append-nil (flat_map list_code lists)))
    ∙ ap (λ r. r.0) (many-codes list_code list_at ListFits list_at-code lists [] fit)

-- a list takes a byte at least, so there are no more lists than bytes
pub lists-few : (lists : List (List (List ℕ))) → length lists ≤ lists_size lists
lists-few [] = omega arith
lists-few (words ∷ lists) = omega (
  arith,
  lists-few lists,
  length-append (list_code words) (flat_map list_code lists),
  length-word_code (words_code words),
  number_code-some (length (words_code words)),
)

pub no_lists : AreLists (lists_in 0 []) 0 []
no_lists = record { counted = refl; coded = refl; fit = tt }

codes-last : (front : List (List (List ℕ))) (last : List (List ℕ))
    → flat_map list_code (front ++ last ∷ []) ≡ flat_map list_code front ++ list_code last
codes-last front last = flat_map-append list_code front (last ∷ []) ∙ ap (λ c. flat_map list_code front ++ c) (append-nil (list_code last))

-- the bytes are these lists, which are what is read of them
pub record AreRead (lists : List (List (List ℕ))) (count : ℕ) (bytes : List ℕ) : Type 0 where
  pub same : lists_in count bytes ≡ lists
  pub are : AreLists (lists_in count bytes) count bytes

read_of : (lists : List (List (List ℕ))) (count : ℕ) (bytes : List ℕ) → AreLists lists count bytes → AreRead lists count bytes
read_of lists count bytes are =
    let same : lists_in count bytes ≡ lists = rw (are.counted, are.coded) (lists_in-codes lists are.fit) in
    record { same = same; are = rw same are }

-- with one more behind them
pub read_more : (lists : List (List (List ℕ))) (last : List (List ℕ)) (count : ℕ) (bytes more : List ℕ) → AreLists lists count bytes
    → more ≡ bytes ++ list_code last → ListFits last → AreRead (lists ++ last ∷ []) (count + 1) more
read_more lists last count bytes more are put fit = read_of (lists ++ last ∷ []) (count + 1) more (record {
  counted = omega (arith, are.counted, length_push lists last);
  coded = put ∙ ap (λ b. b ++ list_code last) are.coded ∙ sym (codes-last lists last);
  fit = all_more ListFits lists last are.fit fit;
})

all_front : (P : List (List ℕ) → Type 0) (front back : List (List (List ℕ))) → AllByRecursion P (front ++ back) → AllByRecursion P front
all_front P [] back all = tt
all_front P (l ∷ front) back all = (all.0, all_front P front back all.1)

-- without the last one
read_less : (front : List (List (List ℕ))) (last : List (List ℕ)) (count place : ℕ) (bytes : List ℕ)
    → AreLists (front ++ last ∷ []) count bytes → place ≡ lists_size front → AreRead front (count - 1) (take place bytes)
read_less front last count place bytes are here = read_of front (count - 1) (take place bytes) (record {
  counted = omega (arith, are.counted, length_push front last);
  coded = rw (are.coded, codes-last front last) (take_at (flat_map list_code front) (list_code last) place (sym here));
  fit = all_front ListFits front (last ∷ []) are.fit;
})

same_front : (front back : List (List (List ℕ))) (last end : List (List ℕ)) → front ++ last ∷ [] ≡ back ++ end ∷ [] → front ≡ back
same_front front back last end same =
    let one = ap length same in
    let long : length front ≡ length back = omega (arith, length_push front last, length_push back end) in
    sym (take_at front (last ∷ []) (length back) long) ∙ ap (take (length back)) same ∙ take_at back (end ∷ []) (length back) refl

pub read_back : (front back : List (List (List ℕ))) (last end : List (List ℕ)) (lists : List (List (List ℕ))) (count place : ℕ) (bytes : List ℕ)
    → AreLists lists count bytes → lists ≡ front ++ last ∷ [] → place ≡ lists_size front → lists ≡ back ++ end ∷ []
    → AreRead back (count - 1) (take place bytes)
read_back front back last end lists count place bytes are split here other =
    subst (λ f. AreRead f (count - 1) (take place bytes)) (same_front front back last end (sym split ∙ other))
    (read_less front last count place bytes (subst (λ l. AreLists l count bytes) split are) here)

-- ---- the words of a list, each in one word

pub codes-mapped : (lists : List (List (List ℕ))) → flat_map list_code lists ≡ flat_map word_code (map words_code lists)
codes-mapped [] = refl
codes-mapped (l ∷ lists) = ap (λ c. list_code l ++ c) (codes-mapped lists)

words_fit : (lists : List (List (List ℕ))) → AllByRecursion ListFits lists → AllByRecursion WordFits (map words_code lists)
words_fit [] fit = tt
words_fit (l ∷ lists) fit = (fit.0.code, words_fit lists fit.1)

pub own_fit : (lists : List (List (List ℕ))) → AllByRecursion ListFits lists → AllByRecursion WordsFit lists
own_fit [] fit = tt
own_fit (l ∷ lists) fit = (fit.0.own, own_fit lists fit.1)

-- a copy of them behind a name
pub list_words : (name : List ℕ) (lists : List (List (List ℕ))) (bytes : List ℕ) → AllByRecursion ListFits lists
    → length lists < 2 ^ 63 → WordFits name
    → bytes ≡ (number_code (length lists + 1) ++ (number_code (length name) ++ name)) ++ flat_map list_code lists
    → (bytes ≡ words_code (name ∷ map words_code lists)) × WordsFit (name ∷ map words_code lists)
list_words name lists bytes fit few named put =
    let whole = words_code-is (name ∷ map words_code lists) in (
      put ∙ rw (whole, word_code-is name, codes-mapped lists, length-map lists words_code, add-one) (simp append_assoc),
      record {
        some = omega arith;
        count = omega (arith, length-map lists words_code);
        each = (named, words_fit lists fit);
      },
    )

-- bytes of which these are the last
pub last_bytes : (front word whole : List ℕ) → whole ≡ front ++ word → ((i d : ℕ) → i < length whole → get_or whole i d < 256)
    → (i : ℕ) → slice_index word i < 256
last_bytes front word whole put low i = ⊎_elim
    (λ within.
    let j : length front + i < length whole = omega (arith, ap length put, length-append front word) in
    let at : get_or whole (length front + i) 0 ≡ get_or word i 0 =
    ap (λ b. get_or b (length front + i) 0) put ∙ get_or-append-add front word i 0 in
    let below = low (length front + i) 0 j in omega (arith, at, below))
    (λ past. let none = get_or_past word i 0 past in omega (arith, none))
    (cases_lt i (length word))
