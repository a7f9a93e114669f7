-- What was written of bulk strings and nulls is read back.
use Rattle.std.specs.List.{flat_map}
use Rattle.std.specs.Fmt.{decimal}
use Rattle.std.proofs.Common.{◌≡◌, ℕ, zero, suc, ◌+◌, ◌-◌, ◌*◌, ◌/◌, ◌%◌, ◌^◌, ◌<◌, ◌≤◌, ◌==◌, false, List, [], ◌∷◌, ◌++◌, length, drop, Option, Some, None}
use Rattle.std.proofs.Common.{refl, ap, sym, ◌∙◌, arith, append_assoc, length-append}
use Rattle.std.proofs.lemmas.Bool.Decides.{nat_tests}
use Rattle.std.proofs.lemmas.Fmt.{decimal_by_steps}
use Rattle.std.proofs.lemmas.List.{take_at, drop_at, flat_map_more}
use Rattle.resp.specs.Bulks.{bulk_text, bulk_at, bulks_at, length_on}

digit_on : (n d : ℕ) (rest : List ℕ) → d < 10 → length_on n ((48 + d) ∷ rest) ≡ length_on (n * 10 + d) rest
unfolding length_on
digit_on n d rest low =
    let no_end : (48 + d == 13) ≡ false = grind (arith, nat_tests) in
    let no_minus : (48 + d == 45) ≡ false = grind (arith, nat_tests) in
    let worth : 48 + d - 48 ≡ d = omega arith in
    rw (no_end, no_minus) (ap (λ k. length_on (n * 10 + k) rest) worth)

decimal_on : (n : ℕ) → n < 2 ^ 64 → (rest : List ℕ) → length_on 0 (decimal n ++ rest) ≡ length_on n rest
decimal_on = decimal_by_steps (λ n ds. (rest : List ℕ) → length_on 0 (ds ++ rest) ≡ length_on n rest)
    (λ n low rest. digit_on 0 n rest low ∙ ap (λ k. length_on k rest) (omega arith))
    (λ n ds high before rest.
    ap (length_on 0) (append_assoc ds ((48 + n % 10) ∷ []) rest) ∙ before ((48 + n % 10) ∷ rest)
    ∙ digit_on (n / 10) (n % 10) rest (omega arith) ∙ ap (λ k. length_on k rest) (omega arith))

-- the line's end
pub line_end : (n : ℕ) (rest : List ℕ) → length_on n (13 ∷ rest) ≡ (Some n, drop 1 rest)
unfolding length_on
line_end n rest = refl

-- the line of a bulk string's length
pub line_at : (bytes rest : List ℕ) → length bytes < 2 ^ 64
    → length_on 0 (decimal (length bytes) ++ 13 ∷ 10 ∷ rest) ≡ (Some (length bytes), rest)
line_at bytes rest small = decimal_on (length bytes) small (13 ∷ 10 ∷ rest) ∙ line_end (length bytes) (10 ∷ rest)

pub small_of : (bytes : List ℕ) → length (bulk_text (Some bytes)) < 2 ^ 64 → length bytes < 2 ^ 64
small_of bytes fits =
    omega (
      arith,
      length-append (decimal (length bytes) ++ 13 ∷ 10 ∷ []) bytes,
      length-append (decimal (length bytes) ++ 13 ∷ 10 ∷ [] ++ bytes) (13 ∷ 10 ∷ []),
    )

pub bulk_at-text : (item : Option (List ℕ)) (rest : List ℕ) → length (bulk_text item) < 2 ^ 64
    → bulk_at (bulk_text item ++ rest) ≡ (item, rest)
unfolding bulk_at length_on
bulk_at-text None rest fits = refl
bulk_at-text (Some bytes) rest fits =
    let n = length bytes in
    let line = line_at bytes (bytes ++ 13 ∷ 10 ∷ rest) (small_of bytes fits) in
    simp append_assoc (rw (line, take_at bytes (13 ∷ 10 ∷ rest) n refl, drop_at bytes (13 ∷ 10 ∷ rest) n refl) refl)

-- as many as were written
pub bulks_at-texts : (items : List (Option (List ℕ))) → length (flat_map bulk_text items) < 2 ^ 64
    → bulks_at (length items) (flat_map bulk_text items) ≡ items
unfolding bulks_at
bulks_at-texts [] fits = refl
bulks_at-texts (x ∷ xs) fits =
    let parts = length-append (bulk_text x) (flat_map bulk_text xs) in
    rw (bulk_at-text x (flat_map bulk_text xs) (omega arith)) (ap (λ l. x ∷ l) (bulks_at-texts xs (omega arith)))

pub length-bulks_at : (n : ℕ) (text : List ℕ) → length (bulks_at n text) ≡ n
unfolding bulks_at
length-bulks_at zero text = refl
length-bulks_at (suc n) text = ap suc (length-bulks_at n (bulk_at text).1)

length-bulk_text : (item : Option (List ℕ)) → 0 < length (bulk_text item)
length-bulk_text None = omega arith
length-bulk_text (Some bytes) = omega arith

few : (items : List (Option (List ℕ))) → length items ≤ length (flat_map bulk_text items)
few [] = omega arith
few (x ∷ xs) = omega (arith, few xs, length-bulk_text x, length-append (bulk_text x) (flat_map bulk_text xs))

-- where one more was written it is read behind the others, the texts are of those that are read, and their number has 64 bits
pub bulks_more : (n : ℕ) (text more : List ℕ) (item : Option (List ℕ)) → text ≡ flat_map bulk_text (bulks_at n text)
    → more ≡ text ++ bulk_text item → length more < 2 ^ 64
    → (bulks_at (n + 1) more ≡ bulks_at n text ++ item ∷ []) × (more ≡ flat_map bulk_text (bulks_at (n + 1) more)) × (n + 1 < 2 ^ 64)
bulks_more n text more item is goes fits =
    let items = bulks_at n text in
    let all = items ++ item ∷ [] in
    let whole : more ≡ flat_map bulk_text all = goes ∙ ap (λ t. t ++ bulk_text item) is ∙ flat_map_more bulk_text [] items item in
    let number : length all ≡ n + 1 = omega (arith, length-append items (item ∷ []), length-bulks_at n text) in
    let within : length (flat_map bulk_text all) < 2 ^ 64 = omega (arith, ap length whole) in
    let now : bulks_at (n + 1) more ≡ all = ap (λ k. bulks_at k more) (sym number) ∙ ap (bulks_at (length all)) whole
    ∙ bulks_at-texts all within in
    (now, whole ∙ ap (flat_map bulk_text) (sym now), omega (arith, few all))

pub no_bulks : (text : List ℕ) → text ≡ [] → text ≡ flat_map bulk_text (bulks_at 0 text)
unfolding bulks_at
no_bulks text none = none

pub none_at : (text : List ℕ) → bulks_at 0 text ≡ []
unfolding bulks_at
none_at text = refl
