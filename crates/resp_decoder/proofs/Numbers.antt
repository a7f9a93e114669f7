-- Counts and lengths: the digits of a line and their number.
use Rattle.std.proofs.Common.{◌≡◌, ℕ, ◌+◌, ◌-◌, ◌*◌, ◌/◌, ◌%◌, ◌^◌, ◌<◌, ◌≤◌, Bool, true, false, eqb, ltb, leb, ◌&&◌, cond, List, [], ◌∷◌}
use Rattle.std.proofs.Common.{◌++◌, Option, Some, None, Result, Ok, Err, inl, inr, refl, sym, ap, subst, ◌∙◌, append_assoc, arith}
use Rattle.std.specs.Fmt.{decimal}
use Rattle.std.proofs.lemmas.Fmt.{decimal_step, decimal_digit, decimal_by_steps}
use Rattle.std.proofs.lemmas.List.{append-nil}
use Rattle.std.proofs.lemmas.Bool.{cases_Bool, le-leb, lt-ltb, leb-true, ltb-true, and_parts, and_from, cond-true, cond-false, ne_eqb}
use Rattle.std.proofs.lemmas.Bool.{eqb-true}
use Rattle.resp_decoder.specs.declared.fault.Fault.TheVariants.{BadLength}
use Rattle.resp_decoder.specs.declared.parsing.Stop.{Stop}
use Rattle.resp_decoder.specs.declared.parsing.Stop.TheVariants.{Bad}
use Rattle.resp_decoder.specs.Texts.{Marked, number_marks}
use Rattle.resp_decoder.specs.Parsing.{◌>>=◌, NoValue, byte_at, line_at, is_more, is_first, number_on, number_at, minus_one_at, count_at}
use Rattle.resp_decoder.proofs.Formats.{Reads, mapped, seen, seen_reads, same_reads}
use Rattle.resp_decoder.proofs.Lines.{Place, AtCount, AtLength, Minus, MinusOne, Digits, step, first_step, final, ended, line_on, IsPath}
use Rattle.resp_decoder.proofs.Lines.{line_marks, line_some, line_none, path_some, path_back, path_end, end_final, lines_read}

-- ---- the number of the digits

-- the number that further digits make of n
unfoldable pub value_on : ℕ → List ℕ → ℕ
value_on n [] = n
value_on n (d ∷ ds) = value_on (n * 10 + (d - 48)) ds

-- the number of a length's digits
unfoldable pub length_value : List ℕ → ℕ
length_value [] = 0
length_value (d ∷ ds) = value_on (d - 48) ds

-- the count that a count's bytes are
unfoldable pub count_value : List ℕ → Option ℕ
count_value [] = None
count_value (d ∷ ds) = cond (eqb d 45) None (Some (value_on (d - 48) ds))

mapped_mapped : {A B C : Type 0} (f : B → C) (g : A → B) (q : Result (A × List ℕ) Stop) → mapped f (mapped g q) ≡ mapped (λ a. f (g a)) q
mapped_mapped f g (Ok x) = refl
mapped_mapped f g (Err e) = refl

-- ---- the readers read digits

number_on_seen : (max n : ℕ) (b : List ℕ) → number_on max n b ≡ seen (value_on n) (line_on max (Digits n)) b
unfolding number_on line_on value_on
number_on_seen max n [] = refl
number_on_seen max n (b ∷ bs) =
    let more = n * 10 + (b - 48) in
    elim (cases_Bool (is_more max n b)) [
      | inl yes_more ↦
          let stepped : step max (Digits n) b ≡ Some (Digits more) = cond-true (is_more max n b) (Some (Digits more)) None yes_more in
          cond-true (is_more max n b) (number_on max more bs) (mapped (λ e. n) (line_at BadLength (b ∷ bs))) yes_more
          ∙ number_on_seen max more bs
          ∙ sym (mapped_mapped (value_on n) (λ ds. b ∷ ds) (line_on max (Digits more) bs))
          ∙ ap (mapped (value_on n)) (sym (line_some max (Digits n) b bs (Digits more) stepped))
      | inr no_more ↦
          let stepped : step max (Digits n) b ≡ None = cond-false (is_more max n b) (Some (Digits more)) None no_more in
          cond-false (is_more max n b) (number_on max more bs) (mapped (λ e. n) (line_at BadLength (b ∷ bs))) no_more
          ∙ sym (mapped_mapped (value_on n) (λ e. []) (line_at BadLength (b ∷ bs)))
          ∙ ap (mapped (value_on n)) (sym (line_none max (Digits n) b bs stepped))
    ]

mapped_same : {A B : Type 0} (f g : A → B) (q : Result (A × List ℕ) Stop) → ((a : A) → f a ≡ g a) → mapped f q ≡ mapped g q
mapped_same f g (Ok x) same = ap (λ b. Ok (b, x.1)) (same x.0)
mapped_same f g (Err e) same = refl

-- where a first digit may come, and nothing else
first_seen : {C : Type 0} (max : ℕ) (place : Place) (f : List ℕ → C) (g : ℕ → C) (b : ℕ) (bs : List ℕ) → step max place b ≡ first_step max b
    → final place ≡ false → ((ds : List ℕ) → g (value_on (b - 48) ds) ≡ f (b ∷ ds))
    → mapped g (number_at max (b ∷ bs)) ≡ seen f (line_on max place) (b ∷ bs)
unfolding number_at
first_seen max place f g b bs first never same =
    let n = b - 48 in
    elim (cases_Bool (is_first max b)) [
      | inl yes_first ↦
          let stepped : step max place b ≡ Some (Digits n) = first ∙ cond-true (is_first max b) (Some (Digits n)) None yes_first in
          ap (mapped g) (cond-true (is_first max b) (number_on max n bs) (Err (Bad BadLength)) yes_first ∙ number_on_seen max n bs)
          ∙ mapped_mapped g (value_on n) (line_on max (Digits n) bs)
          ∙ mapped_same (λ ds. g (value_on n ds)) (λ ds. f (b ∷ ds)) (line_on max (Digits n) bs) same
          ∙ sym (mapped_mapped f (λ ds. b ∷ ds) (line_on max (Digits n) bs))
          ∙ ap (mapped f) (sym (line_some max place b bs (Digits n) stepped))
      | inr no_first ↦
          let stepped : step max place b ≡ None = first ∙ cond-false (is_first max b) (Some (Digits n)) None no_first in
          ap (mapped g) (cond-false (is_first max b) (number_on max n bs) (Err (Bad BadLength)) no_first)
          ∙ ap (mapped f) (sym (line_none max place b bs stepped ∙ ap (λ (t : Bool). ended t (b ∷ bs)) never))
    ]

mapped_id : (q : Result (ℕ × List ℕ) Stop) → mapped (λ n. n) q ≡ q
mapped_id (Ok x) = refl
mapped_id (Err e) = refl

number_at_seen : (max : ℕ) (b : List ℕ) → number_at max b ≡ seen length_value (line_on max AtLength) b
unfolding number_at line_on length_value
number_at_seen max [] = refl
number_at_seen max (b ∷ bs) = sym (mapped_id (number_at max (b ∷ bs)))
    ∙ first_seen max AtLength length_value (λ n. n) b bs refl refl (λ ds. refl)

-- behind `-1`
minus_one_seen : (max : ℕ) (b : List ℕ) → mapped {B = List ℕ} (λ e. []) (line_at BadLength b) ≡ line_on max MinusOne b
unfolding line_at byte_at line_on
minus_one_seen max [] = refl
minus_one_seen max (b ∷ bs) = refl

minus_seen : {C : Type 0} (max : ℕ) (f : List ℕ → C) (c : C) (bs : List ℕ) → ((ds : List ℕ) → c ≡ f ds)
    → mapped (λ e. c) (byte_at 49 BadLength bs >>= λ one. line_at BadLength one.1) ≡ mapped f (line_on max Minus bs)
unfolding byte_at line_on
minus_seen max f c [] same = refl
minus_seen {C} max f c (b ∷ bs) same =
    let rest = λ (read : Result (NoValue × List ℕ) Stop). mapped (λ (e : NoValue). c) (read >>= λ one. line_at BadLength one.1) in
    elim (cases_Bool (eqb b 49)) [
      | inl is_one ↦
          let stepped : step max Minus b ≡ Some MinusOne = cond-true (eqb b 49) (Some MinusOne) None is_one in
          ap rest (cond-true (eqb b 49) (Ok (tt, bs)) (Err (Bad BadLength)) is_one)
          ∙ mapped_same (λ e. c) (λ e. f (b ∷ [])) (line_at BadLength bs) (λ e. same (b ∷ []))
          ∙ sym (mapped_mapped (λ ds. f (b ∷ ds)) (λ e. []) (line_at BadLength bs))
          ∙ ap (mapped (λ ds. f (b ∷ ds))) (minus_one_seen max bs)
          ∙ sym (mapped_mapped f (λ ds. b ∷ ds) (line_on max MinusOne bs))
          ∙ ap (mapped f) (sym (line_some max Minus b bs MinusOne stepped))
      | inr other ↦
          let stepped : step max Minus b ≡ None = cond-false (eqb b 49) (Some MinusOne) None other in
          ap rest (cond-false (eqb b 49) (Ok (tt, bs)) (Err (Bad BadLength)) other) ∙ ap (mapped f) (sym (line_none max Minus b bs stepped))
    ]

abbrev some_count : ℕ → Option ℕ
some_count n = Some n

count_at_seen : (max : ℕ) (b : List ℕ) → count_at max b ≡ seen count_value (line_on max AtCount) b
unfolding count_at minus_one_at byte_at line_on count_value
count_at_seen max [] = refl
count_at_seen max (b ∷ bs) =
    let n = b - 48 in
    let rest = λ (read : Result (NoValue × List ℕ) Stop). mapped {B = Option ℕ} (λ (e : NoValue). None)
    (read >>= λ minus. byte_at 49 BadLength minus.1 >>= λ one. line_at BadLength one.1) in
    let negative = rest (byte_at 45 BadLength (b ∷ bs)) in
    let positive = mapped some_count (number_at max (b ∷ bs)) in
    elim (cases_Bool (eqb b 45)) [
      | inl is_minus ↦
          let stepped : step max AtCount b ≡ Some Minus = cond-true (eqb b 45) (Some Minus) (first_step max b) is_minus in
          cond-true (eqb b 45) negative positive is_minus
          ∙ ap rest (cond-true (eqb b 45) (Ok (tt, bs)) (Err (Bad BadLength)) is_minus)
          ∙ minus_seen max (λ ds. count_value (b ∷ ds)) None bs (λ ds. sym (cond-true (eqb b 45) None (Some (value_on n ds)) is_minus))
          ∙ sym (mapped_mapped count_value (λ ds. b ∷ ds) (line_on max Minus bs))
          ∙ ap (mapped count_value) (sym (line_some max AtCount b bs Minus stepped))
      | inr other ↦
          let stepped : step max AtCount b ≡ first_step max b = cond-false (eqb b 45) (Some Minus) (first_step max b) other in
          cond-false (eqb b 45) negative positive other
          ∙ first_seen max AtCount count_value some_count b bs stepped refl
          (λ ds. sym (cond-false (eqb b 45) None (Some (value_on n ds)) other))
    ]

-- ---- the digits of a number are its decimal text

-- a byte that may follow
record Follows (max n b : ℕ) : Type 0 where
  positive : 0 < n
  from_zero : 48 ≤ b
  to_nine : b ≤ 57
  within : n * 10 + (b - 48) ≤ max

follows : (max n b : ℕ) → is_more max n b ≡ true → Follows max n b
follows max n b e =
    let p = and_parts (ltb 0 n) (leb 48 b && (leb b 57 && leb (n * 10 + (b - 48)) max)) e in
    let q = and_parts (leb 48 b) (leb b 57 && leb (n * 10 + (b - 48)) max) p.1 in
    let r = and_parts (leb b 57) (leb (n * 10 + (b - 48)) max) q.1 in
    record {
      positive = ltb-true 0 n p.0;
      from_zero = leb-true 48 b q.0;
      to_nine = leb-true b 57 r.0;
      within = leb-true (n * 10 + (b - 48)) max r.1;
    }

may_follow : (max n b : ℕ) → Follows max n b → is_more max n b ≡ true
may_follow max n b f =
    and_from (ltb 0 n) (leb 48 b && (leb b 57 && leb (n * 10 + (b - 48)) max)) (lt-ltb 0 n f.positive)
    (and_from (leb 48 b) (leb b 57 && leb (n * 10 + (b - 48)) max) (le-leb 48 b f.from_zero)
    (and_from (leb b 57) (leb (n * 10 + (b - 48)) max) (le-leb b 57 f.to_nine) (le-leb (n * 10 + (b - 48)) max f.within)))

record IsFirst (max b : ℕ) : Type 0 where
  from_zero : 48 ≤ b
  to_nine : b ≤ 57
  within : b - 48 ≤ max

leads : (max b : ℕ) → is_first max b ≡ true → IsFirst max b
leads max b e =
    let q = and_parts (leb 48 b) (leb b 57 && leb (b - 48) max) e in
    let r = and_parts (leb b 57) (leb (b - 48) max) q.1 in
    record { from_zero = leb-true 48 b q.0; to_nine = leb-true b 57 r.0; within = leb-true (b - 48) max r.1 }

may_lead : (max b : ℕ) → IsFirst max b → is_first max b ≡ true
may_lead max b f =
    and_from (leb 48 b) (leb b 57 && leb (b - 48) max) (le-leb 48 b f.from_zero)
    (and_from (leb b 57) (leb (b - 48) max) (le-leb b 57 f.to_nine) (le-leb (b - 48) max f.within))

-- where a step by a test leads
chosen : (b : Bool) (s t : Place) → cond b (Some s) None ≡ Some t → (b ≡ true) × (s ≡ t)
chosen true s t e = (refl, cc)
chosen false s t e = absurd cc

digits_step : (max n d : ℕ) (t : Place) → step max (Digits n) d ≡ Some t → Follows max n d × (Digits (n * 10 + (d - 48)) ≡ t)
digits_step max n d t e =
    let c = chosen (is_more max n d) (Digits (n * 10 + (d - 48))) t e in
    (follows max n d c.0, c.1)

-- one more digit in the decimal text
decimal_more : (n d : ℕ) → 0 < n → 48 ≤ d → d ≤ 57 → n * 10 + (d - 48) < 2 ^ 32 → decimal (n * 10 + (d - 48)) ≡ decimal n ++ d ∷ []
decimal_more n d positive low high small =
    let m = n * 10 + (d - 48) in
    let front : m / 10 ≡ n = omega arith in
    let last : 48 + m % 10 ≡ d = omega arith in
    decimal_step m (omega arith) (omega arith) ∙ rw (front, last) refl

path_on : (max n : ℕ) → max < 2 ^ 32 → n ≤ max → (ds : List ℕ) → IsPath max (Digits n) ds → (value_on n ds ≤ max)
    × (decimal (value_on n ds) ≡ decimal n ++ ds)
unfolding value_on
path_on max n small within [] path = (within, sym (append-nil (decimal n)))
path_on max n small within (d ∷ ds) path =
    let p = path_back max (Digits n) d ds path in
    let m = n * 10 + (d - 48) in
    let f = digits_step max n d p.0 p.1 in
    let q = path_on max m small f.0.within ds (subst (λ (t : Place). IsPath max t ds) (sym f.1) p.2) in (
      q.0,
      q.1 ∙ ap (λ (w : List ℕ). w ++ ds) (decimal_more n d f.0.positive f.0.from_zero f.0.to_nine (omega (arith, f.0.within)))
          ∙ append_assoc (decimal n) (d ∷ []) ds,
    )

-- with a first digit
first_digits : (max d : ℕ) (ds : List ℕ) (t : Place) → max < 2 ^ 32 → first_step max d ≡ Some t → IsPath max t ds
    → (value_on (d - 48) ds ≤ max) × (decimal (value_on (d - 48) ds) ≡ d ∷ ds)
first_digits max d ds t small e path =
    let c = chosen (is_first max d) (Digits (d - 48)) t e in
    let f = leads max d c.0 in
    let p = path_on max (d - 48) small f.within ds (subst (λ (t : Place). IsPath max t ds) (sym c.1) path) in
    let digit : 48 + (d - 48) ≡ d = omega (arith, f.from_zero) in
    (p.0, p.1 ∙ ap (λ (w : List ℕ). w ++ ds) (decimal_digit (d - 48) (omega (arith, f.to_nine)) ∙ ap (λ (k : ℕ). k ∷ []) digit))

pub length_digits : (max : ℕ) (ds : List ℕ) → max < 2 ^ 32 → IsPath max AtLength ds → (length_value ds ≤ max)
    × (decimal (length_value ds) ≡ ds)
unfolding length_value
length_digits max [] small path = let never = end_final max AtLength path in absurd cc
length_digits max (d ∷ ds) small path = let p = path_back max AtLength d ds path in first_digits max d ds p.0 small p.1 p.2

-- ---- and each number has its decimal text

path_push : (max n : ℕ) (ds : List ℕ) (d : ℕ) → IsPath max (Digits n) ds → Follows max (value_on n ds) d
    → IsPath max (Digits n) (ds ++ d ∷ []) × (value_on n (ds ++ d ∷ []) ≡ value_on n ds * 10 + (d - 48))
unfolding value_on
path_push max n [] d path f = (
  path_some max (Digits n) d [] (Digits (n * 10 + (d - 48)))
      (cond-true (is_more max n d) (Some (Digits (n * 10 + (d - 48)))) None (may_follow max n d f))
      (path_end max (Digits (n * 10 + (d - 48))) refl),
  refl,
)
path_push max n (c ∷ ds) d path f =
    let p = path_back max (Digits n) c ds path in
    let s = digits_step max n c p.0 p.1 in
    let m = n * 10 + (c - 48) in
    let q = path_push max m ds d (subst (λ (t : Place). IsPath max t ds) (sym s.1) p.2) f in
    (path_some max (Digits n) c (ds ++ d ∷ []) (Digits m) (p.1 ∙ ap (λ (t : Place). Some t) (sym s.1)) q.0, q.1)

length_push : (max : ℕ) (ds : List ℕ) (d : ℕ) → IsPath max AtLength ds → Follows max (length_value ds) d
    → IsPath max AtLength (ds ++ d ∷ []) × (length_value (ds ++ d ∷ []) ≡ length_value ds * 10 + (d - 48))
unfolding length_value
length_push max [] d path f = let never = end_final max AtLength path in absurd cc
length_push max (c ∷ ds) d path f =
    let p = path_back max AtLength c ds path in
    let s = chosen (is_first max c) (Digits (c - 48)) p.0 p.1 in
    let q = path_push max (c - 48) ds d (subst (λ (t : Place). IsPath max t ds) (sym s.1) p.2) f in
    (path_some max AtLength c (ds ++ d ∷ []) (Digits (c - 48)) (p.1 ∙ ap (λ (t : Place). Some t) (sym s.1)) q.0, q.1)

abbrev IsTextOf : ℕ → ℕ → List ℕ → Type 0
IsTextOf max n ds = n ≤ max → IsPath max AtLength ds × (length_value ds ≡ n)

one_digit : (max n : ℕ) → n < 10 → IsTextOf max n ((48 + n) ∷ [])
unfolding length_value value_on
one_digit max n small within =
    let back : 48 + n - 48 ≡ n = omega arith in
    let lead : IsFirst max (48 + n) = record { from_zero = omega arith; to_nine = omega arith; within = omega arith } in (
      path_some max AtLength (48 + n) [] (Digits (48 + n - 48))
          (cond-true (is_first max (48 + n)) (Some (Digits (48 + n - 48))) None (may_lead max (48 + n) lead))
          (path_end max (Digits (48 + n - 48)) refl),
      back,
    )

more_digits : (max n : ℕ) (ds : List ℕ) → 10 ≤ n → IsTextOf max (n / 10) ds → IsTextOf max n (ds ++ (48 + n % 10) ∷ [])
more_digits max n ds large front within =
    let p = front (omega arith) in
    let d = 48 + n % 10 in
    let follow : Follows max (length_value ds) d = record {
      positive = omega (arith, p.1);
      from_zero = omega arith;
      to_nine = omega arith;
      within = omega (arith, p.1);
    } in
    let q = length_push max ds d p.0 follow in
    (q.0, omega (arith, p.1, q.1))

pub decimal_path : (max n : ℕ) → max < 2 ^ 32 → n ≤ max → IsPath max AtLength (decimal n) × (length_value (decimal n) ≡ n)
decimal_path max n small within = decimal_by_steps (IsTextOf max) (one_digit max) (more_digits max) n (omega arith) within

-- ---- lengths and counts are read

abbrev pub IsWithin : ℕ → ℕ → Type 0
IsWithin max n = n ≤ max

pub number_reads : (max : ℕ) → max < 2 ^ 32 → Reads (number_at max) (IsWithin max) number_marks
number_reads max small =
    same_reads (seen length_value (line_on max AtLength)) (number_at max) (IsWithin max) number_marks
    (seen_reads (line_on max AtLength) (IsPath max AtLength) line_marks length_value (IsWithin max) number_marks (lines_read max AtLength)
    (λ ds path. let p = length_digits max ds small path in (p.0, ap line_marks p.1))
    (λ n within. let p = decimal_path max n small within in (decimal n, p.0, p.1)))
    (number_at_seen max)

abbrev pub IsCount : ℕ → Option ℕ → Type 0
IsCount max None = Unit {0}
IsCount max (Some n) = n ≤ max

abbrev pub count_marks : Option ℕ → Marked
count_marks None = line_marks (45 ∷ 49 ∷ [])
count_marks (Some n) = number_marks n

minus_one_path : (max : ℕ) (ds : List ℕ) → IsPath max MinusOne ds → ds ≡ []
minus_one_path max [] path = refl
minus_one_path max (d ∷ ds) path = let p = path_back max MinusOne d ds path in let never : None ≡ Some p.0 = p.1 in absurd cc

minus_path : (max : ℕ) (ds : List ℕ) → IsPath max Minus ds → ds ≡ 49 ∷ []
minus_path max [] path = let never = end_final max Minus path in absurd cc
minus_path max (d ∷ ds) path =
    let p = path_back max Minus d ds path in
    let c = chosen (eqb d 49) MinusOne p.0 p.1 in
    let none_left = minus_one_path max ds (subst (λ (t : Place). IsPath max t ds) (sym c.1) p.2) in
    let is_one = eqb-true d 49 c.0 in
    cc

count_digits : (max : ℕ) (ds : List ℕ) → max < 2 ^ 32 → IsPath max AtCount ds → IsCount max (count_value ds)
    × (count_marks (count_value ds) ≡ line_marks ds)
unfolding count_value
count_digits max [] small path = let never = end_final max AtCount path in absurd cc
count_digits max (d ∷ ds) small path =
    let p = path_back max AtCount d ds path in
    let n = value_on (d - 48) ds in
    let at = λ (c : Option ℕ). IsCount max c × (count_marks c ≡ line_marks (d ∷ ds)) in
    elim (cases_Bool (eqb d 45)) [
      | inl is_minus ↦
          let to_minus : Some Minus ≡ Some p.0 = sym (cond-true (eqb d 45) (Some Minus) (first_step max d) is_minus) ∙ p.1 in
          let same : Minus ≡ p.0 = cc in
          let rest = minus_path max ds (subst (λ (t : Place). IsPath max t ds) (sym same) p.2) in
          let first = eqb-true d 45 is_minus in
          let whole : 45 ∷ 49 ∷ [] ≡ d ∷ ds = cc in
          subst at (sym (cond-true (eqb d 45) None (Some n) is_minus)) (tt, ap line_marks whole)
      | inr other ↦
          let first : first_step max d ≡ Some p.0 = sym (cond-false (eqb d 45) (Some Minus) (first_step max d) other) ∙ p.1 in
          let q = first_digits max d ds p.0 small first p.2 in
          subst at (sym (cond-false (eqb d 45) None (Some n) other)) (q.0, ap line_marks q.1)
    ]

length_to_count : (max : ℕ) (ds : List ℕ) → IsPath max AtLength ds → IsPath max AtCount ds × (count_value ds ≡ Some (length_value ds))
unfolding count_value length_value
length_to_count max [] path = let never = end_final max AtLength path in absurd cc
length_to_count max (d ∷ ds) path =
    let p = path_back max AtLength d ds path in
    let c = chosen (is_first max d) (Digits (d - 48)) p.0 p.1 in
    let f = leads max d c.0 in
    let other : eqb d 45 ≡ false = ne_eqb d 45 (λ e. absurd {A = ⊥} (omega (arith, e, f.from_zero))) in (
      path_some max AtCount d ds p.0 (cond-false (eqb d 45) (Some Minus) (first_step max d) other ∙ p.1) p.2,
      cond-false (eqb d 45) None (Some (value_on (d - 48) ds)) other,
    )

count_path : (max : ℕ) → max < 2 ^ 32 → (c : Option ℕ) → IsCount max c → (ds : List ℕ) × IsPath max AtCount ds × (count_value ds ≡ c)
unfolding count_value
count_path max small None h = (
  45 ∷ 49 ∷ [],
  path_some max AtCount 45 (49 ∷ []) Minus refl (path_some max Minus 49 [] MinusOne refl (path_end max MinusOne refl)),
  refl,
)
count_path max small (Some n) h =
    let p = decimal_path max n small h in
    let q = length_to_count max (decimal n) p.0 in
    (decimal n, q.0, q.1 ∙ ap (λ (k : ℕ). Some k) p.1)

pub count_reads : (max : ℕ) → max < 2 ^ 32 → Reads (count_at max) (IsCount max) count_marks
count_reads max small =
    same_reads (seen count_value (line_on max AtCount)) (count_at max) (IsCount max) count_marks
    (seen_reads (line_on max AtCount) (IsPath max AtCount) line_marks count_value (IsCount max) count_marks (lines_read max AtCount)
    (λ ds path. count_digits max ds small path) (count_path max small))
    (count_at_seen max)
