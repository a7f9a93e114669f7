-- That `integer_of` gives the number of which the text is printed, and no other.
use Rattle.std.proofs.Common.{◌≡◌, ◌≢◌, ℕ, suc, ◌<◌, ◌^◌, Bool, true, false, cond, ◌&&◌, List, drop, get_or, ℤ, pos, negsuc, neg_ℤ, Some}
use Rattle.std.proofs.Common.{None, Result, Ok, Err, w64, if◌then◌else◌, refl, sym, ap, subst, ◌∙◌, arith}
use Rattle.std.proofs.lemmas.Bool.{and_parts}
use Rattle.std.proofs.lemmas.Bool.Decides.{nat_tests}
use Rattle.std.proofs.lemmas.Fmt.{decimal_is_IsNumeral, IsAscii-signed, parse-signed_decimal}
use Rattle.std.proofs.lemmas.Slice.Eq.{bytes_eq-Decides}
use Rattle.std.proofs.lemmas.Str.{IsUtf8-from_ascii}
use Rattle.std.proofs.lemmas.Str.Parse.{digit_at, without_leading_plus_none}
use Rattle.std.specs.Fmt.{decimal, signed_decimal}
use Rattle.std.specs.Int.{IsInRange}
use Rattle.std.specs.Str.{bytes_eq, IsUtf8}
use Rattle.std.specs.Str.Parse.{digits_value, ParsesSigned, signed_digits_value, starts_with_minus, without_leading_plus}
use Rattle.texts.specs.Texts.{Bytes}
use Rattle.integers.specs.Integer.{fits_64_bits, integer_of, IsIntegerText}
use lib.Signed.{mag}

pub mag-fits : (z : ℤ) → fits_64_bits z ≡ true → mag z < 2 ^ 63
mag-fits (pos n) h = grind (arith, nat_tests)
mag-fits (negsuc n) h = grind (arith, nat_tests)

pub fits-mag : (z : ℤ) → mag z < 2 ^ 63 → fits_64_bits z ≡ true
fits-mag (pos n) h = grind (arith, nat_tests)
fits-mag (negsuc n) h = grind (arith, nat_tests)

plain_value : (ds : List ℕ) → starts_with_minus ds ≡ false → get_or ds 0 0 ≢ 43 → signed_digits_value 10 ds ≡ pos (digits_value 10 ds)
plain_value ds no_minus no_plus =
    let rest = λ (b : Bool). cond b (drop 1 ds) (without_leading_plus ds) in
    ap (λ (b : Bool). cond b (neg_ℤ (pos (digits_value 10 (rest b)))) (pos (digits_value 10 (rest b)))) no_minus
    ∙ ap (λ l. pos (digits_value 10 l)) (without_leading_plus_none ds no_plus)

value-signed_decimal : (z : ℤ) → mag z < 2 ^ 63 → signed_digits_value 10 (signed_decimal z) ≡ z
value-signed_decimal (pos n) h =
    let numeral = decimal_is_IsNumeral n (omega arith) in
    let first : IsInRange 48 57 (get_or (decimal n) 0 0) = digit_at (decimal n) 0 numeral.0.1 numeral.0.0 in
    let no_minus : starts_with_minus (decimal n) ≡ false = grind (arith, nat_tests) in
    plain_value (decimal n) no_minus (λ e. omega (arith, first, e)) ∙ ap pos numeral.1
value-signed_decimal (negsuc n) h = ap (λ m. neg_ℤ (pos m)) (decimal_is_IsNumeral (suc n) (omega arith)).1

-- a number of 64 bits is read from its text
pub integer_of-text : (text : Bytes) (z : ℤ) → IsIntegerText text z → integer_of text ≡ Some z
integer_of-text text z is =
    let same : bytes_eq (signed_decimal z) (signed_decimal z) ≡ true = (bytes_eq-Decides (signed_decimal z) (signed_decimal z)).1 refl in
    ap integer_of is.1
    ∙ ap (λ n. if fits_64_bits n && bytes_eq (signed_decimal z) (signed_decimal n) then Some n else None)
    (value-signed_decimal z (mag-fits z is.0))
    ∙ ap (λ b. if b && bytes_eq (signed_decimal z) (signed_decimal z) then Some z else None) is.0
    ∙ ap (λ (b : Bool). if b then Some z else None) same

-- what is read is a text of the number
pub text-integer_of : (text : Bytes) (z : ℤ) → integer_of text ≡ Some z → IsIntegerText text z
text-integer_of text z read =
    let n = signed_digits_value 10 text in
    elim (fits_64_bits n && bytes_eq text (signed_decimal n))
    as (λ b. (fits_64_bits n && bytes_eq text (signed_decimal n)) ≡ b → (if b then Some n else None) ≡ Some z → IsIntegerText text z) [
      | true ↦ λ e some.
          let parts = and_parts (fits_64_bits n) (bytes_eq text (signed_decimal n)) e in
          let text_of_n : IsIntegerText text n = (parts.0, (bytes_eq-Decides text (signed_decimal n)).0 parts.1) in
          let same : n ≡ z = cc in
          subst (IsIntegerText text) same text_of_n
      | false ↦ λ _ none. absurd (cc)
    ] refl read

-- where it is the text of no number, none is read
pub integer_of-none : (text : Bytes) → ((z : ℤ) → ¬ IsIntegerText text z) → integer_of text ≡ None
integer_of-none text is_none =
    elim (integer_of text) as (λ o. integer_of text ≡ o → o ≡ None) [
      | None ↦ λ _. refl
      | Some z ↦ λ e. absurd (is_none z (text-integer_of text z e))
    ] refl

-- a text that isn't ASCII is that of no number
pub no_integer-bytes : (text : Bytes) → ¬ IsUtf8 text → (z : ℤ) → ¬ IsIntegerText text z
no_integer-bytes text not_text z is =
    not_text (subst IsUtf8 (sym is.1) (IsUtf8-from_ascii (signed_decimal z) (IsAscii-signed z (mag-fits z is.0))))

-- what std parses of the text of a number is the number
parse-text : {E : Type 0} (text : Bytes) (z : ℤ) (r : Result ℤ E) → IsIntegerText text z → ParsesSigned w64 10 text r → r ≡ Ok z
parse-text text z r is parses = parse-signed_decimal w64 z text r (record { sfits = mag-fits z is.0 }) (mag-fits z is.0) is.1 parses

abbrev is_ok_of : {E : Type 0} → Result ℤ E → Type 0
is_ok_of (Ok n) = Unit {0}
is_ok_of (Err e) = ⊥

pub parse-text_err : {E : Type 0} (text : Bytes) (z : ℤ) (e : E) → IsIntegerText text z → ParsesSigned {E = E} w64 10 text (Err e) → ⊥
parse-text_err {E} text z e is parses = subst (is_ok_of {E = E}) (sym (parse-text {E = E} text z (Err e) is parses)) tt

abbrev number_of : {E : Type 0} → ℤ → Result ℤ E → ℤ
number_of d (Ok n) = n
number_of d (Err e) = d

pub parse-text_ok : (text : Bytes) (z n : ℤ) → IsIntegerText text z → ParsesSigned {E = Unit {0}} w64 10 text (Ok n) → n ≡ z
parse-text_ok text z n is parses = ap (number_of {E = Unit {0}} n) (parse-text {E = Unit {0}} text z (Ok n) is parses)
