-- How long the texts of bulk strings and of arrays are.
use Rattle.std.specs.Fmt.{decimal, signed_decimal}
use Rattle.std.proofs.Common.{◌≡◌, ℕ, ℤ, ◌+◌, ◌^◌, ◌<◌, ◌≤◌, List, ◌∷◌, ◌++◌, length, arith}
use Rattle.std.proofs.Common.{Bor, [], ◌/◌, ◌%◌, refl, ap, ◌∙◌, length-append}
use Rattle.std.proofs.lemmas.Fmt.{decimal_digit, decimal_step, length-decimal-le}
use Rattle.resp.specs.declared.answered.TheConstants.{LONG, SHORT_BULK}
use Rattle.resp.specs.Ascii.{colon, dollar, plus}
use Rattle.resp.specs.Content.{BulkText}
use Rattle.resp.specs.Text.{crlf, text, reply_text}
use Rattle.resp.specs.declared.reply.Reply.{Reply}
use Rattle.resp.specs.declared.reply.Reply.TheVariants.{Simple, Int}
use Rattle.resp.proofs.Texts.{text-Simple, text-Int}

pub one_digit : (n : ℕ) → n < 10 → decimal n ≡ (48 + n) ∷ []
one_digit n low = decimal_digit n low

pub two_digits : (n : ℕ) → 10 ≤ n → n < 100 → decimal n ≡ (48 + n / 10) ∷ (48 + n % 10) ∷ []
two_digits n high low = decimal_step n high (omega arith) ∙ ap (λ ds. ds ++ (48 + n % 10) ∷ []) (decimal_digit (n / 10) (omega arith))

-- a bulk string's text is its length's line, its bytes, and the end of their line
pub length-text-BulkText : (bytes : List ℕ) → length (dollar ∷ decimal (length bytes) ++ crlf) + length bytes + 2 ≡ length (text
    (BulkText bytes))
length-text-BulkText bytes =
    let digits = decimal (length bytes) in
    omega (
      arith,
      length-append (digits ++ crlf ++ bytes) crlf,
      length-append (digits ++ crlf) bytes,
    )

-- the text of a short bulk string is short
pub short_bulk : (bytes : List ℕ) → length bytes ≤ SHORT_BULK → length (text (BulkText bytes)) ≤ LONG
short_bulk bytes short =
    let digits = decimal (length bytes) in
    let few : length digits ≤ 3 = length-decimal-le 3 (length bytes) (omega arith) (omega arith) (omega arith) in
    omega (
      arith,
      length-append (digits ++ crlf ++ bytes) crlf,
      length-append (digits ++ crlf) bytes,
      length-append digits crlf,
    )

-- ---- the size of a text, where it is below 2 ^ 64

pub sized : (size n : ℕ) → size ≡ n → size < 2 ^ 64 → (n < 2 ^ 64) × (size ≡ n)
sized size n is fits = (omega arith, is)

pub length-text-Simple : (reply : Reply) (line : Bor (List ℕ)) (shown : List ℕ) → reply ≡ Simple line → shown ≡ line.now
    → length (plus ∷ shown ++ crlf) ≡ length (reply_text reply)
length-text-Simple reply line shown is same = rw (is, text-Simple line, same) refl

pub length-text-Int : (reply : Reply) (n : ℤ) (shown : List ℕ) → reply ≡ Int n → shown ≡ signed_decimal n
    → length (colon ∷ shown ++ crlf) ≡ length (reply_text reply)
length-text-Int reply n shown is same = rw (is, text-Int n, same) refl
