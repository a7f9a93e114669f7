-- Reading from left to right: the value at the front of the bytes and the bytes behind it, or why there is none.
use Rattle.std.specs.Prelude.{◌≡◌, ℕ, zero, suc, ◌+◌, ◌-◌, ◌*◌, List, [], ◌∷◌, length, take, drop, Option, Some, None, Result, Ok, Err}
use Rattle.std.specs.Prelude.{Bool, ◌&&◌, nat_lt, nat_le, ◌==◌, if◌then◌else◌}
use Rattle.resp.specs.Ascii.{line_feed, carriage_return, dollar, asterisk, minus, digit_zero, digit_one, digit_nine}
use Rattle.resp_decoder.specs.declared.fault.Fault.{Fault}
use Rattle.resp_decoder.specs.declared.fault.Fault.TheVariants.{ExpectedStar, ExpectedDollar, BadLength, ExpectedCrlf}
use Rattle.resp_decoder.specs.declared.limits.Limits.{Limits}
use Rattle.resp_decoder.specs.declared.parsing.Stop.{Stop}
use Rattle.resp_decoder.specs.declared.parsing.Stop.TheVariants.{Open, Bad}
use Rattle.resp_decoder.specs.Texts.{Item}

abbrev pub Parsed : Type 0 → Type 0
Parsed A = Result (A × List ℕ) Stop

infixl 10 ◌>>=◌
abbrev pub ◌>>=◌ : {A B : Type 0} → Result A Stop → (A → Result B Stop) → Result B Stop
(Ok x) >>= f = f x
(Err e) >>= f = Err e

-- what a function returned, seen by view, is what reading gives
abbrev pub Gives : {X Y : Type 0} → (X → Y) → Result X Stop → Result Y Stop → Type 0
Gives view (Ok x) read = read ≡ Ok (view x)
Gives view (Err e) read = read ≡ Err e

-- the value of what is read for its bytes alone
abbrev pub NoValue : Type 0
NoValue = Unit {0}

abbrev pub rest_only : List ℕ → NoValue × List ℕ
rest_only rest = (tt, rest)

-- one byte
unfoldable pub byte_at : ℕ → Fault → List ℕ → Parsed NoValue
byte_at byte fault [] = Err Open
byte_at byte fault (b ∷ bs) = if b == byte then Ok (tt, bs) else Err (Bad fault)

-- the end of a line
unfoldable pub line_at : Fault → List ℕ → Parsed NoValue
line_at fault bytes = do
  return ← byte_at carriage_return fault bytes
  byte_at line_feed fault return.1

-- whether a byte goes on with the digits of a number that is n so far: none follows a 0, and none leads past the
-- maximum
abbrev pub is_more : ℕ → ℕ → ℕ → Bool
is_more max n b = nat_lt 0 n && (nat_le digit_zero b && (nat_le b digit_nine && nat_le (n * 10 + (b - digit_zero)) max))

-- the number that a byte makes of n as its next digit
abbrev pub extended : ℕ → ℕ → ℕ → Option ℕ
extended n b max = if is_more max n b then Some (n * 10 + (b - digit_zero)) else None

abbrev pub is_first : ℕ → ℕ → Bool
is_first max b = nat_le digit_zero b && (nat_le b digit_nine && nat_le (b - digit_zero) max)

-- the number whose digits so far are n, up to the line's end
unfoldable pub number_on : ℕ → ℕ → List ℕ → Parsed ℕ
number_on max n [] = Err Open
number_on max n (b ∷ bs) =
    if is_more max n b then number_on max (n * 10 + (b - digit_zero)) bs else (line_at BadLength (b ∷ bs) >>= λ end. Ok (n, end.1))

unfoldable pub number_at : ℕ → List ℕ → Parsed ℕ
number_at max [] = Err Open
number_at max (b ∷ bs) = if is_first max b then number_on max (b - digit_zero) bs else Err (Bad BadLength)

-- so many bytes
unfoldable pub some_at : ℕ → List ℕ → Parsed (List ℕ)
some_at n bytes = if nat_lt (length bytes) n then Err Open else Ok (take n bytes, drop n bytes)

unfoldable pub word_at : ℕ → List ℕ → Parsed (List ℕ)
word_at bulk bytes = do
  dollar ← byte_at dollar ExpectedDollar bytes
  n ← number_at bulk dollar.1
  word ← some_at n.0 n.1
  end ← line_at ExpectedCrlf word.1
  Ok (word.0, end.1)

-- so many words
unfoldable pub words_at : ℕ → ℕ → List ℕ → Parsed (List (List ℕ))
words_at bulk zero bytes = Ok ([], bytes)
words_at bulk (suc n) bytes = do
  word ← word_at bulk bytes
  words ← words_at bulk n word.1
  Ok (word.0 ∷ words.0, words.1)

-- `-1` and the line's end
unfoldable pub minus_one_at : List ℕ → Parsed NoValue
minus_one_at bytes = do
  minus ← byte_at minus BadLength bytes
  one ← byte_at digit_one BadLength minus.1
  line_at BadLength one.1

-- a count, or `-1`
unfoldable pub count_at : ℕ → List ℕ → Parsed (Option ℕ)
count_at max [] = Err Open
count_at max (b ∷ bs) = if b == minus then (minus_one_at (b ∷ bs) >>= λ end. Ok (None, end.1)) else
    (number_at max (b ∷ bs) >>= λ n. Ok (Some n.0, n.1))

-- `*` and a count
unfoldable pub head_at : ℕ → List ℕ → Parsed (Option ℕ)
head_at max bytes = do
  star ← byte_at asterisk ExpectedStar bytes
  count_at max star.1

-- the words behind a count
unfoldable pub body_at : ℕ → Option ℕ → List ℕ → Parsed Item
body_at bulk None bytes = Ok (None, bytes)
body_at bulk (Some n) bytes = words_at bulk n bytes >>= λ words. Ok (Some words.0, words.1)

-- a request, or an item with no words
unfoldable pub item_at : Limits → List ℕ → Parsed Item
item_at limits bytes = do
  count ← head_at limits.words bytes
  body_at limits.bulk count.0 count.1
