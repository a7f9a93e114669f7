-- The text of a request, the stream of requests, and where a fault stands, on whole texts.
-- From the RESP2 specification; the ranges of counts and lengths are the limits.
use Rattle.std.specs.Prelude.{◌≡◌, ℕ, ◌≤◌, List, [], ◌∷◌, ◌++◌, length, map, Option, Some, None}
use Rattle.std.specs.List.{flat_map, AllByRecursion}
use Rattle.std.specs.Fmt.{decimal}
use Rattle.resp.specs.Ascii.{dollar, asterisk, minus, digit_one}
use Rattle.resp.specs.Text.{crlf}
use Rattle.resp_decoder.specs.declared.fault.Fault.{Fault}
use Rattle.resp_decoder.specs.declared.fault.Fault.TheVariants.{ExpectedStar, ExpectedDollar, BadLength, ExpectedCrlf}
use Rattle.resp_decoder.specs.declared.limits.Limits.{Limits}

-- ---- texts: a list of bytes, each with the fault that a wrong byte in its place is

abbrev pub Marked : Type 0
Marked = List (ℕ × Fault)

abbrev pub mark : Fault → List ℕ → Marked
mark fault bytes = map (λ b. (b, fault)) bytes

abbrev pub bytes : Marked → List ℕ
bytes marks = map (λ m. m.0) marks

-- a count or a length in decimal, as std prints it, and the line's end
abbrev pub number_marks : ℕ → Marked
number_marks n = mark BadLength (decimal n ++ crlf)

-- `$`, the length, and the word on a line of its own. Every byte is right within a word: the mark of its bytes says
-- nothing.
abbrev pub word_marks : List ℕ → Marked
word_marks word = (dollar, ExpectedDollar) ∷ (number_marks (length word) ++ mark ExpectedCrlf (word ++ crlf))

-- what stands between two requests' beginnings: a request's words, or none where its count is written -1
abbrev pub Item : Type 0
Item = Option (List (List ℕ))

-- `*`, the count, and the words; or `*-1`
abbrev pub item_marks : Item → Marked
item_marks None = (asterisk, ExpectedStar) ∷ mark BadLength (minus ∷ digit_one ∷ crlf)
item_marks (Some words) = (asterisk, ExpectedStar) ∷ (number_marks (length words) ++ flat_map word_marks words)

abbrev pub item_text : Item → List ℕ
item_text item = bytes (item_marks item)

-- ---- what the limits allow

abbrev pub IsShort : Limits → List ℕ → Type 0
IsShort limits word = length word ≤ limits.bulk

abbrev pub IsLawful : Limits → Item → Type 0
IsLawful limits None = Unit {0}
IsLawful limits (Some words) = (length words ≤ limits.words) × AllByRecursion (IsShort limits) words

-- ---- streams

-- the requests that an item is: none where it has no words
abbrev pub requests_of : Item → List (List (List ℕ))
requests_of None = []
requests_of (Some []) = []
requests_of (Some (word ∷ words)) = (word ∷ words) ∷ []

-- the stream is lawful texts, whose requests are these, and then the rest
pub record Stream (limits : Limits) (stream : List ℕ) (requests : List (List (List ℕ))) (rest : List ℕ) : Type 0 where
  pub items : List Item
  pub lawful : AllByRecursion (IsLawful limits) items
  pub whole : stream ≡ flat_map item_text items ++ rest
  pub requests_are : requests ≡ flat_map requests_of items

-- ---- the open rest and the fault, for any lawful values and their texts

-- some text goes on behind the rest
pub record IsOpenIn {A : Type 0} (lawful : A → Type 0) (marks : A → Marked) (rest : List ℕ) : Type 0 where
  pub value : A
  pub holds : lawful value
  pub before : Marked
  pub next : ℕ × Fault
  pub after : Marked
  pub text : marks value ≡ before ++ next ∷ after
  pub split : rest ≡ bytes before

-- Some text goes on behind the longest beginning that the rest has in common with any text, at a place of this fault:
-- there the rest has another byte, and no text has that byte.
pub record IsFaultIn {A : Type 0} (lawful : A → Type 0) (marks : A → Marked) (rest : List ℕ) (fault : Fault) : Type 0 where
  pub value : A
  pub holds : lawful value
  pub before : Marked
  pub byte : ℕ
  pub after : Marked
  pub text : marks value ≡ before ++ (byte, fault) ∷ after
  pub bad : ℕ
  pub more : List ℕ
  pub split : rest ≡ bytes before ++ bad ∷ more
  pub none : (other : A) → lawful other → (tail : List ℕ) → bytes (marks other) ≡ bytes before ++ bad ∷ tail → ⊥

-- the rest is a proper beginning of a lawful request text; so is the empty rest
abbrev pub IsOpen : Limits → List ℕ → Type 0
IsOpen limits rest = IsOpenIn (IsLawful limits) item_marks rest

-- the fault stands in the rest
abbrev pub IsFault : Limits → List ℕ → Fault → Type 0
IsFault limits rest fault = IsFaultIn (IsLawful limits) item_marks rest fault

-- how a stream ends behind its last whole text: open, or with a fault
abbrev pub Ends : Limits → List ℕ → Option Fault → Type 0
Ends limits rest None = IsOpen limits rest
Ends limits rest (Some fault) = IsFault limits rest fault

-- the stream is these requests, and ends so
abbrev pub Decodes : Limits → List ℕ → List (List (List ℕ)) → Option Fault → Type 0
Decodes limits stream requests fault = (rest : List ℕ) × Stream limits stream requests rest × Ends limits rest fault
