-- What the definitions of texts, streams and faults give for every input, and at known texts.
use Rattle.std.specs.Prelude.{◌≡◌, ℕ, List, [], ◌∷◌, ◌++◌, Option, Some, None, codes}
use Rattle.std.specs.List.{flat_map}
use Rattle.resp.specs.Text.{crlf}
use Rattle.resp_decoder.specs.declared.fault.Fault.{Fault}
use Rattle.resp_decoder.specs.declared.fault.Fault.TheVariants.{ExpectedStar, ExpectedDollar, BadLength, ExpectedCrlf}
use Rattle.resp_decoder.specs.declared.limits.Limits.{Limits}
use Rattle.resp_decoder.specs.declared.limits.TheConstants.{DEFAULT_WORDS, DEFAULT_BULK}
use Rattle.resp_decoder.specs.Texts.{item_text, Stream, IsOpen, IsFault, Ends, Decodes}

-- two readings of one stream agree in their requests, their rest and their fault
abbrev pub DecodingsAgree : Type 0
DecodingsAgree =
    (limits : Limits) (stream : List ℕ) (requests others : List (List (List ℕ))) (rest rest' : List ℕ)
    (fault fault' : Option Fault)
    → Stream limits stream requests rest → Ends limits rest fault
    → Stream limits stream others rest' → Ends limits rest' fault'
    → (requests ≡ others) × (rest ≡ rest') × (fault ≡ fault')

-- any bytes are a stream of requests up to an open rest or one with a fault
abbrev pub EachStreamDecodes : Type 0
EachStreamDecodes =
    (limits : Limits) (stream : List ℕ)
    → (requests : List (List (List ℕ))) × (fault : Option Fault) × Decodes limits stream requests fault

-- one fault at most stands in a rest
abbrev pub FaultsAgree : Type 0
FaultsAgree =
    (limits : Limits) (rest : List ℕ) (fault other : Fault)
    → IsFault limits rest fault → IsFault limits rest other → fault ≡ other

-- and none in an open one
abbrev pub OpenHasNoFault : Type 0
OpenHasNoFault =
    (limits : Limits) (rest : List ℕ) (fault : Fault) → IsOpen limits rest → IsFault limits rest fault → ⊥

-- ---- known texts

abbrev pub lines : List (List ℕ) → List ℕ
lines ls = flat_map (λ l. l ++ crlf) ls

abbrev pub KnownTexts : Type 0
KnownTexts =
    (item_text (Some (codes "PiNG" ∷ [])) ≡ lines (codes "*1" ∷ codes "$4" ∷ codes "PiNG" ∷ []))
    × (item_text (Some (codes "SET" ∷ [] ∷ [] ∷ []))
    ≡ lines (codes "*3" ∷ codes "$3" ∷ codes "SET" ∷ codes "$0" ∷ [] ∷ codes "$0" ∷ [] ∷ []))
    × (item_text (Some (codes "SET" ∷ codes "a" ∷ codes "1" ∷ []))
    ≡ lines (codes "*3" ∷ codes "$3" ∷ codes "SET" ∷ codes "$1" ∷ codes "a" ∷ codes "$1" ∷ codes "1" ∷ []))
    × (item_text (Some []) ≡ lines (codes "*0" ∷ []))
    × (item_text None ≡ lines (codes "*-1" ∷ []))

-- the faults of known bytes under the limits that Redis has by default
abbrev pub KnownFaultsOf : Limits → Type 0
KnownFaultsOf limits =
    IsFault limits (lines (codes "*1" ∷ codes "$03" ∷ codes "GET" ∷ [])) BadLength
    × IsFault limits (lines (codes "*1" ∷ []) ++ codes "$536870913") BadLength
    × IsFault limits (lines (codes "PING" ∷ [])) ExpectedStar
    × IsFault limits (lines (codes "*1" ∷ codes "+PING" ∷ [])) ExpectedDollar
    × IsFault limits (lines (codes "*1" ∷ codes "$4" ∷ []) ++ codes "PINGxx") ExpectedCrlf

abbrev pub KnownFaults : Type 0
KnownFaults = (limits : Limits) → limits.words ≡ DEFAULT_WORDS → limits.bulk ≡ DEFAULT_BULK → KnownFaultsOf limits
