-- The text of a trace, line by line, and which texts spell which trace.
use Rattle.std.specs.Prelude.{◌≡◌, ◌≢◌, ℕ, zero, suc, ◌+◌, ◌-◌, ◌*◌, ◌^◌, ◌≤◌, ◌&&◌, nat_lt, nat_le, ◌==◌, if◌then◌else◌, List, [], ◌∷◌, ◌++◌}
use Rattle.std.specs.Prelude.{length, map, Option, Some, None, option_map, option_and_then, codes, decimal, bytes_eq}
use Rattle.std.specs.List.{flat_map, fold, AllZip, AllByRecursion}
use Rattle.std.specs.Result.{result_ok}
use Rattle.hex.specs.Hex.{encode_lower, decode_of}
use Rattle.groups.specs.declared.request.RequestId.{RequestId}
use Rattle.groups.specs.declared.skip_id.SkipId.{SkipId}
use Rattle.groups.specs.declared.skip_id.SkipId.TheVariants.{Whole, Part}
use Rattle.sessions.specs.Control.{is_control}
use Rattle.journal.specs.declared.fault.TraceFault.{TraceFault}
use Rattle.journal.specs.declared.fault.TraceFault.TheVariants.{Bad, Memory}
use Rattle.journal.specs.declared.step.Step.{Step}
use Rattle.journal.specs.declared.step.Step.TheVariants.{Open, Submit, Deliver, Take, Run, Settle, Collect, Close, Repeat}
use Rattle.journal.specs.declared.trace.TheConstants.{GREATEST_STEPS}
use Rattle.journal.specs.declared.version.TheConstants.{GREATEST_VERSION, WRITTEN_VERSION}

-- ---- versions

-- the versions that are known
pub record IsVersion (version : ℕ) : Type 0 where
  pub first : 1 ≤ version
  pub last : version ≤ GREATEST_VERSION

-- ---- what is written

-- a word in hexadecimal; the empty one is a dash
abbrev pub word_text : List ℕ → List ℕ
word_text [] = codes "-"
word_text (byte ∷ bytes) = encode_lower (byte ∷ bytes)

abbrev pub id_text : RequestId → List ℕ
id_text id = decimal id.conn.0 ++ codes "." ++ decimal id.seq

-- a request as a whole, or a member of it
abbrev pub skip_text : SkipId → List ℕ
skip_text (Whole id) = id_text id
skip_text (Part id number) = id_text id ++ codes "." ++ decimal number

-- the name of a step, and what belongs to it
abbrev pub step_name : Step → List ℕ
step_name Open = codes "open"
step_name (Submit conn words) = codes "submit"
step_name (Deliver place) = codes "deliver"
step_name Take = codes "take"
step_name (Run starved) = codes "run"
step_name Settle = codes "settle"
step_name (Collect conn) = codes "collect"
step_name (Close conn) = codes "close"
step_name (Repeat place) = codes "repeat"

abbrev pub step_args : Step → List (List ℕ)
step_args Open = []
step_args (Submit conn words) = decimal conn.0 ∷ map word_text words
step_args (Deliver place) = decimal place ∷ []
step_args Take = []
step_args (Run starved) = map skip_text starved
step_args Settle = []
step_args (Collect conn) = decimal conn.0 ∷ []
step_args (Close conn) = decimal conn.0 ∷ []
step_args (Repeat place) = decimal place ∷ []

-- the parts of a line, with a space between them
abbrev pub joined : List ℕ → List (List ℕ) → List ℕ
joined name args = name ++ flat_map (λ arg. 32 ∷ arg) args

abbrev pub step_line : Step → List ℕ
step_line step = joined (step_name step) (step_args step)

abbrev pub first_line : ℕ → List ℕ
first_line version = codes "shardkv-trace " ++ decimal version

abbrev pub max_line : ℕ → List ℕ
max_line max = codes "max " ++ decimal max

abbrev pub end_line : ℕ → List ℕ
end_line count = codes "end " ++ decimal count

-- a line and its LF
abbrev pub ended : List ℕ → List ℕ
ended line = line ++ 10 ∷ []

-- what stands before the steps, and a line for each of them
abbrev pub head_text : ℕ → List ℕ
head_text max = ended (first_line WRITTEN_VERSION) ++ ended (max_line max)

abbrev pub lines_text : List Step → List ℕ
lines_text steps = flat_map (λ step. ended (step_line step)) steps

abbrev pub trace_text : ℕ → List Step → List ℕ
trace_text max steps = flat_map ended (first_line WRITTEN_VERSION ∷ max_line max ∷ (map step_line steps ++ end_line (length steps) ∷ []))

-- ---- what is read of a line

-- the number below 2^64 whose decimal this is
abbrev pub digits_worth : List ℕ → ℕ
digits_worth text = fold (λ n digit. n * 10 + (digit - 48)) 0 text

unfoldable pub number_in : List ℕ → Option ℕ
number_in text = let n = digits_worth text in if nat_lt n (2 ^ 64) && bytes_eq (decimal n) text then Some n else None

-- the word that this is in hexadecimal, in either case
unfoldable pub word_in : List ℕ → Option (List ℕ)
word_in [] = None
word_in (c ∷ cs) = if bytes_eq (c ∷ cs) (codes "-") then Some [] else result_ok (decode_of (c ∷ cs))

-- what stands before the first such byte, and what behind it, if there is one
unfoldable pub cut_at : ℕ → List ℕ → List ℕ × Option (List ℕ)
cut_at byte [] = ([], None)
cut_at byte (b ∷ bs) = if b == byte then ([], Some bs) else (b ∷ (cut_at byte bs).0, (cut_at byte bs).1)

unfoldable pub id_of : Option ℕ → Option ℕ → Option RequestId
id_of (Some conn) (Some seq) = Some (record { conn = record { 0 = conn }; seq = seq })
id_of (Some conn) None = None
id_of None seq = None

-- a number, a dot, a number
unfoldable pub id_in : List ℕ → Option RequestId
id_in text = let parts = cut_at 46 text in id_of (number_in parts.0) (option_and_then number_in parts.1)

-- members are numbered from 1
abbrev pub member_of : RequestId → Option ℕ → Option SkipId
member_of id None = None
member_of id (Some zero) = None
member_of id (Some (suc n)) = Some (Part id (suc n))

-- a request as a whole, or its member whose number stands behind it, if one does
abbrev pub skip_of : Option RequestId → Option (List ℕ) → Option SkipId
skip_of None number = None
skip_of (Some id) None = Some (Whole id)
skip_of (Some id) (Some number) = member_of id (number_in number)

abbrev pub skip_behind : Option ℕ → Option (List ℕ) → Option SkipId
skip_behind conn None = None
skip_behind conn (Some rest) = let parts = cut_at 46 rest in skip_of (id_of conn (number_in parts.0)) parts.1

-- a request's id, and of a member another dot and its number; versions before 3 know no members
unfoldable pub skip_in : ℕ → List ℕ → Option SkipId
skip_in version text =
    if nat_le 3 version then (let parts = cut_at 46 text in skip_behind (number_in parts.0) parts.1) else option_map Whole (id_in text)

-- what each of these says, if each says something
abbrev pub all_in : {A : Type 0} → (List ℕ → Option A) → List (List ℕ) → Option (List A)
all_in read [] = Some []
all_in read (text ∷ texts) = option_and_then (λ x. option_map (λ xs. x ∷ xs) (all_in read texts)) (read text)

-- the parts of a line between its spaces
abbrev pub parts_in : List ℕ → List ℕ × List (List ℕ)
parts_in [] = ([], [])
parts_in (b ∷ bs) = let more = parts_in bs in if b == 32 then ([], more.0 ∷ more.1) else (b ∷ more.0, more.1)

-- the parts behind a space, if there is one
abbrev pub args_in : Option (List ℕ) → List (List ℕ)
args_in None = []
args_in (Some rest) = (parts_in rest).0 ∷ (parts_in rest).1

abbrev pub alone : Step → List (List ℕ) → Option Step
alone step [] = Some step
alone step (arg ∷ args) = None

abbrev pub only_number : List (List ℕ) → Option ℕ
only_number [] = None
only_number (arg ∷ []) = number_in arg
only_number (arg ∷ more ∷ args) = None

abbrev pub with_number : (ℕ → Step) → List (List ℕ) → Option Step
with_number step args = option_map step (only_number args)

-- A request whose name is MULTI, EXEC or DISCARD was one of an unknown command before version 3, and is read as such a one:
-- as that of one empty word, which is none of the three.
abbrev pub without_control : List (List ℕ) → List (List ℕ)
without_control [] = []
without_control (name ∷ words) = if is_control name then [] ∷ [] else name ∷ words

-- the words of a request, as they are told in a text of this version
abbrev pub words_of : ℕ → List (List ℕ) → List (List ℕ)
words_of version words = if nat_le 3 version then words else without_control words

abbrev pub submit_in : ℕ → List (List ℕ) → Option Step
submit_in version [] = None
submit_in version (conn ∷ []) = None
submit_in version (conn ∷ word ∷ words) =
    option_and_then (λ n. option_map (λ ws. Submit (record { 0 = n }) (words_of version ws)) (all_in word_in (word ∷ words)))
    (number_in conn)

abbrev pub run_in : ℕ → List (List ℕ) → Option Step
run_in version args = option_map (λ names. Run names) (all_in (skip_in version) args)

-- the step of this name, in a text of this version: the first one knows no repeated packets
abbrev pub named : ℕ → List ℕ → List (List ℕ) → Option Step
named version name args =
    if bytes_eq name (codes "open") then alone Open args
    else if bytes_eq name (codes "submit") then submit_in version args
    else if bytes_eq name (codes "deliver") then with_number (λ n. Deliver n) args
    else if bytes_eq name (codes "take") then alone Take args
    else if bytes_eq name (codes "run") then run_in version args
    else if bytes_eq name (codes "settle") then alone Settle args
    else if bytes_eq name (codes "collect") then with_number (λ n. Collect (record { 0 = n })) args
    else if bytes_eq name (codes "close") then with_number (λ n. Close (record { 0 = n })) args
    else if bytes_eq name (codes "repeat") && nat_le 2 version then with_number (λ n. Repeat n) args
    else None

-- the step that a line says in a text of this version
unfoldable pub step_in : ℕ → List ℕ → Option Step
step_in version line = let parts = parts_in line in named version parts.0 parts.1

-- ---- which texts spell a trace, and which line of another text is the first that no trace has there

abbrev pub IsStepLine : ℕ → List ℕ → Step → Type 0
IsStepLine version line step = step_in version line ≡ Some step

-- these are the lines of a trace, in this version
pub record AreLines (lines : List (List ℕ)) (version max : ℕ) (steps : List Step) : Type 0 where
  pub known : IsVersion version
  pub least : 1 ≤ max
  pub greatest : max ≤ GREATEST_STEPS
  pub body : List (List ℕ)
  pub each : AllZip (IsStepLine version) body steps
  pub whole : lines ≡ first_line version ∷ max_line max ∷ (body ++ end_line (length steps) ∷ [])

abbrev pub HasNoLf : List ℕ → Type 0
HasNoLf line = AllByRecursion (λ b. b ≢ 10) line

-- the text is the lines of this trace in one of the versions, each ended by LF
pub record Spells (text : List ℕ) (max : ℕ) (steps : List Step) : Type 0 where
  pub version : ℕ
  pub lines : List (List ℕ)
  pub no_lf : AllByRecursion HasNoLf lines
  pub split : text ≡ flat_map ended lines
  pub are : AreLines lines version max steps

-- some trace begins with these lines, in one of the versions
pub record Begins (lines : List (List ℕ)) : Type 0 where
  pub version : ℕ
  pub max : ℕ
  pub steps : List Step
  pub more : List (List ℕ)
  pub are : AreLines (lines ++ more) version max steps

-- The text begins with so many lines of some trace. A whole line behind them is none that a trace has there, and the
-- lines alone are no trace where nothing stands behind them. The fault is told of the line behind them, counted from 1.
pub record IsBad (text : List ℕ) (line : ℕ) : Type 0 where
  pub before : List (List ℕ)
  pub no_lf : AllByRecursion HasNoLf before
  pub rest : List ℕ
  pub split : text ≡ flat_map ended before ++ rest
  pub counted : line ≡ length before + 1
  pub begins : Begins before
  pub next_is_none : (next more : List ℕ) → HasNoLf next → rest ≡ ended next ++ more → Begins (before ++ next ∷ []) → ⊥
  pub not_whole : (version max : ℕ) (steps : List Step) → rest ≡ [] → AreLines before version max steps → ⊥

abbrev pub IsFaultOf : List ℕ → TraceFault → Type 0
IsFaultOf text (Bad line) = IsBad text line
IsFaultOf text Memory = Unit {0}
