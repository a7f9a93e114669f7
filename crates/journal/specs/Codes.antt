-- How steps and rows lie in bytes.
use Rattle.std.specs.Prelude.{◌≡◌, ℕ, zero, suc, ◌+◌, ◌-◌, ◌<◌, ◌≤◌, ◌^◌, List, [], ◌∷◌, ◌++◌, length, take, drop, map, ◌==◌, slice_index}
use Rattle.std.specs.Prelude.{if◌then◌else◌}
use Rattle.std.specs.List.{flat_map, AllByRecursion}
use Rattle.groups.specs.declared.request.RequestId.{RequestId}
use Rattle.groups.specs.declared.skip_id.SkipId.{SkipId}
use Rattle.groups.specs.declared.skip_id.SkipId.TheVariants.{Whole, Part}
use Rattle.groups.specs.declared.stamp.Stamp.{Stamp}
use Rattle.packing.specs.Codes.{number_code, number_at, words_code, words_at, many, WordsFit}
use Rattle.journal.specs.declared.step.Step.{Step}
use Rattle.journal.specs.declared.step.Step.TheVariants.{Open, Submit, Deliver, Take, Run, Settle, Collect, Close, Repeat}
use Rattle.journal.specs.Views.{RowView}
use Rattle.journal.specs.declared.trace.TheConstants.{GREATEST_STEPS}

-- ---- ids and names

unfoldable pub id_code : RequestId → List ℕ
id_code id = number_code id.conn.0 ++ number_code id.seq

unfoldable pub id_at : List ℕ → RequestId × List ℕ
id_at bytes =
    let conn = number_at bytes in let seq = number_at conn.1 in (record { conn = record { 0 = conn.0 }; seq = seq.0 }, seq.1)

-- the id, and the member's number, or 0 for the whole request
unfoldable pub skip_code : SkipId → List ℕ
skip_code (Whole id) = id_code id ++ number_code 0
skip_code (Part id number) = id_code id ++ number_code number

abbrev pub skip_of : RequestId → ℕ → SkipId
skip_of id zero = Whole id
skip_of id (suc n) = Part id (suc n)

unfoldable pub skip_at : List ℕ → SkipId × List ℕ
skip_at bytes = let id = id_at bytes in let number = number_at id.1 in (skip_of id.0 number.0, number.1)

unfoldable pub skips_code : List SkipId → List ℕ
skips_code names = number_code (length names) ++ flat_map skip_code names

unfoldable pub skips_at : List ℕ → List SkipId × List ℕ
skips_at bytes = let n = number_at bytes in many skip_at n.0 n.1

pub record IdFits (id : RequestId) : Type 0 where
  pub conn : id.conn.0 < 2 ^ 64
  pub seq : id.seq < 2 ^ 64

abbrev pub SkipFits : SkipId → Type 0
SkipFits (Whole id) = IdFits id
SkipFits (Part id number) = IdFits id × (1 ≤ number) × (number < 2 ^ 64)

pub record SkipsFit (names : List SkipId) : Type 0 where
  pub count : length names < 2 ^ 64
  pub each : AllByRecursion SkipFits names

-- ---- steps: a byte that says the kind, and what belongs to it

unfoldable pub step_code : Step → List ℕ
step_code Open = 0 ∷ []
step_code (Submit conn words) = 1 ∷ (number_code conn.0 ++ words_code words)
step_code (Deliver place) = 2 ∷ number_code place
step_code Take = 3 ∷ []
step_code (Run starved) = 4 ∷ skips_code starved
step_code Settle = 5 ∷ []
step_code (Collect conn) = 6 ∷ number_code conn.0
step_code (Close conn) = 7 ∷ number_code conn.0
step_code (Repeat place) = 8 ∷ number_code place

-- a request has a word
abbrev pub submit_of : ℕ → List (List ℕ) → Step
submit_of conn [] = Open
submit_of conn (word ∷ words) = Submit (record { 0 = conn }) (word ∷ words)

unfoldable pub submit_at : List ℕ → Step × List ℕ
submit_at bytes = let conn = number_at bytes in let words = words_at conn.1 in (submit_of conn.0 words.0, words.1)

unfoldable pub deliver_at : List ℕ → Step × List ℕ
deliver_at bytes = let place = number_at bytes in (Deliver place.0, place.1)

unfoldable pub run_at : List ℕ → Step × List ℕ
run_at bytes = let names = skips_at bytes in (Run names.0, names.1)

unfoldable pub collect_at : List ℕ → Step × List ℕ
collect_at bytes = let conn = number_at bytes in (Collect (record { 0 = conn.0 }), conn.1)

unfoldable pub close_at : List ℕ → Step × List ℕ
close_at bytes = let conn = number_at bytes in (Close (record { 0 = conn.0 }), conn.1)

unfoldable pub repeat_at : List ℕ → Step × List ℕ
repeat_at bytes = let place = number_at bytes in (Repeat place.0, place.1)

-- the step of this kind at the front of the bytes behind it
unfoldable pub step_of : ℕ → List ℕ → Step × List ℕ
step_of kind bytes =
    if kind == 1 then submit_at bytes
    else if kind == 2 then deliver_at bytes
    else if kind == 3 then (Take, bytes)
    else if kind == 4 then run_at bytes
    else if kind == 5 then (Settle, bytes)
    else if kind == 6 then collect_at bytes
    else if kind == 7 then close_at bytes
    else if kind == 8 then repeat_at bytes
    else (Open, bytes)

unfoldable pub step_at : List ℕ → Step × List ℕ
step_at [] = (Open, [])
step_at (kind ∷ bytes) = step_of kind bytes

abbrev pub StepFits : Step → Type 0
StepFits (Submit conn words) = (conn.0 < 2 ^ 64) × WordsFit words
StepFits (Deliver place) = place < 2 ^ 64
StepFits (Run starved) = SkipsFit starved
StepFits (Collect conn) = conn.0 < 2 ^ 64
StepFits (Close conn) = conn.0 < 2 ^ 64
StepFits (Repeat place) = place < 2 ^ 64
StepFits Open = Unit {0}
StepFits Take = Unit {0}
StepFits Settle = Unit {0}

-- how many bytes a step takes
abbrev pub step_size : Step → ℕ
step_size step = length (step_code step)

-- how many bytes the steps take, one behind another
abbrev pub steps_size : List Step → ℕ
steps_size steps = length (flat_map step_code steps)

-- the steps that so many bytes are
abbrev pub steps_in : ℕ → List ℕ → List Step
steps_in count bytes = (many step_at count bytes).0

-- the bytes are these steps, one behind another
pub record AreSteps (steps : List Step) (max count : ℕ) (bytes : List ℕ) : Type 0 where
  pub least : 1 ≤ max
  pub greatest : max ≤ GREATEST_STEPS
  pub counted : count ≡ length steps
  pub coded : bytes ≡ flat_map step_code steps
  pub fit : AllByRecursion StepFits steps

-- ---- rows: the id, the stamp, how many bytes the words take, the words, and the reply to the end

unfoldable pub head_code : RequestId → Stamp → ℕ → List ℕ
head_code id stamp size = id_code id ++ (number_code stamp.clock ++ (number_code stamp.group ++ number_code size))

unfoldable pub row_code : RowView → List ℕ
row_code row = head_code row.id row.stamp (length (words_code row.words)) ++ (words_code row.words ++ row.reply)

unfoldable pub row_of : List ℕ → RowView
row_of bytes =
    let id = id_at bytes in let clock = number_at id.1 in let group = number_at clock.1 in let size = number_at group.1 in record {
      id = id.0;
      stamp = record { clock = clock.0; group = group.0 };
      words = (words_at (take size.0 size.1)).0;
      reply = drop size.0 size.1;
    }

pub record HeadFits (id : RequestId) (stamp : Stamp) : Type 0 where
  pub request : IdFits id
  pub clock : stamp.clock < 2 ^ 64
  pub group : stamp.group < 64

pub record RowFits (row : RowView) : Type 0 where
  pub head : HeadFits row.id row.stamp
  pub words : WordsFit row.words
  pub size : length (words_code row.words) < 2 ^ 64

-- the pieces that these ends cut off the bytes, from a start
abbrev pub cut : List ℕ → ℕ → List ℕ → List (List ℕ)
cut bytes start [] = []
cut bytes start (stop ∷ stops) = take (stop - start) (drop start bytes) ∷ cut bytes stop stops

-- where each one ends of things that lie one behind another, from a start
abbrev pub ends_from : {A : Type 0} → (A → List ℕ) → ℕ → List A → List ℕ
ends_from code start [] = []
ends_from code start (x ∷ xs) = (start + length (code x)) ∷ ends_from code (start + length (code x)) xs

-- where the first ones end
abbrev pub end_before : List ℕ → ℕ → ℕ
end_before ends count = if count == 0 then 0 else slice_index ends (count - 1)

-- the rows that the bytes are, cut at these ends
abbrev pub rows_in : List ℕ → List ℕ → List RowView
rows_in bytes ends = map row_of (cut bytes 0 ends)

-- the bytes are these rows, one behind another, with these ends
pub record AreRows (rows : List RowView) (bytes ends : List ℕ) : Type 0 where
  pub coded : bytes ≡ flat_map row_code rows
  pub ended : ends ≡ ends_from row_code 0 rows
  pub fit : AllByRecursion RowFits rows

-- the bytes are these words and nothing else
pub record RowWords (words : List (List ℕ)) (bytes : List ℕ) : Type 0 where
  pub coded : bytes ≡ words_code words
  pub fit : WordsFit words

-- the bytes are this row and nothing else
pub record RowIsIn (row : RowView) (bytes : List ℕ) : Type 0 where
  pub coded : bytes ≡ row_code row
  pub fit : RowFits row
