-- Rows, found by their heads.
use Rattle.std.proofs.Common.{◌≡◌, ℕ, zero, suc, ◌+◌, ◌<◌, Bool, true, false, List, [], ◌∷◌, Result, Ok, Err, Some}
use Rattle.std.proofs.Common.{length, drop, slice_index_or, if◌then◌else◌, option_map, unwrap_or, IsTrue, refl, sym, ap, subst, ◌∙◌, arith}
use Rattle.std.proofs.lemmas.List.{length-map}
use Rattle.std.specs.Global.{Vec}
use Rattle.std.specs.Prelude.{vec_len}
use Rattle.std.specs.Str.{bytes_eq}
use Rattle.command_table.specs.Arity.{admits}
use Rattle.command_table.specs.CommandRow.{CommandRow, Reading, row_reading, row_of, reading_among}
use Rattle.command_table.specs.RowHeads.{heads_held, heads_of, place_from, admits_at, reading_at}
use Rattle.command_table.specs.declared.row_heads.RowHead.{RowHead}
use Rattle.command_table.specs.Words.{Word, texts_of}
use Rattle.command_table.specs.declared.refusal.Refusal.TheVariants as refusal
use Rattle.command_table.specs.declared.refusal.Refusal.{Refusal}

-- what these rows say of a name and the words after it; a name that none has is unknown
abbrev among : List CommandRow → Word → List Word → Reading
among rs n ws = unwrap_or (reading_among rs n ws) (Err refusal.Unknown)

-- a row was found, as many places behind the first one as it stands behind the first row
abbrev Found : ℕ → List CommandRow → Word → List Word → ℕ → Type 0
Found first rs n ws place =
    (i : ℕ) × (place ≡ first + i) × (i < length rs) × (admits_at rs i (length ws + 1) ≡ true) × (among rs n ws ≡ reading_at rs i ws)

-- what is looked for was found, or the words are refused so
abbrev Answers : ℕ → List CommandRow → Word → List Word → Result ℕ Refusal → Type 0
Answers first rs n ws (Ok place) = Found first rs n ws place
Answers first rs n ws (Err refused) = among rs n ws ≡ Err refused

-- a row of another name is passed over
among-later : (r : CommandRow) (rs : List CommandRow) (n : Word) (ws : List Word) → bytes_eq n r.name ≡ false →
    among (r ∷ rs) n ws ≡ among rs n ws
among-later r rs n ws e =
    ap (λ b. unwrap_or (option_map (λ x. row_reading x ws) (if b then Some r else row_of rs n)) (Err refusal.Unknown)) e

later : (first : ℕ) (r : CommandRow) (rs : List CommandRow) (n : Word) (ws : List Word) (o : Result ℕ Refusal) →
    bytes_eq n r.name ≡ false → Answers (first + 1) rs n ws o → Answers first (r ∷ rs) n ws o
later first r rs n ws (Ok place) e found =
    (suc found.0, omega arith, omega arith, found.3, among-later r rs n ws e ∙ found.4)
later first r rs n ws (Err refused) e found =
    among-later r rs n ws e ∙ found

here : (first : ℕ) (r : CommandRow) (rs : List CommandRow) (n : Word) (ws : List Word) → bytes_eq n r.name ≡ true →
    (a : Bool) → admits r.arity (length ws + 1) ≡ a → Answers first (r ∷ rs) n ws (if a then Ok first else Err (refusal.Arity r.name))
here first r rs n ws e true a = (0, omega arith, omega arith, a, grind arith)
here first r rs n ws e false a = grind arith

-- what is found by the heads of rows is what the rows say
answers : (first : ℕ) (rs : List CommandRow) (n : Word) (ws : List Word) →
    Answers first rs n ws (place_from first (heads_of rs) n (length ws + 1))
answers first [] n ws = refl
answers first (r ∷ rs) n ws =
    let rest = answers (first + 1) rs n ws in
    elim (bytes_eq n r.name)
    as (λ b. bytes_eq n r.name ≡ b → Answers first (r ∷ rs) n ws (if b
    then (if admits r.arity (length ws + 1) then Ok first else Err (refusal.Arity r.name))
    else place_from (first + 1) (heads_of rs) n (length ws + 1))) [
      | true ↦ λ e. here first r rs n ws e (admits r.arity (length ws + 1)) refl
      | false ↦ λ e. later first r rs n ws (place_from (first + 1) (heads_of rs) n (length ws + 1)) e rest
    ] refl

-- words are counted before they are seen as byte strings
counted : (rs : List CommandRow) (n : Word) (ws : List (Vec ℕ)) (count : ℕ) (o : Result ℕ Refusal) → count ≡ length ws →
    o ≡ place_from 0 (heads_of rs) n (count + 1) → Answers 0 rs n (texts_of ws) o
counted rs n ws count o e found =
    let same : length (texts_of ws) ≡ count = length-map ws (λ (w : Vec ℕ). w.items) ∙ sym e in
    subst (Answers 0 rs n (texts_of ws)) (ap (λ k. place_from 0 (heads_of rs) n (k + 1)) same ∙ sym found) (answers 0 rs n (texts_of ws))

-- what is known of a row that was found
abbrev IsThere : List CommandRow → Word → List (Vec ℕ) → ℕ → Type 0
IsThere rs n ws place =
    (place < length rs) × IsTrue (admits_at rs place (length ws + 1)) × (among rs n (texts_of ws) ≡ reading_at rs place (texts_of ws))

there_by : (rs : List CommandRow) (n : Word) (ws : List (Vec ℕ)) (place : ℕ) → Found 0 rs n (texts_of ws) place → IsThere rs n ws place
there_by rs n ws place found =
    let at_place : found.0 ≡ place = omega arith in
    let taken = subst (λ k. IsTrue (admits_at rs found.0 (k + 1))) (length-map ws (λ (w : Vec ℕ). w.items)) found.3 in
    subst (IsThere rs n ws) at_place (found.2, taken, found.4)

-- what a family's reader knows where a row was found, and where none was
pub is_there : (rs : List CommandRow) (n : Word) (words : Vec (Vec ℕ)) (count place : ℕ) → count ≡ vec_len words →
    Ok place ≡ place_from 0 (heads_of rs) n (count + 1) → IsThere rs n words.items place
is_there rs n words count place e found =
    there_by rs n words.items place (counted rs n words.items count (Ok place) (omega (arith, words.ok.0)) found)

pub is_refused : (rs : List CommandRow) (n : Word) (words : Vec (Vec ℕ)) (count : ℕ) (refused : Refusal) → count ≡ vec_len words →
    Err refused ≡ place_from 0 (heads_of rs) n (count + 1)
    → Err refused ≡ unwrap_or (reading_among rs n (texts_of words.items)) (Err refusal.Unknown)
is_refused rs n words count refused e found =
    sym (counted rs n words.items count (Err refused) (omega (arith, words.ok.0)) found)

-- what the head at a place says, as heads are counted from there on
abbrev At : ℕ → List RowHead → ℕ → RowHead → Word → ℕ → Type 0
At k heads place h n words =
    place_from k (drop place (heads_held heads)) n words ≡ (if bytes_eq n h.name.now
    then (if admits h.arity words then Ok k else Err (refusal.Arity h.name.now))
    else place_from (k + 1) (drop (suc place) (heads_held heads)) n words)

at_place : (k : ℕ) (heads : List RowHead) (place : ℕ) (d : RowHead) (n : Word) (words : ℕ) → place < length heads →
    At k heads place (slice_index_or heads place d) n words
at_place k [] place d n words there = absurd (omega arith)
at_place k (h ∷ hs) zero d n words there = refl
at_place k (h ∷ hs) (suc place) d n words there = at_place k hs place d n words (omega arith)

-- where the head at a place has the name, and takes so many words or not, and where it has another name
pub found_at : (heads : List RowHead) (place : ℕ) (d : RowHead) (n : Word) (words : ℕ) → place < length heads →
    bytes_eq n (slice_index_or heads place d).name.now ≡ true → admits (slice_index_or heads place d).arity words ≡ true
    → place_from place (drop place (heads_held heads)) n words ≡ Ok place
found_at heads place d n words there named taken = at_place place heads place d n words there ∙ grind (arith, named, taken)

pub refused_at : (heads : List RowHead) (place : ℕ) (d : RowHead) (n : Word) (words : ℕ) → place < length heads →
    bytes_eq n (slice_index_or heads place d).name.now ≡ true → admits (slice_index_or heads place d).arity words ≡ false
    → place_from place (drop place (heads_held heads)) n words ≡ Err (refusal.Arity (slice_index_or heads place d).name.now)
refused_at heads place d n words there named taken = at_place place heads place d n words there ∙ grind (arith, named, taken)

pub later_than : (heads : List RowHead) (place : ℕ) (d : RowHead) (n : Word) (words : ℕ) → place < length heads →
    bytes_eq n (slice_index_or heads place d).name.now ≡ false
    → place_from place (drop place (heads_held heads)) n words ≡ place_from (place + 1) (drop (place + 1) (heads_held heads)) n words
later_than heads place d n words there named = at_place place heads place d n words there ∙ grind (arith, named)
