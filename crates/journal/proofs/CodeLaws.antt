-- What was put of steps and rows is read back, and how long it is.
use Rattle.std.proofs.Common.{◌≡◌, ℕ, zero, suc, ◌+◌, ◌<◌, ◌≤◌, ◌^◌, List, [], ◌∷◌, ◌++◌, length, take, drop, refl}
use Rattle.std.proofs.Common.{ap, sym, subst, ◌∙◌, arith, length-append, lit<, Some, slice_get}
use Rattle.std.specs.List.{flat_map, AllByRecursion}
use Rattle.std.proofs.lemmas.List.{append_assoc, append-nil, take_at, drop_at}
use Rattle.groups.specs.declared.request.RequestId.{RequestId}
use Rattle.groups.specs.declared.skip_id.SkipId.{SkipId}
use Rattle.groups.specs.declared.skip_id.SkipId.TheVariants.{Whole, Part}
use Rattle.groups.specs.declared.stamp.Stamp.{Stamp}
use Rattle.packing.specs.Codes.{number_code, number_at, word_code, words_code, words_at, WordFits, WordsFit}
use Rattle.packing.specs.CodeLaws.{number_at-code, number_code-few, many-codes, words_at-code}
use Rattle.journal.specs.declared.step.Step.{Step}
use Rattle.journal.specs.declared.step.Step.TheVariants.{Open, Submit, Deliver, Take, Run, Settle, Collect, Close, Repeat}
use Rattle.journal.specs.Views.{RowView}
use Rattle.journal.specs.Names.{IsNumbered, AreNumbered}
use Rattle.journal.specs.Codes.{id_code, id_at, IdFits, skip_code, skip_of, skip_at, skips_code, skips_at, SkipFits, SkipsFit}
use Rattle.journal.specs.Codes.{step_code, step_at, step_of, submit_of, submit_at}
use Rattle.journal.specs.Codes.{deliver_at, run_at, collect_at, close_at, repeat_at, StepFits, steps_in, head_code, row_code, row_of}
use Rattle.journal.specs.Codes.{RowFits, RowWords, RowIsIn}

-- ---- ids and names

pub id_at-code : (id : RequestId) (rest : List ℕ) → IdFits id → id_at (id_code id ++ rest) ≡ (id, rest)
unfolding id_at id_code
id_at-code id rest fit =
    rw (append_assoc, number_at-code id.conn.0 (number_code id.seq ++ rest) fit.conn, number_at-code id.seq rest fit.seq) refl

pub length-id_code : (id : RequestId) → length (id_code id) ≡ length (number_code id.conn.0) + length (number_code id.seq)
unfolding id_code
length-id_code id = length-append (number_code id.conn.0) (number_code id.seq)

pub id_code-is : (id : RequestId) → id_code id ≡ number_code id.conn.0 ++ number_code id.seq
unfolding id_code
id_code-is id = refl

pub length-part : (id : RequestId) (n : ℕ)
    → length (id_code id ++ number_code n) ≡ length (number_code id.conn.0) + length (number_code id.seq) + length (number_code n)
length-part id n = omega (arith, length-append (id_code id) (number_code n), length-id_code id)

pub skip_at-code : (name : SkipId) (rest : List ℕ) → SkipFits name → skip_at (skip_code name ++ rest) ≡ (name, rest)
unfolding skip_at skip_code
skip_at-code (Whole id) rest fit =
    rw (append_assoc, id_at-code id (number_code 0 ++ rest) fit, number_at-code 0 rest (lit< tt)) refl
skip_at-code (Part id zero) rest fit = absurd (let least = fit.1 in omega arith)
skip_at-code (Part id (suc n)) rest fit =
    rw (append_assoc, id_at-code id (number_code (suc n) ++ rest) fit.0, number_at-code (suc n) rest fit.2) refl

pub skips_code-is : (names : List SkipId) → skips_code names ≡ number_code (length names) ++ flat_map skip_code names
unfolding skips_code
skips_code-is names = refl

pub length-skips_code : (names : List SkipId)
    → length (skips_code names) ≡ length (number_code (length names)) + length (flat_map skip_code names)
unfolding skips_code
length-skips_code names = length-append (number_code (length names)) (flat_map skip_code names)

pub skips_at-code : (names : List SkipId) (rest : List ℕ) → SkipsFit names → skips_at (skips_code names ++ rest) ≡ (names, rest)
unfolding skips_at skips_code
skips_at-code names rest fit =
    rw (append_assoc, number_at-code (length names) (flat_map skip_code names ++ rest) fit.count)
    (many-codes skip_code skip_at SkipFits skip_at-code names rest fit.each)

numbered_of : (id : RequestId) (n : ℕ) → IsNumbered (skip_of id n)
numbered_of id zero = tt
numbered_of id (suc n) = omega arith

-- members are numbered from 1 in what is read of any bytes
pub numbered_at : (bytes : List ℕ) → IsNumbered (skip_at bytes).0
unfolding skip_at
numbered_at bytes = numbered_of (id_at bytes).0 (number_at (id_at bytes).1).0

pub numbered_one : (names : List SkipId) (i : ℕ) (name : SkipId) → slice_get names i ≡ Some name → AreNumbered names → IsNumbered name
numbered_one [] i name at all = cc
numbered_one (n ∷ ns) zero name at all = let same : n ≡ name = cc in subst IsNumbered same all.0
numbered_one (n ∷ ns) (suc i) name at all = numbered_one ns i name at all.1

-- ---- steps

submit_at-code : (conn : ℕ) (words : List (List ℕ)) (rest : List ℕ) → conn < 2 ^ 64 → WordsFit words
    → submit_at (number_code conn ++ (words_code words ++ rest)) ≡ (submit_of conn words, rest)
unfolding submit_at
submit_at-code conn words rest low fit =
    rw (number_at-code conn (words_code words ++ rest) low, words_at-code words rest fit) refl

submit_of-some : (conn : ℕ) (words : List (List ℕ)) → 0 < length words → submit_of conn words ≡ Submit (record { 0 = conn }) words
submit_of-some conn [] h = absurd (omega arith)
submit_of-some conn (word ∷ words) h = refl

pub step_at-code : (step : Step) (rest : List ℕ) → StepFits step → step_at (step_code step ++ rest) ≡ (step, rest)
unfolding step_at step_of step_code
step_at-code Open rest fit = refl
step_at-code (Submit conn words) rest fit =
    rw append_assoc (submit_at-code conn.0 words rest fit.0 fit.1 ∙ ap (λ s. (s, rest)) (submit_of-some conn.0 words fit.1.some))
step_at-code (Deliver place) rest fit = unfold deliver_at in rw (number_at-code place rest fit) refl
step_at-code Take rest fit = refl
step_at-code (Run starved) rest fit = unfold run_at in rw (skips_at-code starved rest fit) refl
step_at-code Settle rest fit = refl
step_at-code (Collect conn) rest fit = unfold collect_at in rw (number_at-code conn.0 rest fit) refl
step_at-code (Close conn) rest fit = unfold close_at in rw (number_at-code conn.0 rest fit) refl
step_at-code (Repeat place) rest fit = unfold repeat_at in rw (number_at-code place rest fit) refl

pub steps_in-codes : (steps : List Step) → AllByRecursion StepFits steps → steps_in (length steps) (flat_map step_code steps) ≡ steps
steps_in-codes steps fit =
    ap (λ bytes. steps_in (length steps) bytes) (sym (append-nil (flat_map step_code steps)))
    ∙ ap (λ r. r.0) (many-codes step_code step_at StepFits step_at-code steps [] fit)

-- a step takes a byte at least
pub step_code-some : (step : Step) → 0 < length (step_code step)
unfolding step_code
step_code-some Open = omega arith
step_code-some (Submit conn words) = omega arith
step_code-some (Deliver place) = omega arith
step_code-some Take = omega arith
step_code-some (Run starved) = omega arith
step_code-some Settle = omega arith
step_code-some (Collect conn) = omega arith
step_code-some (Close conn) = omega arith
step_code-some (Repeat place) = omega arith

-- so there are no more steps than bytes
pub steps-few : (steps : List Step) → length steps ≤ length (flat_map step_code steps)
steps-few [] = omega arith
steps-few (s ∷ ss) = omega (arith, step_code-some s, steps-few ss, length-append (step_code s) (flat_map step_code ss))

-- ---- rows

pub length-head_code : (id : RequestId) (stamp : Stamp) (size : ℕ)
    → length (head_code id stamp size) ≡ length (number_code id.conn.0) + length (number_code id.seq) +
    (length (number_code stamp.clock) + length (number_code stamp.group)) + length (number_code size)
unfolding head_code id_code
length-head_code id stamp size = simp length-append (omega arith)

pub head_code-is : (id : RequestId) (stamp : Stamp) (size : ℕ)
    → head_code id stamp size ≡ number_code id.conn.0 ++ (number_code id.seq ++
    (number_code stamp.clock ++ (number_code stamp.group ++ number_code size)))
unfolding head_code id_code
head_code-is id stamp size = append_assoc (number_code id.conn.0) (number_code id.seq) _

pub row_code-is : (row : RowView) → row_code row ≡ head_code row.id row.stamp (length (words_code row.words)) ++
    (words_code row.words ++ row.reply)
unfolding row_code
row_code-is row = refl

pub row_of-code : (row : RowView) → RowFits row → row_of (row_code row) ≡ row
unfolding row_of row_code head_code
row_of-code row fit =
    let body = words_code row.words ++ row.reply in let size = length (words_code row.words) in
    let group = number_code size ++ body in let clock = number_code row.stamp.group ++ group in
    let id = number_code row.stamp.clock ++ clock in
    let words : words_at (words_code row.words) ≡ (row.words, []) = ap words_at (sym (append-nil (words_code row.words)))
    ∙ words_at-code row.words [] fit.words in
    let low : row.stamp.group < 2 ^ 64 = let h = fit.head.group in omega arith in
    simp append_assoc
    (rw (
      id_at-code row.id id fit.head.request,
      number_at-code row.stamp.clock clock fit.head.clock,
      number_at-code row.stamp.group group low,
      number_at-code size body fit.size,
      take_at (words_code row.words) row.reply size refl,
      drop_at (words_code row.words) row.reply size refl,
      words,
    ) refl)

abbrev pub RowView-of : RequestId → ℕ → ℕ → List (List ℕ) → List ℕ → RowView
RowView-of id clock group words reply = record { id = id; stamp = record { clock = clock; group = group }; words = words; reply = reply }

-- what is read of a row's bytes, one thing after another
pub record RowRead (row : RowView) (id : RequestId) (clock group size : ℕ) (rest : List ℕ) : Type 0 where
  pub same_id : id ≡ row.id
  pub same_clock : clock ≡ row.stamp.clock
  pub same_group : group ≡ row.stamp.group
  pub same_size : size ≡ length (words_code row.words)
  pub left : rest ≡ words_code row.words ++ row.reply

pub row_read : (row : RowView) (bytes : List ℕ) (id : RequestId) (clock group size : ℕ) (r1 r2 r3 r4 : List ℕ)
    → bytes ≡ row_code row → RowFits row
    → id ≡ (id_at bytes).0 → r1 ≡ (id_at bytes).1
    → clock ≡ (number_at r1).0 → r2 ≡ (number_at r1).1
    → group ≡ (number_at r2).0 → r3 ≡ (number_at r2).1
    → size ≡ (number_at r3).0 → r4 ≡ (number_at r3).1
    → RowRead row id clock group size r4
unfolding row_code head_code
row_read row bytes id clock group size r1 r2 r3 r4 coded fit e0 e1 e2 e3 e4 e5 e6 e7 =
    let body = words_code row.words ++ row.reply in let long = length (words_code row.words) in
    let c3 = number_code long ++ body in let c2 = number_code row.stamp.group ++ c3 in let c1 = number_code row.stamp.clock ++ c2 in
    let low : row.stamp.group < 2 ^ 64 = let h = fit.head.group in omega arith in
    let whole : bytes ≡ id_code row.id ++ c1 = coded ∙ simp append_assoc in
    let p1 : id_at bytes ≡ (row.id, c1) = ap id_at whole ∙ id_at-code row.id c1 fit.head.request in
    let f1 : r1 ≡ c1 = e1 ∙ ap (λ p. p.1) p1 in
    let p2 : number_at r1 ≡ (row.stamp.clock, c2) = ap number_at f1 ∙ number_at-code row.stamp.clock c2 fit.head.clock in
    let f2 : r2 ≡ c2 = e3 ∙ ap (λ p. p.1) p2 in
    let p3 : number_at r2 ≡ (row.stamp.group, c3) = ap number_at f2 ∙ number_at-code row.stamp.group c3 low in
    let f3 : r3 ≡ c3 = e5 ∙ ap (λ p. p.1) p3 in
    let p4 : number_at r3 ≡ (long, body) = ap number_at f3 ∙ number_at-code long body fit.size in
    record {
      same_id = e0 ∙ ap (λ p. p.0) p1;
      same_clock = e2 ∙ ap (λ p. p.0) p2;
      same_group = e4 ∙ ap (λ p. p.0) p3;
      same_size = e6 ∙ ap (λ p. p.0) p4;
      left = e7 ∙ ap (λ p. p.1) p4;
    }

-- the words and the reply of what is left
pub words-left : (row : RowView) (front back rest : List ℕ) (size : ℕ) → size ≡ length (words_code row.words)
    → rest ≡ words_code row.words ++ row.reply
    → front ≡ take size rest → back ≡ drop size rest → (front ≡ words_code row.words) × (back ≡ row.reply)
words-left row front back rest size long left e f = (
  e ∙ rw left (take_at (words_code row.words) row.reply size (sym long)),
  f ∙ rw left
      (drop_at (words_code row.words) row.reply size (sym long)),
)

pub words-read : (words : List (List ℕ)) (bytes : List ℕ) → bytes ≡ words_code words → WordsFit words → (words_at bytes).0 ≡ words
words-read words bytes coded fit = ap (λ p. p.0) (ap words_at (coded ∙ sym (append-nil (words_code words))) ∙ words_at-code words [] fit)

pub RowWords-read : (words : List (List ℕ)) (bytes : List ℕ) → bytes ≡ words_code words → WordsFit words → RowWords (words_at bytes).0 bytes
RowWords-read words bytes coded fit = rw (words-read words bytes coded fit) (record { coded = coded; fit = fit })

-- one empty word
pub empty-word : RowWords (words_at (1 ∷ 0 ∷ [])).0 (1 ∷ 0 ∷ [])
unfolding words_code word_code number_code
empty-word =
    let each : AllByRecursion WordFits ([] ∷ []) = (record { size = lit< tt; bytes = λ i. lit< tt }, tt) in
    RowWords-read ([] ∷ []) (1 ∷ 0 ∷ []) refl (record { some = lit< tt; count = lit< tt; each = each })

pub RowIsIn-read : (row : RowView) (bytes : List ℕ) → bytes ≡ row_code row → RowFits row → RowIsIn (row_of bytes) bytes
RowIsIn-read row bytes coded fit =
    let same : row_of bytes ≡ row = ap row_of coded ∙ row_of-code row fit in rw same (record { coded = coded; fit = fit })

pub row-same : (row : RowView) (id : RequestId) (clock group : ℕ) (words : List (List ℕ)) (reply : List ℕ)
    → id ≡ row.id → clock ≡ row.stamp.clock → group ≡ row.stamp.group → words ≡ row.words → reply ≡ row.reply
    → RowView-of id clock group words reply ≡ row
row-same row id clock group words reply a b c d e = rw (a, b, c, d, e) refl

pub ruleset heads = (length-head_code, head_code-is, number_code-few)
