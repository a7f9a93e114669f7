-- What was written of a trace spells that trace.
use Rattle.std.proofs.Common.{◌≡◌, ◌≢◌, ℕ, zero, suc, ◌+◌, ◌/◌, ◌%◌, ◌^◌, ◌<◌, ◌≤◌, List, [], ◌∷◌, ◌++◌, length, map, get_or, Bool, true}
use Rattle.std.proofs.Common.{false, ◌&&◌, refl, ap, ◌∙◌, arith, Option, Some, None, ◌==◌, codes, lit<}
use Rattle.std.specs.Fmt.{decimal}
use Rattle.std.specs.List.{flat_map, AllByRecursion, AllZip}
use Rattle.std.specs.Result.{result_ok}
use Rattle.std.proofs.lemmas.List.{append_assoc}
use Rattle.std.proofs.lemmas.Fmt.{decimal_by_steps}
use Rattle.std.proofs.lemmas.Bool.{ne_eqb}
use Rattle.hex.specs.Hex.{encode_lower, encode_with, lower_digits, IsBytes}
use Rattle.hex.proofs.HexLemmas.{decode_of-encode_lower}
use Rattle.groups.specs.declared.request.ConnId.{ConnId}
use Rattle.groups.specs.declared.request.RequestId.{RequestId}
use Rattle.groups.specs.declared.skip_id.SkipId.{SkipId}
use Rattle.groups.specs.declared.skip_id.SkipId.TheVariants.{Whole, Part}
use Rattle.packing.specs.Codes.{WordFits, WordsFit}
use Rattle.journal.specs.declared.step.Step.{Step}
use Rattle.journal.specs.declared.step.Step.TheVariants.{Open, Submit, Deliver, Take, Run, Settle, Collect, Close, Repeat}
use Rattle.journal.specs.Codes.{IdFits, SkipFits, StepFits}
use Rattle.journal.specs.TraceText.{word_text, id_text, skip_text, step_name, step_args, joined, step_line, first_line, max_line, end_line}
use Rattle.journal.specs.TraceText.{trace_text, word_in, cut_at, id_of, skip_in, all_in, parts_in, named, step_in, IsStepLine, HasNoLf, Spells}
use Rattle.journal.proofs.TextLaws.{number_in-decimal}
use Rattle.journal.specs.declared.trace.TheConstants.{GREATEST_STEPS}
use Rattle.journal.specs.declared.version.TheConstants.{WRITTEN_VERSION}

-- ---- bytes above a space

abbrev Visible : ℕ → Type 0
Visible b = 32 < b

abbrev Plain : List ℕ → Type 0
Plain text = AllByRecursion Visible text

all_append : (P : ℕ → Type 0) (xs ys : List ℕ) → AllByRecursion P xs → AllByRecursion P ys → AllByRecursion P (xs ++ ys)
all_append P [] ys p q = q
all_append P (x ∷ xs) ys p q = (p.0, all_append P xs ys p.1 q)

weaker : (P Q : ℕ → Type 0) (xs : List ℕ) → ((x : ℕ) → P x → Q x) → AllByRecursion P xs → AllByRecursion Q xs
weaker P Q [] f all = tt
weaker P Q (x ∷ xs) f all = (f x all.0, weaker P Q xs f all.1)

abbrev Digits : List ℕ → Type 0
Digits text = AllByRecursion (λ b. 47 < b) text

decimal-digits : (n : ℕ) → n < 2 ^ 64 → Digits (decimal n)
decimal-digits n h =
    decimal_by_steps (λ m ds. Digits ds) (λ m low. (omega arith, tt))
    (λ m ds high all. all_append (λ b. 47 < b) ds ((48 + m % 10) ∷ []) all (omega arith, tt)) n h

decimal-plain : (n : ℕ) → n < 2 ^ 64 → Plain (decimal n)
decimal-plain n h = weaker (λ b. 47 < b) Visible (decimal n) (λ b high. omega arith) (decimal-digits n h)

at_all : (P : ℕ → Type 0) (xs : List ℕ) (i : ℕ) → AllByRecursion P xs → i < length xs → P (get_or xs i 0)
at_all P [] i all h = absurd (omega arith)
at_all P (x ∷ xs) zero all h = all.0
at_all P (x ∷ xs) (suc i) all h = at_all P xs i all.1 (omega arith)

lower-plain : Plain lower_digits
lower-plain = (
  lit< tt,
  (
    lit< tt,
    (
      lit< tt,
      (
        lit< tt,
        (
          lit< tt,
          (lit< tt, (lit< tt, (lit< tt, (lit< tt, (lit< tt, (lit< tt, (lit< tt, (lit< tt, (lit< tt, (lit< tt, (lit< tt, tt))))))))))),
        ),
      ),
    ),
  ),
)

digit-plain : (k : ℕ) → k < 16 → Visible (get_or lower_digits k 0)
digit-plain k h = at_all Visible lower_digits k lower-plain h

tail-bytes : (b : ℕ) (bs : List ℕ) → IsBytes (b ∷ bs) → IsBytes bs
tail-bytes b bs is = λ i. is (suc i)

encode-plain : (word : List ℕ) → IsBytes word → Plain (encode_lower word)
unfolding encode_with
encode-plain [] is = tt
encode-plain (b ∷ bs) is =
    let low : b < 256 = is 0 in
    (digit-plain (b / 16) (omega arith), (digit-plain (b % 16) (omega arith), encode-plain bs (tail-bytes b bs is)))

pub word-plain : (word : List ℕ) → WordFits word → Plain (word_text word)
word-plain [] fits = (lit< tt, tt)
word-plain (b ∷ bs) fits = encode-plain (b ∷ bs) fits.bytes

id-plain : (id : RequestId) → IdFits id → Plain (id_text id)
id-plain id fits = all_append Visible (decimal id.conn.0 ++ codes ".") (decimal id.seq)
    (all_append Visible (decimal id.conn.0) (codes ".") (decimal-plain id.conn.0 fits.conn) (lit< tt, tt))
    (decimal-plain id.seq fits.seq)

skip-plain : (name : SkipId) → SkipFits name → Plain (skip_text name)
skip-plain (Whole id) fits = id-plain id fits
skip-plain (Part id number) fits = all_append Visible (id_text id ++ codes ".") (decimal number)
    (all_append Visible (id_text id) (codes ".") (id-plain id fits.0) (lit< tt, tt)) (decimal-plain number fits.2)

-- ---- what is read of each part

and-false : (a : Bool) → (a && false) ≡ false
and-false true = refl
and-false false = refl

word_in-text : (word : List ℕ) → WordFits word → word_in (word_text word) ≡ Some word
unfolding word_in encode_with
word_in-text [] fits = refl
word_in-text (b ∷ bs) fits =
    let two : ((get_or lower_digits (b / 16) 0 == 45) && false) ≡ false = and-false (get_or lower_digits (b / 16) 0 == 45) in
    rw two (ap result_ok (decode_of-encode_lower (b ∷ bs) fits.bytes))

cut-at-dot : (ds rest : List ℕ) → Digits ds → cut_at 46 (ds ++ 46 ∷ rest) ≡ (ds, Some rest)
unfolding cut_at
cut-at-dot [] rest all = refl
cut-at-dot (d ∷ ds) rest all =
    let high = all.0 in let other : (d == 46) ≡ false = ne_eqb d 46 (omega arith) in rw (other, cut-at-dot ds rest all.1) refl

cut-no-dot : (ds : List ℕ) → Digits ds → cut_at 46 ds ≡ (ds, None)
unfolding cut_at
cut-no-dot [] all = refl
cut-no-dot (d ∷ ds) all =
    let high = all.0 in let other : (d == 46) ≡ false = ne_eqb d 46 (omega arith) in rw (other, cut-no-dot ds all.1) refl

whole_in-text : (id : RequestId) → IdFits id → skip_in WRITTEN_VERSION (id_text id) ≡ Some (Whole id)
unfolding skip_in id_of
whole_in-text id fits =
    let cut : cut_at 46 (id_text id) ≡ (decimal id.conn.0, Some (decimal id.seq)) = ap (cut_at 46)
    (append_assoc (decimal id.conn.0) (codes ".") (decimal id.seq)) ∙ cut-at-dot (decimal id.conn.0) (decimal id.seq)
    (decimal-digits id.conn.0 fits.conn) in
    rw (
      cut,
      cut-no-dot (decimal id.seq) (decimal-digits id.seq fits.seq),
      number_in-decimal id.conn.0 (decimal id.conn.0) fits.conn refl,
      number_in-decimal id.seq (decimal id.seq) fits.seq refl,
    ) refl

part_in-text : (id : RequestId) (n : ℕ) → IdFits id → suc n < 2 ^ 64
    → skip_in WRITTEN_VERSION (skip_text (Part id (suc n))) ≡ Some (Part id (suc n))
unfolding skip_in id_of
part_in-text id n fits low =
    let behind = decimal id.seq ++ 46 ∷ decimal (suc n) in
    let cut : cut_at 46 (skip_text (Part id (suc n))) ≡ (decimal id.conn.0, Some behind) = ap (cut_at 46)
    (simp append_assoc) ∙ cut-at-dot (decimal id.conn.0) behind (decimal-digits id.conn.0 fits.conn) in
    rw (
      cut,
      cut-at-dot (decimal id.seq) (decimal (suc n)) (decimal-digits id.seq fits.seq),
      number_in-decimal id.conn.0 (decimal id.conn.0) fits.conn refl,
      number_in-decimal id.seq (decimal id.seq) fits.seq refl,
      number_in-decimal (suc n) (decimal (suc n)) low refl,
    ) refl

skip_in-text : (name : SkipId) → SkipFits name → skip_in WRITTEN_VERSION (skip_text name) ≡ Some name
skip_in-text (Whole id) fits = whole_in-text id fits
skip_in-text (Part id zero) fits = absurd (let least = fits.1 in omega arith)
skip_in-text (Part id (suc n)) fits = part_in-text id n fits.0 fits.2

all_in-text : {A : Type 0} (Fits : A → Type 0) (read : List ℕ → Option A) (text : A → List ℕ) → ((x : A) → Fits x → read (text x) ≡ Some x)
    → (xs : List A) → AllByRecursion Fits xs → all_in read (map text xs) ≡ Some xs
all_in-text Fits read text back [] fit = refl
all_in-text Fits read text back (x ∷ xs) fit = rw (back x fit.0, all_in-text Fits read text back xs fit.1) refl

all_in-plain : {A : Type 0} (Fits : A → Type 0) (text : A → List ℕ) → ((x : A) → Fits x → Plain (text x))
    → (xs : List A) → AllByRecursion Fits xs → AllByRecursion Plain (map text xs)
all_in-plain Fits text plain [] fit = tt
all_in-plain Fits text plain (x ∷ xs) fit = (plain x fit.0, all_in-plain Fits text plain xs fit.1)

-- ---- a line and its parts

parts_in-joined : (name : List ℕ) (args : List (List ℕ)) → Plain name → AllByRecursion Plain args → parts_in (joined name args) ≡
    (name, args)
parts_in-joined [] [] p q = refl
parts_in-joined [] (arg ∷ args) p q = rw (parts_in-joined arg args q.0 q.1) refl
parts_in-joined (b ∷ bs) args p q =
    let high = p.0 in let other : (b == 32) ≡ false = ne_eqb b 32 (omega arith) in rw (other, parts_in-joined bs args p.1 q) refl

-- ---- the line of a step

names : (step : Step) → Plain (step_name step)
names Open = (lit< tt, (lit< tt, (lit< tt, (lit< tt, tt))))
names (Submit conn words) = (lit< tt, (lit< tt, (lit< tt, (lit< tt, (lit< tt, (lit< tt, tt))))))
names (Deliver place) = (lit< tt, (lit< tt, (lit< tt, (lit< tt, (lit< tt, (lit< tt, (lit< tt, tt)))))))
names Take = (lit< tt, (lit< tt, (lit< tt, (lit< tt, tt))))
names (Run starved) = (lit< tt, (lit< tt, (lit< tt, tt)))
names Settle = (lit< tt, (lit< tt, (lit< tt, (lit< tt, (lit< tt, (lit< tt, tt))))))
names (Collect conn) = (lit< tt, (lit< tt, (lit< tt, (lit< tt, (lit< tt, (lit< tt, (lit< tt, tt)))))))
names (Close conn) = (lit< tt, (lit< tt, (lit< tt, (lit< tt, (lit< tt, tt)))))
names (Repeat place) = (lit< tt, (lit< tt, (lit< tt, (lit< tt, (lit< tt, (lit< tt, tt))))))

args-plain : (step : Step) → StepFits step → AllByRecursion Plain (step_args step)
args-plain Open fit = tt
args-plain (Submit conn words) fit = (decimal-plain conn.0 fit.0, all_in-plain WordFits word_text word-plain words fit.1.each)
args-plain (Deliver place) fit = (decimal-plain place fit, tt)
args-plain Take fit = tt
args-plain (Run starved) fit = all_in-plain SkipFits skip_text skip-plain starved fit.each
args-plain Settle fit = tt
args-plain (Collect conn) fit = (decimal-plain conn.0 fit, tt)
args-plain (Close conn) fit = (decimal-plain conn.0 fit, tt)
args-plain (Repeat place) fit = (decimal-plain place fit, tt)

submit-named : (conn : ConnId) (words : List (List ℕ)) → conn.0 < 2 ^ 64 → WordsFit words → named WRITTEN_VERSION (codes "submit")
    (decimal conn.0 ∷ map word_text words) ≡ Some (Submit conn words)
submit-named conn [] low fit = let some = fit.some in absurd (omega arith)
submit-named conn (word ∷ words) low fit =
    rw (
      number_in-decimal conn.0 (decimal conn.0) low refl,
      all_in-text WordFits word_in word_text word_in-text
          (word ∷ words) fit.each,
    ) refl

-- each kind has a line in the version that is written
named-step : (step : Step) → StepFits step → named WRITTEN_VERSION (step_name step) (step_args step) ≡ Some step
named-step Open fit = refl
named-step (Submit conn words) fit = submit-named conn words fit.0 fit.1
named-step (Deliver place) fit = rw (number_in-decimal place (decimal place) fit refl) refl
named-step Take fit = refl
named-step (Run starved) fit = rw (all_in-text SkipFits (skip_in WRITTEN_VERSION) skip_text skip_in-text starved fit.each) refl
named-step Settle fit = refl
named-step (Collect conn) fit = rw (number_in-decimal conn.0 (decimal conn.0) fit refl) refl
named-step (Close conn) fit = rw (number_in-decimal conn.0 (decimal conn.0) fit refl) refl
named-step (Repeat place) fit = rw (number_in-decimal place (decimal place) fit refl) refl

pub step_in-line : (step : Step) → StepFits step → step_in WRITTEN_VERSION (step_line step) ≡ Some step
unfolding step_in
step_in-line step fit =
    ap (λ (p : List ℕ × List (List ℕ)). named WRITTEN_VERSION p.0 p.1) (parts_in-joined (step_name step) (step_args step) (names step)
    (args-plain step fit)) ∙ named-step step fit

-- ---- the lines of a trace

no-lf : (text : List ℕ) → AllByRecursion (λ b. 31 < b) text → HasNoLf text
no-lf text all = weaker (λ b. 31 < b) (λ b. b ≢ 10) text (λ b high e. omega arith) all

args-high : (args : List (List ℕ)) → AllByRecursion Plain args → AllByRecursion (λ b. 31 < b) (flat_map (λ arg. 32 ∷ arg) args)
args-high [] all = tt
args-high (arg ∷ args) all = (
  lit< tt,
  all_append (λ b. 31 < b) arg (flat_map (λ arg. 32 ∷ arg) args)
      (weaker Visible (λ b. 31 < b) arg (λ b high. omega arith) all.0) (args-high args all.1),
)

line-no-lf : (step : Step) → StepFits step → HasNoLf (step_line step)
line-no-lf step fit =
    no-lf (step_line step)
    (all_append (λ b. 31 < b) (step_name step) (flat_map (λ arg. 32 ∷ arg) (step_args step))
    (weaker Visible (λ b. 31 < b) (step_name step) (λ b high. omega arith) (names step))
    (args-high (step_args step) (args-plain step fit)))

lines-no-lf : (steps : List Step) (last : List ℕ) → AllByRecursion StepFits steps → HasNoLf last → AllByRecursion HasNoLf
    (map step_line steps ++ last ∷ [])
lines-no-lf [] last fit h = (h, tt)
lines-no-lf (s ∷ ss) last fit h = (line-no-lf s fit.0, lines-no-lf ss last fit.1 h)

each-line : (steps : List Step) → AllByRecursion StepFits steps → AllZip (IsStepLine WRITTEN_VERSION) (map step_line steps) steps
each-line [] fit = tt
each-line (s ∷ ss) fit = (step_in-line s fit.0, each-line ss fit.1)

numbered-no-lf : (name : List ℕ) (n : ℕ) → AllByRecursion (λ b. 31 < b) name → n < 2 ^ 64 → HasNoLf (name ++ decimal n)
numbered-no-lf name n all h = no-lf (name ++ decimal n) (all_append (λ b. 31 < b) name (decimal n) all
    (weaker (λ b. 47 < b) (λ b. 31 < b) (decimal n) (λ b high. omega arith) (decimal-digits n h)))

pub written-spells : (max : ℕ) (steps : List Step) → 1 ≤ max → max ≤ GREATEST_STEPS → length steps < 2 ^ 64 → AllByRecursion StepFits steps
    → Spells (trace_text max steps) max steps
written-spells max steps least greatest few fit = record {
  version = WRITTEN_VERSION;
  lines = first_line WRITTEN_VERSION ∷ max_line max ∷ (map step_line steps ++ end_line (length steps) ∷ []);
  no_lf = (
    numbered-no-lf (codes "shardkv-trace ") WRITTEN_VERSION (
      lit< tt,
      (
        lit< tt,
        (
          lit< tt,
          (lit< tt, (lit< tt, (lit< tt, (lit< tt, (lit< tt, (lit< tt, (lit< tt, (lit< tt, (lit< tt, (lit< tt, (lit< tt, tt))))))))))),
        ),
      ),
    ) (omega arith),
    (
      numbered-no-lf (codes "max ") max (lit< tt, (lit< tt, (lit< tt, (lit< tt, tt)))) (omega arith),
      lines-no-lf steps
          (end_line (length steps)) fit (numbered-no-lf (codes "end ") (length steps) (lit< tt, (lit< tt, (lit< tt, (lit< tt, tt)))) few),
    ),
  );
  split = refl;
  are = record {
    known = record { first = omega arith; last = omega arith };
    least = least;
    greatest = greatest;
    body = map step_line steps;
    each = each-line steps fit;
    whole = refl;
  };
}
