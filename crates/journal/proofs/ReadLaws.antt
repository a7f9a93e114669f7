-- How a trace's text is read line by line: which lines a trace has, and what a fault's line is.
use Rattle.std.proofs.Common.{◌≡◌, ◌≢◌, ℕ, suc, ◌+◌, ◌≤◌, List, [], ◌∷◌, ◌++◌, length, Bool, true, false, refl, ap, sym, subst, ◌∙◌}
use Rattle.std.proofs.Common.{arith, Option, Some, None, inl, inr, ◌⊎◌, ◌==◌, length-append, MatchOption, codes}
use Rattle.std.specs.List.{flat_map, AllZip}
use Rattle.std.proofs.lemmas.List.{append_assoc, append-nil}
use Rattle.std.proofs.lemmas.List.Concat.{flat_map-append}
use Rattle.std.proofs.lemmas.Bool.{cases_Bool, eqb-true, eqb-false}
use Rattle.packing.specs.CodeLaws.{all_more}
use Rattle.journal.specs.declared.step.Step.{Step}
use Rattle.journal.specs.TraceText.{cut_at, step_in, IsVersion, first_line, max_line, end_line, ended, IsStepLine, AreLines, HasNoLf}
use Rattle.journal.specs.TraceText.{Spells, Begins, IsBad}
use Rattle.journal.specs.TraceReading.{IsRead, IsLine}
use Rattle.journal.proofs.TextLaws.{decimal-same}
use Rattle.journal.specs.declared.trace.TheConstants.{GREATEST_STEPS}
use Rattle.journal.specs.declared.version.TheConstants.{GREATEST_VERSION}

-- ---- lines and their ends

cons_cut : (b : ℕ) (bs front : List ℕ) (o : Option (List ℕ)) → b ≢ 10 → MatchOption o (HasNoLf bs) (λ behind. IsLine bs front behind)
    → MatchOption o (HasNoLf (b ∷ bs)) (λ behind. IsLine (b ∷ bs) (b ∷ front) behind)
cons_cut b bs front None n h = (n, h)
cons_cut b bs front (Some behind) n h = record { split = ap (λ x. b ∷ x) h.split; no_lf = (n, h.no_lf) }

pub cut-line : (rest : List ℕ) → MatchOption (cut_at 10 rest).1 (HasNoLf rest) (λ behind. IsLine rest (cut_at 10 rest).0 behind)
unfolding cut_at
cut-line [] = tt
cut-line (b ∷ bs) = elim (cases_Bool (b == 10)) [
  | inl here ↦ let is : b ≡ 10 = eqb-true b 10 here in rw here (record { split = rw is refl; no_lf = tt })
  | inr on ↦ let other : b ≢ 10 = eqb-false b 10 on in rw on (cons_cut b bs (cut_at 10 bs).0 (cut_at 10 bs).1 other (cut-line bs))
]

pub cut-none : (rest : List ℕ) → (cut_at 10 rest).1 ≡ None → HasNoLf rest
cut-none rest e =
    subst (λ o. MatchOption o (HasNoLf rest) (λ behind. IsLine rest (cut_at 10 rest).0 behind)) e (cut-line rest)

pub cut-some : (rest line behind : List ℕ) → line ≡ (cut_at 10 rest).0 → (cut_at 10 rest).1 ≡ Some behind → IsLine rest line behind
cut-some rest line behind f e =
    let is = subst (λ o. MatchOption o (HasNoLf rest) (λ rest'. IsLine rest (cut_at 10 rest).0 rest')) e (cut-line rest) in
    subst (λ l. IsLine rest l behind) (sym f) is

pub line-same : (a b x y : List ℕ) → HasNoLf a → HasNoLf b → ended a ++ x ≡ ended b ++ y → (a ≡ b) × (x ≡ y)
line-same [] [] x y p q e = (refl, cc)
line-same [] (d ∷ ds) x y p q e = let is : d ≡ 10 = cc in absurd (q.0 is)
line-same (c ∷ cs) [] x y p q e = let is : c ≡ 10 = cc in absurd (p.0 is)
line-same (c ∷ cs) (d ∷ ds) x y p q e =
    let tail : ended cs ++ x ≡ ended ds ++ y = cc in let head : c ≡ d = cc in let more = line-same cs ds x y p.1 q.1 tail in (cc, more.1)

pub line-none : (rest next more : List ℕ) → HasNoLf rest → rest ≡ ended next ++ more → ⊥
line-none [] [] more p e = cc
line-none [] (c ∷ cs) more p e = cc
line-none (b ∷ bs) [] more p e = let is : b ≡ 10 = cc in p.0 is
line-none (b ∷ bs) (c ∷ cs) more p e = let tail : bs ≡ ended cs ++ more = cc in line-none bs cs more p.1 tail

-- ---- which line stands where

body-place : (version : ℕ) (before : List (List ℕ)) (line : List ℕ) (more body : List (List ℕ)) (steps : List Step) (e : List ℕ)
    → before ++ line ∷ more ≡ body ++ e ∷ [] → AllZip (IsStepLine version) body steps
    → ((s : Step) × IsStepLine version line s) ⊎ ((line ≡ e) × (more ≡ []) × (length before ≡ length steps))
body-place version [] line more [] [] e h z = inr (cc, cc, refl)
body-place version [] line more [] (s ∷ ss) e h z = absurd z
body-place version [] line more (b ∷ bs) [] e h z = absurd z
body-place version [] line more (b ∷ bs) (s ∷ ss) e h z = let same : b ≡ line = cc in inl (s, subst (λ l. IsStepLine version l s) same z.0)
body-place version (x ∷ xs) line more [] [] e h z = absurd (omega (arith, ap length h, length-append xs (line ∷ more)))
body-place version (x ∷ xs) line more [] (s ∷ ss) e h z = absurd z
body-place version (x ∷ xs) line more (b ∷ bs) [] e h z = absurd z
body-place version (x ∷ xs) line more (b ∷ bs) (s ∷ ss) e h z =
    let tail : xs ++ line ∷ more ≡ bs ++ e ∷ [] = cc in
    elim (body-place version xs line more bs ss e tail z.1) [
      | inl found ↦ inl found
      | inr last ↦ inr (last.0, last.1, ap suc last.2)
    ]

zip-length : (version : ℕ) (body : List (List ℕ)) (steps : List Step) → AllZip (IsStepLine version) body steps → length body ≡ length steps
zip-length version [] [] z = refl
zip-length version [] (s ∷ ss) z = absurd z
zip-length version (b ∷ bs) [] z = absurd z
zip-length version (b ∷ bs) (s ∷ ss) z = ap suc (zip-length version bs ss z.1)

zip-push : (version : ℕ) (body : List (List ℕ)) (steps : List Step) (line : List ℕ) (step : Step)
    → AllZip (IsStepLine version) body steps → IsStepLine version line step
    → AllZip (IsStepLine version) (body ++ line ∷ []) (steps ++ step ∷ [])
zip-push version [] [] line step z is = (is, tt)
zip-push version [] (s ∷ ss) line step z is = absurd z
zip-push version (b ∷ bs) [] line step z is = absurd z
zip-push version (b ∷ bs) (s ∷ ss) line step z is = (z.0, zip-push version bs ss line step z.1 is)

-- the end is no step
end-no-step : (version n : ℕ) (s : Step) → IsStepLine version (end_line n) s → ⊥
unfolding step_in
end-no-step version n s is = cc

no-end-in-body : (version : ℕ) (front body : List (List ℕ)) (steps : List Step) (n : ℕ) → AllZip (IsStepLine version) body steps
    → body ≡ front ++ end_line n ∷ [] → ⊥
no-end-in-body version [] [] [] n z e = cc
no-end-in-body version (x ∷ xs) [] [] n z e = cc
no-end-in-body version front [] (s ∷ ss) n z e = absurd z
no-end-in-body version front (b ∷ bs) [] n z e = absurd z
no-end-in-body version [] (b ∷ bs) (s ∷ ss) n z e =
    let same : b ≡ end_line n = cc in end-no-step version n s (subst (λ l. IsStepLine version l s) same z.0)
no-end-in-body version (x ∷ xs) (b ∷ bs) (s ∷ ss) n z e =
    let tail : bs ≡ xs ++ end_line n ∷ [] = cc in no-end-in-body version xs bs ss n z.1 tail

-- ---- what is read so far, and the fault of what is left

-- a first line is of one version
pub version-same : (v w : ℕ) → IsVersion v → IsVersion w → first_line v ≡ first_line w → v ≡ w
version-same v w known other e =
    let last = known.last in let last' = other.last in decimal-same (codes "shardkv-trace ") v w (omega arith) (omega arith) e

begun : (version max : ℕ) (body : List (List ℕ)) (steps : List Step) → IsVersion version → 1 ≤ max → max ≤ GREATEST_STEPS
    → AllZip (IsStepLine version) body steps → Begins (first_line version ∷ max_line max ∷ body)
begun version max body steps known least greatest z = record {
  version = version;
  max = max;
  steps = steps;
  more = end_line (length steps) ∷ [];
  are = record { known = known; least = least; greatest = greatest; body = body; each = z; whole = refl };
}

not-whole : (version max : ℕ) (body : List (List ℕ)) (steps : List Step) (w m : ℕ) (ss : List Step) → AllZip (IsStepLine version) body steps
    → AreLines (first_line version ∷ max_line max ∷ body) w m ss → ⊥
not-whole version max body steps w m ss z are =
    let tail : body ≡ are.body ++ end_line (length ss) ∷ [] = cc (are.whole) in
    no-end-in-body version are.body body steps (length ss) z tail

-- the next line of a trace that begins with these steps is a step or its end
next-line : (version max : ℕ) (body : List (List ℕ)) (steps : List Step) (line : List ℕ) → IsVersion version
    → AllZip (IsStepLine version) body steps → ((s : Step) → IsStepLine version line s → ⊥) → (line ≡ end_line (length steps) → ⊥)
    → Begins (first_line version ∷ max_line max ∷ (body ++ line ∷ [])) → ⊥
next-line version max body steps line known z none other b =
    let whole = b.are.whole in
    let first : first_line version ≡ first_line b.version = cc (whole) in
    let same = version-same version b.version known b.are.known first in
    let each = subst (λ v. AllZip (IsStepLine v) b.are.body b.steps) (sym same) b.are.each in
    let tail : (body ++ line ∷ []) ++ b.more ≡ b.are.body ++ end_line (length b.steps) ∷ [] = cc (whole) in
    let placed : body ++ line ∷ b.more ≡ b.are.body ++ end_line (length b.steps) ∷ [] = sym (append_assoc body (line ∷ []) b.more) ∙ tail in
    elim (body-place version body line b.more b.are.body b.steps (end_line (length b.steps)) placed each) [
      | inl found ↦ none found.0 found.1
      | inr last ↦ other (last.0 ∙ ap end_line (sym last.2 ∙ zip-length version body steps z))
    ]

-- nothing stands behind the end
behind-end : (version max : ℕ) (body : List (List ℕ)) (n : ℕ) (next : List ℕ) → Begins
    (first_line version ∷ max_line max ∷ ((body ++ end_line n ∷ []) ++ next ∷ [])) → ⊥
behind-end version max body n next b =
    let whole = b.are.whole in
    let tail : ((body ++ end_line n ∷ []) ++ next ∷ []) ++ b.more ≡ b.are.body ++ end_line (length b.steps) ∷ [] = cc (whole) in
    let placed : body ++ end_line n ∷ (next ∷ b.more) ≡ b.are.body ++ end_line (length b.steps) ∷ [] = simp append_assoc at tail in
    elim (body-place b.version body (end_line n) (next ∷ b.more) b.are.body b.steps (end_line (length b.steps)) placed b.are.each) [
      | inl found ↦ end-no-step b.version n found.0 found.1
      | inr last ↦ let gone = last.1 in cc
    ]

pub read-open : (text rest : List ℕ) (version max : ℕ) (steps : List Step) → IsRead text rest version max steps → HasNoLf rest → IsBad text
    (length steps + 3)
read-open text rest version max steps r none = record {
  before = first_line version ∷ max_line max ∷ r.body;
  no_lf = r.no_lf;
  rest = rest;
  split = r.split;
  counted = omega (arith, zip-length version r.body steps r.each);
  begins = begun version max r.body steps r.known r.least r.greatest r.each;
  next_is_none = λ next more p e b. line-none rest next more none e;
  not_whole = λ w m ss e are. not-whole version max r.body steps w m ss r.each are;
}

pub read-bad : (text rest line behind : List ℕ) (version max : ℕ) (steps : List Step) → IsRead text rest version max steps
    → IsLine rest line behind
    → ((s : Step) → IsStepLine version line s → ⊥) → (line ≡ end_line (length steps) → ⊥) → IsBad text (length steps + 3)
read-bad text rest line behind version max steps r is none other = record {
  before = first_line version ∷ max_line max ∷ r.body;
  no_lf = r.no_lf;
  rest = rest;
  split = r.split;
  counted = omega (arith, zip-length version r.body steps r.each);
  begins = begun version max r.body steps r.known r.least r.greatest r.each;
  next_is_none = λ next more p e b.
      let same = (line-same line next behind more is.no_lf p (sym is.split ∙ e)).0 in
      next-line version max r.body steps line r.known r.each none other
      (subst (λ l. Begins (first_line version ∷ max_line max ∷ (r.body ++ l ∷ []))) (sym same) b);
  not_whole = λ w m ss e are. not-whole version max r.body steps w m ss r.each are;
}

lines-push : (before : List (List ℕ)) (line behind text rest : List ℕ) → text ≡ flat_map ended before ++ rest → rest ≡ ended line ++ behind
    → text ≡ flat_map ended (before ++ line ∷ []) ++ behind
lines-push before line behind text rest e f =
    e ∙ ap (λ r. flat_map ended before ++ r) f ∙ sym (append_assoc (flat_map ended before) (ended line) behind)
    ∙ ap (λ c. c ++ behind) (ap (λ c. flat_map ended before ++ c) (sym (append-nil (ended line))) ∙ sym
    (flat_map-append ended before (line ∷ [])))

pub read-behind : (text rest behind : List ℕ) (version max : ℕ) (steps : List Step) → IsRead text rest version max steps → IsLine rest
    (end_line (length steps)) behind
    → (behind ≡ [] → ⊥) → IsBad text (length steps + 4)
read-behind text rest behind version max steps r is some = record {
  before = first_line version ∷ max_line max ∷ (r.body ++ end_line (length steps) ∷ []);
  no_lf = all_more HasNoLf (first_line version ∷ max_line max ∷ r.body) (end_line (length steps)) r.no_lf is.no_lf;
  rest = behind;
  split = lines-push (first_line version ∷ max_line max ∷ r.body) (end_line (length steps)) behind text rest r.split is.split;
  counted = omega (arith, zip-length version r.body steps r.each, length-append r.body (end_line (length steps) ∷ []));
  begins = record {
    version = version;
    max = max;
    steps = steps;
    more = [];
    are = record {
      known = r.known;
      least = r.least;
      greatest = r.greatest;
      body = r.body;
      each = r.each;
      whole = append-nil
          (first_line version ∷ max_line max ∷ (r.body ++ end_line (length steps) ∷ []));
    };
  };
  next_is_none = λ next more p e b. behind-end version max r.body (length steps) next b;
  not_whole = λ w m ss e are. some e;
}

pub read-done : (text rest : List ℕ) (version max : ℕ) (steps : List Step) → IsRead text rest version max steps → IsLine rest
    (end_line (length steps)) [] → Spells text max steps
read-done text rest version max steps r is = record {
  version = version;
  lines = first_line version ∷ max_line max ∷ (r.body ++ end_line (length steps) ∷ []);
  no_lf = all_more HasNoLf (first_line version ∷ max_line max ∷ r.body) (end_line (length steps)) r.no_lf is.no_lf;
  split = lines-push (first_line version ∷ max_line max ∷ r.body) (end_line (length steps)) [] text rest r.split is.split ∙ append-nil _;
  are = record { known = r.known; least = r.least; greatest = r.greatest; body = r.body; each = r.each; whole = refl };
}

pub read-more : (text rest line behind : List ℕ) (version max : ℕ) (steps : List Step) (step : Step) → IsRead text rest version max steps
    → IsLine rest line behind → IsStepLine version line step
    → IsRead text behind version max (steps ++ step ∷ [])
read-more text rest line behind version max steps step r is here = record {
  known = r.known;
  least = r.least;
  greatest = r.greatest;
  body = r.body ++ line ∷ [];
  each = zip-push version r.body steps line step r.each here;
  no_lf = all_more HasNoLf (first_line version ∷ max_line max ∷ r.body) line r.no_lf is.no_lf;
  split = lines-push (first_line version ∷ max_line max ∷ r.body) line behind text rest r.split is.split;
}

-- ---- the first two lines

first-known : IsVersion 1
first-known = record { first = omega arith; last = omega arith }

begun-none : Begins []
begun-none = record {
  version = 1;
  max = 1;
  steps = [];
  more = first_line 1 ∷ max_line 1 ∷ end_line 0 ∷ [];
  are = record { known = first-known; least = omega arith; greatest = omega arith; body = []; each = tt; whole = refl };
}

begun-first : (version : ℕ) → IsVersion version → Begins (first_line version ∷ [])
begun-first version known = record {
  version = version;
  max = 1;
  steps = [];
  more = max_line 1 ∷ end_line 0 ∷ [];
  are = record { known = known; least = omega arith; greatest = omega arith; body = []; each = tt; whole = refl };
}

pub head-open : (text : List ℕ) → HasNoLf text → IsBad text 1
head-open text none = record {
  before = [];
  no_lf = tt;
  rest = text;
  split = refl;
  counted = refl;
  begins = begun-none;
  next_is_none = λ next more p e b. line-none text next more none e;
  not_whole = λ w m ss e are. let whole = are.whole in cc;
}

pub head-bad : (text line behind : List ℕ) → IsLine text line behind
    → ((version : ℕ) → 1 ≤ version → version ≤ GREATEST_VERSION → line ≡ first_line version → ⊥) → IsBad text 1
head-bad text line behind is none = record {
  before = [];
  no_lf = tt;
  rest = text;
  split = refl;
  counted = refl;
  begins = begun-none;
  next_is_none = λ next more p e b.
      let same = (line-same line next behind more is.no_lf p (sym is.split ∙ e)).0 in let whole = b.are.whole in
      let first : next ≡ first_line b.version = cc in none b.version b.are.known.first b.are.known.last (same ∙ first);
  not_whole = λ w m ss e are. let whole = are.whole in cc;
}

pub max-open : (text rest : List ℕ) (version : ℕ) → IsVersion version → IsLine text (first_line version) rest → HasNoLf rest → IsBad text 2
max-open text rest version known is none = record {
  before = first_line version ∷ [];
  no_lf = (is.no_lf, tt);
  rest = rest;
  split = is.split ∙ ap (λ c. c ++ rest) (sym (append-nil (ended (first_line version))));
  counted = refl;
  begins = begun-first version known;
  next_is_none = λ next more p e b. line-none rest next more none e;
  not_whole = λ w m ss e are. let whole = are.whole in cc;
}

pub max-bad : (text rest line behind : List ℕ) (version : ℕ) → IsVersion version → IsLine text (first_line version) rest
    → IsLine rest line behind → ((max : ℕ) → 1 ≤ max → max ≤ GREATEST_STEPS → line ≡ max_line max → ⊥) → IsBad text 2
max-bad text rest line behind version known is next_is none = record {
  before = first_line version ∷ [];
  no_lf = (is.no_lf, tt);
  rest = rest;
  split = is.split ∙ ap (λ c. c ++ rest) (sym (append-nil (ended (first_line version))));
  counted = refl;
  begins = begun-first version known;
  next_is_none = λ next more p e b.
      let same = (line-same line next behind more next_is.no_lf p (sym next_is.split ∙ e)).0 in let whole = b.are.whole in
      let second : next ≡ max_line b.max = cc in none b.max b.are.least b.are.greatest (same ∙ second);
  not_whole = λ w m ss e are. let whole = are.whole in cc;
}

pub head-read : (text rest behind : List ℕ) (version max : ℕ) → IsVersion version → IsLine text (first_line version) rest
    → IsLine rest (max_line max) behind → 1 ≤ max → max ≤ GREATEST_STEPS → IsRead text behind version max []
head-read text rest behind version max known is next_is least greatest = record {
  known = known;
  least = least;
  greatest = greatest;
  body = [];
  each = tt;
  no_lf = (is.no_lf, (next_is.no_lf, tt));
  split = lines-push (first_line version ∷ []) (max_line max) behind text rest
      (is.split ∙ ap (λ c. c ++ rest) (sym (append-nil (ended (first_line version))))) next_is.split;
}

-- ---- whether a step was added

pub none-added : (X : Type 0) (o : Option Step) (added : Bool) (max max' : ℕ) (steps steps' : List Step)
    → MatchOption o ((added ≡ false) × X) (λ s. (added ≡ true) × (max' ≡ max) × (steps' ≡ steps ++ s ∷ [])) → added ≡ false
    → (s : Step) → o ≡ Some s → ⊥
none-added X None added max max' steps steps' m e s is = cc
none-added X (Some s) added max max' steps steps' m e t is = let on = m.0 in cc

pub some-added : (X : Type 0) (o : Option Step) (added : Bool) (max max' : ℕ) (steps steps' : List Step)
    → MatchOption o ((added ≡ false) × X) (λ s. (added ≡ true) × (max' ≡ max) × (steps' ≡ steps ++ s ∷ [])) → added ≡ true
    → (s : Step) × (o ≡ Some s) × (max' ≡ max) × (steps' ≡ steps ++ s ∷ [])
some-added X None added max max' steps steps' m e = let off = m.0 in cc
some-added X (Some s) added max max' steps steps' m e = (s, refl, m.1, m.2)
