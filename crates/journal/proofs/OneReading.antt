-- A text is read in one way.
use Rattle.std.proofs.Common.{◌≡◌, ℕ, List, [], ◌∷◌, ◌++◌, length, refl, ap, sym, subst, ◌∙◌, arith, Some, inl, inr, ◌⊎◌, codes}
use Rattle.std.specs.List.{flat_map, AllByRecursion, AllZip}
use Rattle.std.proofs.lemmas.List.{append_assoc, append-nil, same_from_push}
use Rattle.journal.specs.declared.step.Step.{Step}
use Rattle.journal.specs.TraceText.{first_line, max_line, end_line, ended, IsStepLine, AreLines, HasNoLf, Begins, IsBad}
use Rattle.journal.specs.Laws.{SpellsOne, OneVersion, OneFault, NoFaultOfTrace}
use Rattle.journal.proofs.TextLaws.{decimal-same}
use Rattle.journal.proofs.ReadLaws.{line-same, line-none, version-same}

-- ---- two beginnings of one text

pub record GoesOn (a b : List (List ℕ)) (x y : List ℕ) : Type 0 where
  pub more : List (List ℕ)
  pub whole : b ≡ a ++ more
  pub left : x ≡ flat_map ended more ++ y

lines-meet : (a b : List (List ℕ)) (x y : List ℕ) → AllByRecursion HasNoLf a → AllByRecursion HasNoLf b
    → flat_map ended a ++ x ≡ flat_map ended b ++ y → GoesOn a b x y ⊎ GoesOn b a y x
lines-meet [] b x y p q e = inl (record { more = b; whole = refl; left = e })
lines-meet (a ∷ rest) [] x y p q e = inr (record { more = a ∷ rest; whole = refl; left = sym e })
lines-meet (a ∷ rest) (b ∷ bs) x y p q e =
    let apart : ended a ++ (flat_map ended rest ++ x) ≡ ended b ++ (flat_map ended bs ++ y) = sym
    (append_assoc (ended a) (flat_map ended rest) x) ∙ e ∙ append_assoc (ended b) (flat_map ended bs) y in
    let same = line-same a b (flat_map ended rest ++ x) (flat_map ended bs ++ y) p.0 q.0 apart in
    let head = same.0 in
    elim (lines-meet rest bs x y p.1 q.1 same.1) [
      | inl on ↦ let tail = on.whole in inl (record { more = on.more; whole = cc; left = on.left })
      | inr on ↦ let tail = on.whole in inr (record { more = on.more; whole = cc; left = on.left })
    ]

no-more : (more : List (List ℕ)) (y : List ℕ) → [] ≡ flat_map ended more ++ y → (more ≡ []) × (y ≡ [])
no-more [] y e = (refl, sym e)
no-more (l ∷ ls) y e = absurd (line-none [] l (flat_map ended ls ++ y) tt (e ∙ append_assoc (ended l) (flat_map ended ls) y))

ends-none : (a b : List (List ℕ)) → GoesOn a b [] [] → b ≡ a
ends-none a b on = on.whole ∙ ap (λ m. a ++ m) (no-more on.more [] on.left).0 ∙ append-nil a

lines-same : (a b : List (List ℕ)) → AllByRecursion HasNoLf a → AllByRecursion HasNoLf b → flat_map ended a ≡ flat_map ended b → a ≡ b
lines-same a b p q e =
    elim (lines-meet a b [] [] p q (append-nil (flat_map ended a) ∙ e ∙ sym (append-nil (flat_map ended b)))) [
      | inl on ↦ sym (ends-none a b on)
      | inr on ↦ ends-none b a on
    ]

-- ---- one trace

same-steps : (version : ℕ) (body : List (List ℕ)) (ss ts : List Step) → AllZip (IsStepLine version) body ss
    → AllZip (IsStepLine version) body ts → ss ≡ ts
same-steps version [] [] [] y z = refl
same-steps version [] [] (t ∷ ts) y z = absurd z
same-steps version [] (s ∷ ss) ts y z = absurd y
same-steps version (b ∷ bs) [] ts y z = absurd y
same-steps version (b ∷ bs) (s ∷ ss) [] y z = absurd z
same-steps version (b ∷ bs) (s ∷ ss) (t ∷ ts) y z =
    let one : Some s ≡ Some t = sym y.0 ∙ z.0 in let rest = same-steps version bs ss ts y.1 z.1 in cc

pub one-version : OneVersion
one-version text max max' steps steps' a b =
    let lines = lines-same a.lines b.lines a.no_lf b.no_lf (sym a.split ∙ b.split) in
    let whole = sym a.are.whole ∙ lines ∙ b.are.whole in
    let first : first_line a.version ≡ first_line b.version = cc (whole) in
    version-same a.version b.version a.are.known b.are.known first

pub spells-one : SpellsOne
spells-one text max max' steps steps' a b =
    let lines = lines-same a.lines b.lines a.no_lf b.no_lf (sym a.split ∙ b.split) in
    let A = a.are in let B = b.are in
    let whole = sym A.whole ∙ lines ∙ B.whole in
    let second : max_line max ≡ max_line max' = cc (whole) in
    let rest : A.body ++ end_line (length steps) ∷ [] ≡ B.body ++ end_line (length steps') ∷ [] = cc (whole) in
    let low = A.greatest in let low' = B.greatest in
    let bodies = (same_from_push A.body B.body (end_line (length steps)) (end_line (length steps')) rest).0 in (
      decimal-same (codes "max ") max max' (omega arith) (omega arith) second,
      same-steps b.version B.body steps steps'
          (subst (λ v. AllZip (IsStepLine v) B.body steps) (one-version text max max' steps steps' a b)
          (subst (λ ls. AllZip (IsStepLine a.version) ls steps) bodies A.each)) B.each,
    )

-- ---- one fault

begins-front : (before : List (List ℕ)) (line : List ℕ) (more : List (List ℕ)) → Begins (before ++ line ∷ more) → Begins
    (before ++ line ∷ [])
begins-front before line more b = record {
  version = b.version;
  max = b.max;
  steps = b.steps;
  more = more ++ b.more;
  are = subst (λ ls. AreLines ls b.version b.max b.steps) (simp append_assoc) b.are;
}

all-mid : (xs : List (List ℕ)) (x : List ℕ) (ys : List (List ℕ)) → AllByRecursion HasNoLf (xs ++ x ∷ ys) → HasNoLf x
all-mid [] x ys all = all.0
all-mid (z ∷ zs) x ys all = all-mid zs x ys all.1

-- no lines of a trace go on behind the line at fault
next-bad : (text : List ℕ) (line : ℕ) (bad : IsBad text line) (b : List (List ℕ)) (l : List ℕ) (ls : List (List ℕ)) (y : List ℕ)
    → b ≡ bad.before ++ l ∷ ls → bad.rest ≡ flat_map ended (l ∷ ls) ++ y → AllByRecursion HasNoLf b → Begins b → ⊥
next-bad text line bad b l ls y e f no_lf begins =
    bad.next_is_none l (flat_map ended ls ++ y) (all-mid bad.before l ls (subst (λ c. AllByRecursion HasNoLf c) e no_lf))
    (f ∙ append_assoc (ended l) (flat_map ended ls) y) (begins-front bad.before l ls (subst Begins e begins))

no-longer : (text : List ℕ) (line : ℕ) (bad : IsBad text line) (b more : List (List ℕ)) (y : List ℕ)
    → b ≡ bad.before ++ more → bad.rest ≡ flat_map ended more ++ y → AllByRecursion HasNoLf b → Begins b → b ≡ bad.before
no-longer text line bad b [] y e f no_lf begins = e ∙ append-nil bad.before
no-longer text line bad b (l ∷ ls) y e f no_lf begins = absurd (next-bad text line bad b l ls y e f no_lf begins)

pub one-fault : OneFault
one-fault text line line' a b =
    elim (lines-meet a.before b.before a.rest b.rest a.no_lf b.no_lf (sym a.split ∙ b.split)) [
      | inl on ↦ let same = ap length (no-longer text line a b.before on.more b.rest on.whole on.left b.no_lf b.begins) in omega
          (arith, a.counted, b.counted, same)
      | inr on ↦ let same = ap length (no-longer text line' b a.before on.more a.rest on.whole on.left a.no_lf a.begins) in omega
          (arith, a.counted, b.counted, same)
    ]

whole-bad : (text : List ℕ) (line version max : ℕ) (steps : List Step) (bad : IsBad text line) (lines more : List (List ℕ))
    → lines ≡ bad.before ++ more → bad.rest ≡ flat_map ended more ++ [] → AllByRecursion HasNoLf lines
    → AreLines lines version max steps → ⊥
whole-bad text line version max steps bad lines [] e f no_lf are = bad.not_whole version max steps f
    (subst (λ ls. AreLines ls version max steps) (e ∙ append-nil bad.before) are)
whole-bad text line version max steps bad lines (l ∷ ls) e f no_lf are =
    next-bad text line bad lines l ls [] e f no_lf
    (record {
      version = version;
      max = max;
      steps = steps;
      more = [];
      are = subst (λ c. AreLines c version max steps) (sym (append-nil lines)) are;
    })

pub no-fault-of-trace : NoFaultOfTrace
no-fault-of-trace text max line steps a bad =
    elim (lines-meet bad.before a.lines bad.rest [] bad.no_lf a.no_lf
    (sym bad.split ∙ a.split ∙ sym (append-nil (flat_map ended a.lines)))) [
      | inl on ↦ whole-bad text line a.version max steps bad a.lines on.more on.whole on.left a.no_lf a.are
      | inr on ↦
          let none = no-more on.more bad.rest on.left in
          let same : bad.before ≡ a.lines = on.whole ∙ ap (λ m. a.lines ++ m) none.0 ∙ append-nil a.lines in
          bad.not_whole a.version max steps none.1 (subst (λ ls. AreLines ls a.version max steps) (sym same) a.are)
    ]
