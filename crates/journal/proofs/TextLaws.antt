-- The parts of a trace's lines are read as they were written.
use Rattle.std.proofs.Common.{◌≡◌, ℕ, ◌+◌, ◌-◌, ◌*◌, ◌%◌, ◌^◌, ◌<◌, List, [], ◌∷◌, ◌++◌, length, take, drop, Bool, true, false, not}
use Rattle.std.proofs.Common.{MatchOption, ◌&&◌, refl, ap, sym, subst, ◌∙◌, arith, Option, Some, None, ltb, ◌==◌, inl, inr}
use Rattle.std.specs.Fmt.{decimal}
use Rattle.std.specs.Str.{bytes_eq}
use Rattle.std.proofs.lemmas.Fmt.{decimal_by_steps, decimal_injective}
use Rattle.std.proofs.lemmas.Grind.{fold-append}
use Rattle.std.proofs.lemmas.Bool.{lt-ltb, ltb-true, cases_Bool}
use Rattle.std.proofs.lemmas.List.{take-append-drop, take_at, append_cancel_left}
use Rattle.std.specs.Cmp.Lexicographic.{bytes_decides}
use Rattle.journal.specs.TraceText.{digits_worth, number_in, parts_in, cut_at, args_in}

worth_push : (ds : List ℕ) (d : ℕ) → digits_worth (ds ++ d ∷ []) ≡ digits_worth ds * 10 + (d - 48)
worth_push ds d = fold-append (λ n digit. n * 10 + (digit - 48)) 0 ds (d ∷ [])

worth-decimal : (n : ℕ) → n < 2 ^ 64 → digits_worth (decimal n) ≡ n
worth-decimal n h =
    decimal_by_steps (λ m ds. digits_worth ds ≡ m)
    (λ m low. omega arith)
    (λ m ds high e. worth_push ds (48 + m % 10) ∙ ap (λ w. w * 10 + (48 + m % 10 - 48)) e ∙ omega arith)
    n h

same_bytes : (xs ys : List ℕ) → xs ≡ ys → bytes_eq xs ys ≡ true
same_bytes xs ys e = (bytes_decides xs ys).1 e

pub number_in-decimal : (n : ℕ) (text : List ℕ) → n < 2 ^ 64 → decimal n ≡ text → number_in text ≡ Some n
unfolding number_in
number_in-decimal n text h e =
    let worth : digits_worth text ≡ n = ap digits_worth (sym e) ∙ worth-decimal n h in
    rw (worth, lt-ltb n (2 ^ 64) h, same_bytes (decimal n) text e) refl

-- ---- the parts of a line

pub parts_in-cut : (line : List ℕ) → parts_in line ≡ ((cut_at 32 line).0, args_in (cut_at 32 line).1)
unfolding cut_at
parts_in-cut [] = refl
parts_in-cut (b ∷ bs) = elim (cases_Bool (b == 32)) [
  | inl here ↦ rw here refl
  | inr on ↦ rw (on, parts_in-cut bs) refl
]

-- ---- a name and a number behind it

and-parts : (a b : Bool) → (a && b) ≡ true → (a ≡ true) × (b ≡ true)
and-parts true b e = (refl, e)
and-parts false b e = cc

pub number_in-some : (text : List ℕ) (n : ℕ) → number_in text ≡ Some n → (text ≡ decimal n) × (n < 2 ^ 64)
unfolding number_in
number_in-some text n e =
    let worth = digits_worth text in
    elim (cases_Bool (ltb worth (2 ^ 64) && bytes_eq (decimal worth) text)) [
      | inl fits ↦
          let both = and-parts (ltb worth (2 ^ 64)) (bytes_eq (decimal worth) text) fits in
          let same : Some worth ≡ Some n = rw fits at e in
          let is : worth ≡ n = cc in
          (sym ((bytes_decides (decimal worth) text).0 both.1) ∙ ap decimal is, subst (λ m. m < 2 ^ 64) is (ltb-true worth (2 ^ 64) both.0))
      | inr no_fit ↦ let gone = rw no_fit at e in cc
    ]

pub number_in-none : (text : List ℕ) (n : ℕ) → number_in text ≡ None → n < 2 ^ 64 → text ≡ decimal n → ⊥
number_in-none text n e h is = let some = number_in-decimal n text h (sym is) in cc

pub behind-name : (line name rest : List ℕ) → bytes_eq (take (length name) line) name ≡ true → rest ≡ drop (length name) line
    → line ≡ name ++ rest
behind-name line name rest same behind =
    sym (take-append-drop (length name) line) ∙ ap (λ f. f ++ drop (length name) line)
    ((bytes_decides (take (length name) line) name).0 same) ∙ ap (λ r. name ++ r) (sym behind)

pub no-name : (line name rest : List ℕ) → bytes_eq (take (length name) line) name ≡ false → line ≡ name ++ rest → ⊥
no-name line name rest other is =
    let same = same_bytes (take (length name) line) name (ap (take (length name)) is ∙ take_at name rest (length name) refl) in cc

pub decimal-same : (name : List ℕ) (m n : ℕ) → m < 2 ^ 64 → n < 2 ^ 64 → name ++ decimal m ≡ name ++ decimal n → m ≡ n
decimal-same name m n h k e = decimal_injective m n h k (append_cancel_left name (decimal m) (decimal n) e)

pub cut_name-none : (line name : List ℕ) (n : ℕ) (rest : List ℕ) → line ≡ name ++ rest → number_in rest ≡ None → n < 2 ^ 64
    → line ≡ name ++ decimal n → ⊥
cut_name-none line name n rest is none h e = number_in-none rest n none h (append_cancel_left name rest (decimal n) (sym is ∙ e))

pub named-number : (line name rest : List ℕ) (o : Option ℕ) → line ≡ name ++ rest → o ≡ number_in rest
    → MatchOption o ((n : ℕ) → n < 2 ^ 64 → line ≡ name ++ decimal n → ⊥) (λ n. line ≡ name ++ decimal n)
named-number line name rest None is e = λ n h l. cut_name-none line name n rest is (sym e) h l
named-number line name rest (Some n) is e = is ∙ ap (λ r. name ++ r) (number_in-some rest n (sym e)).0

-- ---- what a test of two lines says

not-false : (b : Bool) → not b ≡ false → b ≡ true
not-false true e = refl
not-false false e = cc

not-true : (b : Bool) → not b ≡ true → b ≡ false
not-true true e = cc
not-true false e = refl

pub same-from_ne : (a b : List ℕ) (t : Bool) → t ≡ not (bytes_eq a b) → t ≡ false → a ≡ b
same-from_ne a b t is off = (bytes_decides a b).0 (not-false (bytes_eq a b) (sym is ∙ off))

pub other-from_ne : (a b : List ℕ) (t : Bool) → t ≡ not (bytes_eq a b) → t ≡ true → a ≡ b → ⊥
other-from_ne a b t is on same = let e = same_bytes a b same in let f = not-true (bytes_eq a b) (sym is ∙ on) in cc
