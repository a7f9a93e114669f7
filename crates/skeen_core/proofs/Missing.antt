-- How many proposals are missing, and the final stamp.
use Rattle.std.proofs.Common.{◌≡◌, ℕ, suc, ◌+◌, ◌≤◌, ◌==◌, true, false, cond, List, [], ◌∷◌, Option, Some, None, refl, ap, ◌∙◌}
use Rattle.std.proofs.Common.{◌⊎◌, ◌||◌, inl, inr, arith, length, eqb-true, eq-eqb}
use Rattle.std.proofs.lemmas.Bool.{both_ways, cases_Bool}
use Rattle.std.specs.Option.{is_none}
use Rattle.groups.specs.GroupSet.{has, IsAscending}
use Rattle.groups.specs.Stamp.{later, later_of, final}
use Rattle.groups.specs.declared.stamp.Stamp.{Stamp}
use Rattle.skeen_core.specs.Heard.{with_heard, missing}
use Rattle.skeen_core.specs.declared.heard.Heard.{Heard}

pub missing_few : (f : ℕ → Option ℕ) (gs : List ℕ) → missing f gs ≤ length gs
missing_few f [] = omega arith
missing_few f (g ∷ gs) =
    let rest = missing_few f gs in
    elim (f g) as (λ o. cond {A = ℕ} (is_none o) (suc (missing f gs)) (missing f gs) ≤ suc (length gs)) [
      | None ↦ omega arith
      | Some n ↦ omega arith
    ]

-- all have proposed just where the final stamp is known
pub all_heard : (f : ℕ → Option ℕ) (gs : List ℕ) → missing f gs ≡ 0 → (s : Stamp) × (final f gs ≡ Some s)
all_heard f [] none = (_, refl)
all_heard f (g ∷ gs) none =
    elim (f g) as (λ o. f g ≡ o → cond {A = ℕ} (is_none o) (suc (missing f gs)) (missing f gs) ≡ 0
    → (s : Stamp) × (final f (g ∷ gs) ≡ Some s)) [
      | None ↦ λ e h. absurd (omega arith)
      | Some n ↦ λ e h. let rest = all_heard f gs h in (
        later (record { clock = n; group = g }) rest.0,
        ap (λ o. later_of g o (final f gs)) e ∙ ap (later_of g (Some n)) rest.1,
      )
    ] refl none

pub some_missing : (f : ℕ → Option ℕ) (gs : List ℕ) → (missing f gs ≡ 0 → ⊥) → final f gs ≡ None
some_missing f [] some = absurd (some refl)
some_missing f (g ∷ gs) some =
    elim (f g) as (λ o. f g ≡ o → (cond {A = ℕ} (is_none o) (suc (missing f gs)) (missing f gs) ≡ 0 → ⊥) → final f (g ∷ gs) ≡ None) [
      | None ↦ λ e h. ap (λ o. later_of g o (final f gs)) e
      | Some n ↦ λ e h. ap (λ o. later_of g o (final f gs)) e ∙ ap (later_of g (Some n)) (some_missing f gs h)
    ] refl some

zero_or : (n : ℕ) → (n ≡ 0) ⊎ (n ≡ 0 → ⊥)
zero_or n = elim (cases_Bool (n == 0)) [
  | inl e ↦ inl (eqb-true n 0 e)
  | inr e ↦ inr (λ z. both_ways _ e (eq-eqb n 0 z))
]

pub none_missing : (f : ℕ → Option ℕ) (gs : List ℕ) (s : Stamp) → final f gs ≡ Some s → missing f gs ≡ 0
none_missing f gs s e = elim (zero_or (missing f gs)) [
  | inl z ↦ z
  | inr more ↦ let none = some_missing f gs more in absurd (cc)
]

pub open_missing : (f : ℕ → Option ℕ) (gs : List ℕ) → final f gs ≡ None → missing f gs ≡ 0 → ⊥
open_missing f gs none e = let it = all_heard f gs e in let some = it.1 in absurd (cc)

-- ---- one proposal more

-- of a group that isn't among them
pub untouched : (p : Heard) (f : ℕ → Option ℕ) (gs : List ℕ) → has gs p.from ≡ false
    → (missing (with_heard p f) gs ≡ missing f gs) × (final (with_heard p f) gs ≡ final f gs)
untouched p f [] out = (refl, refl)
untouched p f (g ∷ gs) out = elim (g == p.from) as (λ b. (g == p.from) ≡ b → (b || has gs p.from) ≡ false
    → (missing (with_heard p f) (g ∷ gs) ≡ missing f (g ∷ gs)) × (final (with_heard p f) (g ∷ gs) ≡ final f (g ∷ gs))) [
      | true ↦ λ e h. absurd (both_ways _ h refl)
      | false ↦ λ e h.
          let rest = untouched p f gs h in
          let same : with_heard p f g ≡ f g = ap (λ b. cond b (Some p.clock) (f g)) e in (
            ap (λ o. cond {A = ℕ} (is_none o) (suc (missing (with_heard p f) gs)) (missing (with_heard p f) gs)) same
                ∙ ap (λ m. cond {A = ℕ} (is_none (f g)) (suc m) m) rest.0,
            ap (λ o. later_of g o (final (with_heard p f) gs)) same ∙ ap (later_of g (f g)) rest.1,
          )
    ] refl out

-- of one that was missing
pub one_less : (p : Heard) (f : ℕ → Option ℕ) (gs : List ℕ) → IsAscending gs → has gs p.from ≡ true → f p.from ≡ None
    → missing (with_heard p f) gs + 1 ≡ missing f gs
one_less p f [] up there none = absurd (both_ways _ refl there)
one_less p f (g ∷ gs) up there none = elim (g == p.from) as (λ b. (g == p.from) ≡ b → (b || has gs p.from) ≡ true
    → missing (with_heard p f) (g ∷ gs) + 1 ≡ missing f (g ∷ gs)) [
      | true ↦ λ e h.
          let same = eqb-true g p.from e in
          let out : has gs p.from ≡ false = elim (cases_Bool (has gs p.from)) [
            | inl k ↦ let less = up.0 p.from k in absurd (omega arith)
            | inr k ↦ k
          ] in
          let rest = (untouched p f gs out).0 in
          let now : missing (with_heard p f) (g ∷ gs) ≡ missing (with_heard p f) gs =
          ap (λ b. cond {A = ℕ} (is_none (cond b (Some p.clock) (f g))) (suc (missing (with_heard p f) gs))
          (missing (with_heard p f) gs)) e in
          let before : missing f (g ∷ gs) ≡ suc (missing f gs) =
          ap (λ o. cond {A = ℕ} (is_none o) (suc (missing f gs)) (missing f gs)) (ap f same ∙ none) in
          omega arith
      | false ↦ λ e h.
          let rest = one_less p f gs up.1 h none in
          let same : with_heard p f g ≡ f g = ap (λ b. cond b (Some p.clock) (f g)) e in
          ap (λ o. cond {A = ℕ} (is_none o) (suc (missing (with_heard p f) gs)) (missing (with_heard p f) gs) + 1) same
          ∙ elim (f g) as (λ o. cond {A = ℕ} (is_none o) (suc (missing (with_heard p f) gs)) (missing (with_heard p f) gs) + 1
          ≡ cond {A = ℕ} (is_none o) (suc (missing f gs)) (missing f gs)) [
            | None ↦ omega arith
            | Some n ↦ rest
          ]
    ] refl there
