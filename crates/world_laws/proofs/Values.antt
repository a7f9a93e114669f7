-- Values by their parts: what two constructors or two records have in common.
use Rattle.std.proofs.Common.{◌≡◌, ℕ, ◌==◌, inl, inr, refl, sym, ap, ◌∙◌, eqb-true, eq-eqb, Some}
use Rattle.std.proofs.lemmas.Bool.{cases_Bool, cond-true, cond-false}
use Rattle.groups.specs.declared.request.RequestId.{RequestId}
use Rattle.world.specs.Steps.{at, Collected}
use Rattle.world.specs.World.{Outcome, Standing, Closed, Idle, Waiting, Answered}

-- a request is known by its connection and its number
pub same_request : (i j : RequestId) → i.conn.0 ≡ j.conn.0 → i.seq ≡ j.seq → i ≡ j
same_request i j conns seqs = λ k. record { conn = record { 0 = conns k }; seq = seqs k }

pub at_here : {X : Type 0} (f : ℕ → X) (c : ℕ) (x : X) → at f c x c ≡ x
at_here f c x = cond-true (c == c) x (f c) (eq-eqb c c refl)

-- the function with a value that it has there is the function
pub at_same : {X : Type 0} (f : ℕ → X) (c : ℕ) (x : X) → x ≡ f c → at f c x ≡ f
at_same f c x same = λ i d. everywhere d i
  where
    everywhere : (d : ℕ) → at f c x d ≡ f d
    everywhere d = elim (cases_Bool (d == c)) [
      | inl here ↦ cond-true (d == c) x (f d) here ∙ same ∙ ap f (sym (eqb-true d c here))
      | inr other ↦ cond-false (d == c) x (f d) other
    ]

-- ---- standings

pub idle_open : Idle ≡ Closed → ⊥
idle_open e = cc

pub idle_not_waiting : Idle ≡ Waiting → ⊥
idle_not_waiting e = cc

pub answered_open : (o : Outcome) → Answered o ≡ Closed → ⊥
answered_open o e = cc

pub answered_not_waiting : (o : Outcome) → Answered o ≡ Waiting → ⊥
answered_not_waiting o e = cc

pub idle_not_answered : (o : Outcome) → Idle ≡ Answered o → ⊥
idle_not_answered o e = cc

pub waiting_not_answered : (o : Outcome) → Waiting ≡ Answered o → ⊥
waiting_not_answered o e = cc

pub closed_not_answered : (o : Outcome) → Closed ≡ Answered o → ⊥
closed_not_answered o e = cc

pub closed_not_waiting : (s : Standing) → s ≡ Closed → s ≡ Waiting → ⊥
closed_not_waiting s e d = absurd (cc)

pub same_outcome : (o p : Outcome) → Answered o ≡ Answered p → o ≡ p
same_outcome o p e = cc

pub same_collected : (o p : Outcome) → Collected (Some o) ≡ Collected (Some p) → o ≡ p
same_collected o p e = cc
