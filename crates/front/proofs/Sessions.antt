-- What the router remembers of connections, beside the world.
use Rattle.std.proofs.Common.{◌≡◌, ℕ, ◌==◌, cond, inl, inr, sym, ap, ◌∙◌, eqb-true}
use Rattle.std.proofs.lemmas.Bool.{cases_Bool, cond-true, cond-false}
use Rattle.sessions.specs.declared.session.Session.{Session}
use Rattle.sessions.specs.declared.session.Session.TheVariants.{Free}
use Rattle.front.specs.Connections.{ShowsSessions}
use Rattle.world.specs.Steps.{at, given}
use Rattle.world.specs.World.{Standing as Stand, Outcome, Closed, Idle}
use Rattle.world_laws.proofs.Values.{answered_open, idle_open}

module _ (kept : ℕ → Session) (standing : ℕ → Stand) (session : ℕ → Session) (shows : ShowsSessions kept standing session) where
  -- a connection stands and remembers otherwise, and isn't closed
  pub sessions_turn : (kept' : ℕ → Session) (c : ℕ) (x : Stand) (s : Session) → (x ≡ Closed → ⊥) →
      ((d : ℕ) → kept' d ≡ cond (d == c) s (kept d)) → ShowsSessions kept' (at standing c x) (at session c s)
  sessions_turn kept' c x s live turns = record {
    of_open = λ d lively. elim (cases_Bool (d == c)) [
      | inl e ↦ turns d ∙ cond-true (d == c) s (kept d) e ∙ sym (cond-true (d == c) s (session d) e)
      | inr e ↦ turns d ∙ cond-false (d == c) s (kept d) e
          ∙ shows.of_open d (λ is. lively (cond-false (d == c) x (standing d) e ∙ is)) ∙ sym (cond-false (d == c) s (session d) e)
    ];
    of_closed = λ d is. elim (cases_Bool (d == c)) [
      | inl e ↦ absurd (live (sym (cond-true (d == c) x (standing d) e) ∙ is))
      | inr e ↦ turns d ∙ cond-false (d == c) s (kept d) e ∙ shows.of_closed d (sym (cond-false (d == c) x (standing d) e) ∙ is)
    ];
  }

  -- a connection is closed, and what it remembered is dropped
  pub sessions_close : (kept' : ℕ → Session) (c : ℕ) → ((d : ℕ) → kept' d ≡ cond (d == c) Free (kept d)) →
      ShowsSessions kept' (at standing c Closed) session
  sessions_close kept' c turns = record {
    of_open = λ d lively. elim (cases_Bool (d == c)) [
      | inl e ↦ absurd (lively (cond-true (d == c) Closed (standing d) e))
      | inr e ↦ turns d ∙ cond-false (d == c) Free (kept d) e
          ∙ shows.of_open d (λ is. lively (cond-false (d == c) Closed (standing d) e ∙ is))
    ];
    of_closed = λ d is. elim (cases_Bool (d == c)) [
      | inl e ↦ turns d ∙ cond-true (d == c) Free (kept d) e
      | inr e ↦ turns d ∙ cond-false (d == c) Free (kept d) e ∙ shows.of_closed d (sym (cond-false (d == c) Closed (standing d) e) ∙ is)
    ];
  }

  -- a connection that was never opened is
  pub sessions_open : (c : ℕ) → standing c ≡ Closed → session c ≡ Free → ShowsSessions kept (at standing c Idle) session
  sessions_open c was none = record {
    of_open = λ d lively. elim (cases_Bool (d == c)) [
      | inl e ↦ ap kept (eqb-true d c e) ∙ shows.of_closed c was ∙ sym none ∙ ap session (sym (eqb-true d c e))
      | inr e ↦ shows.of_open d (λ is. lively (cond-false (d == c) Idle (standing d) e ∙ is))
    ];
    of_closed = λ d is. elim (cases_Bool (d == c)) [
      | inl e ↦ absurd (idle_open (sym (cond-true (d == c) Idle (standing d) e) ∙ is))
      | inr e ↦ shows.of_closed d (sym (cond-false (d == c) Idle (standing d) e) ∙ is)
    ];
  }

  -- a connection stands otherwise, and is closed where it was
  pub sessions_at : (c : ℕ) (x : Stand) → (standing c ≡ Closed → x ≡ Closed) → (x ≡ Closed → standing c ≡ Closed) →
      ShowsSessions kept (at standing c x) session
  sessions_at c x stays was = record {
    of_open = λ d lively. shows.of_open d (λ is. lively (elim (cases_Bool (d == c)) [
      | inl e ↦ cond-true (d == c) x (standing d) e ∙ stays (ap standing (sym (eqb-true d c e)) ∙ is)
      | inr e ↦ cond-false (d == c) x (standing d) e ∙ is
    ]));
    of_closed = λ d is. shows.of_closed d (elim (cases_Bool (d == c)) [
      | inl e ↦ ap standing (eqb-true d c e) ∙ was (sym (cond-true (d == c) x (standing d) e) ∙ is)
      | inr e ↦ sym (cond-false (d == c) x (standing d) e) ∙ is
    ]);
  }

-- ---- outcomes are settled

given_closed : (o : Outcome) (s : Stand) → given o s ≡ Closed → s ≡ Closed
given_closed o Closed e = e
given_closed o s e = absurd (answered_open o e)

pub sessions_given : (kept : ℕ → Session) (standing : ℕ → Stand) (session : ℕ → Session) (c : ℕ) (o : Outcome) →
    ShowsSessions kept standing session → ShowsSessions kept (at standing c (given o (standing c))) session
sessions_given kept standing session c o shows = sessions_at kept standing session shows c (given o (standing c))
    (λ e. ap (given o) e) (given_closed o (standing c))
