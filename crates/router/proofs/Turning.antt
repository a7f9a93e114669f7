-- What two changes come to, one after another.
use Rattle.std.proofs.Common.{◌≡◌, ℕ, ◌==◌, Bool, true, false, cond, List, Option, Some, None, rules, refl, ap, sym, subst, ◌∙◌, inl, inr}
use Rattle.std.proofs.lemmas.Bool.{cases_Bool, eqb-true}
use Rattle.std.specs.BTreeMap.{is_at}
use Rattle.std.specs.Map.{lookup}
use Rattle.std.specs.Ordering.{nat_cmp}
use Rattle.groups.specs.declared.request.RequestId.{RequestId}
use Rattle.placement.specs.Layout.{Layout}
use Rattle.router.specs.Lists.{ListView, is_open_list}
use Rattle.router.specs.Router.{RouterView, connection, session_of, session_at, once_closed, Changes, Turns, Closes}
use Rattle.router.specs.Submitting.{TellsOf}
use Rattle.router.specs.declared.connection.Connection.{Connection}
use Rattle.router.specs.declared.connection.Standing.{Standing}
use Rattle.sessions.specs.Control.{control_in}
use Rattle.sessions.specs.Session.{asks}
use Rattle.sessions.specs.declared.session.Session.{Session}
use Rattle.sessions.specs.declared.session.Session.TheVariants.{Free}
use Rattle.router.proofs.Queuing.{is_free, plain_asked}

pub at-eqb : (c d : ℕ) → is_at (nat_cmp c) d ≡ (d == c)
at-eqb c d = search rules

-- what was written at a number
pub written : (old new : List (ℕ × Connection)) (c : ℕ) (w now : Connection)
    → ((d : ℕ) → lookup (is_at (nat_cmp d)) new ≡ cond (is_at (nat_cmp c) d) (Some w) (lookup (is_at (nat_cmp d)) old)) → w ≡ now
    → (d : ℕ) → lookup (is_at (nat_cmp d)) new ≡ cond (d == c) (Some now) (lookup (is_at (nat_cmp d)) old)
written old new c w now put same d =
    put d ∙ ap (λ b. cond b (Some w) (lookup (is_at (nat_cmp d)) old)) (at-eqb c d)
    ∙ ap (λ v. cond (d == c) (Some v) (lookup (is_at (nat_cmp d)) old)) same

-- first a connection remembers something else, and then it changes
pub turns_then : (old mid new : RouterView) (c : ℕ) (now : Option Connection) (s : Session) → mid.opened ≡ old.opened
    → mid.kept ≡ old.kept → ((d : ℕ) → session_at mid d ≡ cond (d == c) s (session_at old d)) → Changes mid new c now
    → Turns old new c now s
turns_then old mid new c now s opened kept sessions changes = record {
  opened = changes.opened ∙ opened;
  at = λ d. changes.at d ∙ ap (λ k. cond (d == c) now (lookup (is_at (nat_cmp d)) k)) kept;
  sessions = λ d. ap (λ f. f d) changes.sessions ∙ sessions d;
}

-- first it changes, and then it remembers something else
pub then_turns : (old mid new : RouterView) (c : ℕ) (now : Option Connection) (s : Session) → Changes old mid c now
    → new.opened ≡ mid.opened → new.kept ≡ mid.kept → ((d : ℕ) → session_at new d ≡ cond (d == c) s (session_at mid d))
    → Turns old new c now s
then_turns old mid new c now s changes opened kept sessions = record {
  opened = opened ∙ changes.opened;
  at = λ d. ap (λ k. lookup (is_at (nat_cmp d)) k) kept ∙ changes.at d;
  sessions = λ d. sessions d ∙ ap (λ f. cond (d == c) s (f d)) changes.sessions;
}

pub closed_then : (old mid new : RouterView) (c : ℕ)
    → ((v : Connection) × (connection old c ≡ Some v) × (v.is_open ≡ true) × Changes old mid c (once_closed v))
    → new.opened ≡ mid.opened → new.kept ≡ mid.kept → ((d : ℕ) → session_at new d ≡ cond (d == c) Free (session_at mid d))
    → Closes old c new
closed_then old mid new c shut opened kept sessions = record {
  was = shut.0;
  kept = shut.1;
  live = shut.2;
  changes = then_turns old mid new c (once_closed shut.0) Free shut.3 opened kept sessions;
}

-- what a connection remembers already
pub same_at : (f : ℕ → Session) (c : ℕ) (s : Session) → s ≡ f c → (d : ℕ) → f d ≡ cond (d == c) s (f d)
same_at f c s is d = elim (cases_Bool (d == c)) [
  | inl here ↦ let same : d ≡ c = eqb-true d c here in rw here (ap f same ∙ sym is)
  | inr other ↦ rw other refl
]

-- twice something else
pub twice_at : (f g h : ℕ → Session) (c : ℕ) (s t : Session) → ((d : ℕ) → g d ≡ cond (d == c) s (f d))
    → ((d : ℕ) → h d ≡ cond (d == c) t (g d)) → (d : ℕ) → h d ≡ cond (d == c) t (f d)
twice_at f g h c s t first second d = elim (cases_Bool (d == c)) [
  | inl here ↦ second d ∙ rw here refl
  | inr other ↦ second d ∙ rw other (first d ∙ rw other refl)
]

-- a command leaves what a connection remembers that has no open list
pub plain_leaves : (old : RouterView) (c : ℕ) (words : List (List ℕ)) → is_open_list (session_at old c) ≡ false → control_in words ≡ None
    → (d : ℕ) → session_at old d ≡ cond (d == c) (asks (session_at old c) words).0 (session_at old d)
plain_leaves old c words shut none d =
    let free = is_free (session_at old c) shut in
    same_at (session_at old) c (asks (session_at old c) words).0
    (ap (λ s. (asks s words).0) free ∙ ap (λ p. p.0) (plain_asked words none) ∙ sym free) d

pub told_free : (t : Layout) (id : RequestId) (session : Session) (words : List (List ℕ)) (told : Standing × List ℕ)
    → is_open_list session ≡ false → TellsOf t id (asks Free words).1 told → TellsOf t id (asks session words).1 told
told_free t id session words told shut tells = subst (λ s. TellsOf t id (asks s words).1 told) (sym (is_free session shut)) tells

session_of_either : (b : Bool) (w : ListView) (o : Option ListView) → session_of (cond b (Some w) o) ≡ cond b w.session (session_of o)
session_of_either true w o = refl
session_of_either false w o = refl

-- a list that was written at a number
pub listed_then : (old : RouterView) (lists : List (ℕ × ListView)) (c : ℕ) (w was : ListView) (words : List (List ℕ))
    → ((d : ℕ) → lookup (is_at (nat_cmp d)) lists ≡ cond (is_at (nat_cmp c) d) (Some w) (lookup (is_at (nat_cmp d)) old.lists))
    → lookup (is_at (nat_cmp c)) old.lists ≡ Some was → w.session ≡ (asks was.session words).0
    → (d : ℕ) → session_of (lookup (is_at (nat_cmp d)) lists) ≡ cond (d == c) (asks (session_at old c) words).0 (session_at old d)
listed_then old lists c w was words put there left d =
    ap session_of (put d) ∙ session_of_either (is_at (nat_cmp c) d) w (lookup (is_at (nat_cmp d)) old.lists)
    ∙ ap (λ b. cond b w.session (session_at old d)) (at-eqb c d)
    ∙ ap (λ s. cond (d == c) s (session_at old d)) (left ∙ ap (λ o. (asks (session_of o) words).0) (sym there))

-- and that is dropped where it isn't open any more
pub dropped_then : (f g h : ℕ → Session) (c : ℕ) (s : Session) → ((d : ℕ) → g d ≡ cond (d == c) s (f d)) → is_open_list s ≡ false
    → ((d : ℕ) → h d ≡ cond (d == c) Free (g d)) → (d : ℕ) → h d ≡ cond (d == c) s (f d)
dropped_then f g h c s first shut second d =
    twice_at f g h c s Free first second d ∙ ap (λ t. cond (d == c) t (f d)) (sym (is_free s shut))
