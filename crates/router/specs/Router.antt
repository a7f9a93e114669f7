-- The connections that the router keeps, by their numbers.
use Rattle.std.specs.Prelude.{◌≡◌, ℕ, ◌==◌, Bool, true, false, List, Option, Some, None, cond, MatchOption}
use Rattle.sessions.specs.declared.session.Session.{Session}
use Rattle.sessions.specs.declared.session.Session.TheVariants.{Free}
use Rattle.std.specs.BTreeMap.{is_at}
use Rattle.std.specs.Map.{lookup}
use Rattle.std.specs.Ordering.{nat_cmp}
use Rattle.router.specs.Connection.{outcome_in, is_under_way, with_standing, closed, settled_with}
use Rattle.router.specs.declared.connection.Standing.{Standing}
use Rattle.router.specs.declared.connection.Standing.TheVariants.{Idle, Waiting}
use Rattle.router.specs.declared.connection.Connection.{Connection}
use Rattle.router.specs.Lists.{ListView}
use Rattle.router.specs.declared.outcome.Outcome.{Outcome}
use Rattle.worded.specs.declared.worded.Worded.{Worded}

-- how many connections were opened; those that are kept: each that is open, and each closed one whose request is under way;
-- and the lists that are open, by which each remembers its requests
pub record RouterView : Type 0 where
  pub opened : ℕ
  pub kept : List (ℕ × Connection)
  pub lists : List (ℕ × ListView)

-- what a connection remembers, by its list, if one is open
abbrev pub session_of : Option ListView → Session
session_of None = Free
session_of (Some listed) = listed.session

-- by the lists that are open
abbrev pub session_at : RouterView → ℕ → Session
session_at r c = session_of (lookup (is_at (nat_cmp c)) r.lists)

-- the connection of a number, if it is kept
abbrev pub connection : RouterView → ℕ → Option Connection
connection r c = lookup (is_at (nat_cmp c)) r.kept

-- connection c is now so, or isn't kept, and all others are as they were; each remembers what it did
pub record Changes (old new : RouterView) (c : ℕ) (now : Option Connection) : Type 0 where
  pub opened : new.opened ≡ old.opened
  pub at : (d : ℕ) → connection new d ≡ cond (d == c) now (connection old d)
  pub sessions : session_at new ≡ session_at old

-- connection c is now so, or isn't kept, and remembers this; all others are as they were, and remember what they did
pub record Turns (old new : RouterView) (c : ℕ) (now : Option Connection) (remembers : Session) : Type 0 where
  pub opened : new.opened ≡ old.opened
  pub at : (d : ℕ) → connection new d ≡ cond (d == c) now (connection old d)
  pub sessions : (d : ℕ) → session_at new d ≡ cond (d == c) remembers (session_at old d)

-- whether a connection is there and open
abbrev pub is_open : Option Connection → Bool
is_open None = false
is_open (Some v) = v.is_open

abbrev pub outcome_at : Option Connection → Option Outcome
outcome_at None = None
outcome_at (Some v) = outcome_in v.standing

-- the outcome that waits for a connection
abbrev pub waiting : RouterView → ℕ → Option Outcome
waiting r c = outcome_at (connection r c)

-- what the request asks that waits to be taken, if it is this one
abbrev pub pending_in : Standing → Bool → Option Worded
pending_in (Waiting asked) this = cond this (Some asked) None
pending_in standing this = None

abbrev pub pending_at : Option Connection → ℕ → Option Worded
pending_at None seq = None
pending_at (Some v) seq = pending_in v.standing (v.seq == seq)

-- a connection that is closed is kept as long as its request is under way
abbrev pub once_closed : Connection → Option Connection
once_closed v = cond (is_under_way v.standing) (Some (closed v)) None

-- an outcome goes to the connection if it is open; else it is dropped, and the connection with it
abbrev pub once_settled : Connection → ℕ → Outcome → Option Connection
once_settled v clock outcome = cond v.is_open (Some (settled_with v clock outcome)) None

-- ---- what the calls do

-- the outcome that waits for the connection is handed out, if one does, and then the connection is idle; else nothing
-- changes
pub record Collects (old : RouterView) (c : ℕ) (outcome : Option Outcome) (new : RouterView) : Type 0 where
  pub was : Connection
  pub kept : connection old c ≡ Some was
  pub live : was.is_open ≡ true
  pub given : outcome ≡ outcome_in was.standing
  pub after : MatchOption (outcome_in was.standing) (new ≡ old) (λ outcome. Changes old new c (Some (with_standing was Idle)))

-- the connection is closed, and remembers nothing any more
pub record Closes (old : RouterView) (c : ℕ) (new : RouterView) : Type 0 where
  pub was : Connection
  pub kept : connection old c ≡ Some was
  pub live : was.is_open ≡ true
  pub changes : Turns old new c (once_closed was) Free
