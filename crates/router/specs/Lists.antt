-- What a connection remembers of its requests, and the words of its list.
use Rattle.std.specs.Prelude.{ℕ, Bool, true, false, List, []}
use Rattle.sessions.specs.declared.member.Member.{Member}
use Rattle.sessions.specs.declared.session.Session.{Session}
use Rattle.sessions.specs.declared.session.Session.TheVariants.{Free, Listing, Spoilt}

-- what a connection remembers, and the words of its list's members
pub record ListView : Type 0 where
  pub session : Session
  pub words : List (List (List ℕ))

-- a list is open to which requests are added
abbrev pub is_listing : Session → Bool
is_listing Free = false
is_listing (Listing members) = true
is_listing Spoilt = false

-- a list is open, spoilt or not
abbrev pub is_open_list : Session → Bool
is_open_list Free = false
is_open_list (Listing members) = true
is_open_list Spoilt = true

-- the members that a list has
abbrev pub listed_members : Session → List Member
listed_members Free = []
listed_members (Listing members) = members
listed_members Spoilt = []
