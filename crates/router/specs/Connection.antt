-- How a connection stands, apart from how its reply lies in memory.
use Rattle.std.specs.Prelude.{ℕ, Bool, true, false, Option, Some, None}
use Rattle.resp.specs.Content.{Content, content}
use Rattle.router.specs.declared.connection.Connection.{Connection}
use Rattle.router.specs.declared.connection.Standing.{Standing}
use Rattle.router.specs.declared.connection.Standing.TheVariants.{Idle, Waiting, Taken, Answered}
use Rattle.router.specs.declared.outcome.Outcome.{Outcome}
use Rattle.groups.specs.declared.request.RequestId.{RequestId}
use Rattle.groups.specs.declared.stamp.Stamp.{Stamp}

-- what became of a request: what it is answered, and its final stamp if it addressed a group
pub record Answer : Type 0 where
  pub id : RequestId
  pub reply : Content
  pub stamp : Option Stamp

abbrev pub answer_of : Outcome → Answer
answer_of o = record { id = o.id; reply = content o.reply; stamp = o.stamp }

-- a connection that was just opened
abbrev pub just_opened : Connection
just_opened = record { is_open = true; seq = 0; floor = 0; standing = Idle }

-- the connection with this standing
abbrev pub with_standing : Connection → Standing → Connection
with_standing v s = record { is_open = v.is_open; seq = v.seq; floor = v.floor; standing = s }

-- the connection once its outcome, which has that stamp's clock, was settled
abbrev pub settled_with : Connection → ℕ → Outcome → Connection
settled_with v clock o = record { is_open = v.is_open; seq = v.seq; floor = clock; standing = Answered o }

-- the connection, closed
abbrev pub closed : Connection → Connection
closed v = record { is_open = false; seq = v.seq; floor = v.floor; standing = v.standing }

-- a closed connection is kept as long as its request is under way
abbrev pub is_under_way : Standing → Bool
is_under_way Idle = false
is_under_way (Waiting asked) = true
is_under_way Taken = true
is_under_way (Answered outcome) = false

-- the outcome that waits to be collected
abbrev pub outcome_in : Standing → Option Outcome
outcome_in (Answered outcome) = Some outcome
outcome_in standing = None
