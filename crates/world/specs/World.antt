-- What a history of steps gives: connections, packets under way, groups, queues, a layer, and one map. It knows no
-- worker, no part of a layer, and no shard's own map.
use Rattle.std.specs.Prelude.{ℕ, List, Option}
use Rattle.keyspace.specs.Map.{Map}
use Rattle.resp.specs.Content.{Content}
use Rattle.skeen_core.specs.Group.{GroupState}
use Rattle.skeen_core.specs.declared.packet.Delivered.{Delivered}
use Rattle.skeen_core.specs.declared.packet.Packet.{Packet}
use Rattle.groups.specs.declared.request.RequestId.{RequestId}
use Rattle.groups.specs.declared.stamp.Stamp.{Stamp}
use Rattle.sessions.specs.declared.session.Session.{Session}
use Rattle.tasks.specs.Tasks.{Task}

-- a request that addresses groups: each proposal for it stands above the floor
pub record Request : Type 0 where
  pub floor : ℕ
  pub groups : List ℕ
  pub task : Task

-- what a connection collects: the reply to a request, and the request's final stamp where it addressed groups
pub record Outcome : Type 0 where
  pub id : RequestId
  pub reply : Content
  pub stamp : Option Stamp

-- where a connection stands. Closed is also one that was never opened
pub data Standing : Type 0 where
  Closed : Standing
  Idle : Standing
  Waiting : Standing
  Answered : Outcome → Standing

-- a request of a layer that was run: it was executed, and its reply tells which of its members starved; or it starved as a whole,
-- and has none
pub record Ended : Type 0 where
  pub id : RequestId
  pub stamp : Stamp
  pub groups : List ℕ
  pub task : Task
  pub reply : Option Content

-- the layer: none is there; taken and not yet run; run and not yet settled
pub data Layer : Type 0 where
  NoneTaken : Layer
  Taken : List Delivered → Layer
  HasRun : List Ended → Layer

-- the clock that each group has proposed for each request
abbrev pub Proposals : Type 0
Proposals = RequestId → ℕ → Option ℕ

pub record World : Type 0 where
  pub opened : ℕ  -- how many connections were opened: they are numbered from 1
  pub standing : ℕ → Standing  -- where each connection stands
  pub seq : ℕ → ℕ  -- how many requests it has submitted
  pub session : ℕ → Session  -- what it remembers of them: the list that it has open, if it has one
  pub last : ℕ → Option RequestId  -- the last of them that addressed groups
  pub asked : RequestId → Option Request  -- each request that addressed groups
  pub packets : List Packet  -- under way, in order of sending
  pub group : ℕ → GroupState
  pub proposed : Proposals  -- each proposal that was ever made
  pub gone : ℕ → List Delivered  -- what each group has delivered and a layer has taken, oldest first
  pub queue : ℕ → List Delivered  -- what it has delivered and no layer has taken, oldest first
  pub layer : Layer
  pub ended : List Ended  -- what was run, in the order of running
  pub contents : Map  -- what the executed requests, one after another in that order, made of the empty map
