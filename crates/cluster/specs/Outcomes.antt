-- Where what a connection collects comes from.
use Rattle.std.specs.Prelude.{◌≡◌, ℕ, ◌<◌, List, ◌⊎◌, Option, Some, None}
use Rattle.placement.specs.Layout.{Layout}
use Rattle.groups.specs.Order.{In}
use Rattle.groups.specs.declared.stamp.Stamp.{Stamp}
use Rattle.sessions.specs.declared.session.Session.{Session}
use Rattle.world.specs.Steps.{outcome_of}
use Rattle.world.specs.World.{World, Outcome, Ended}
use Rattle.world_laws.specs.Collecting.{IsRepliedAtOnce}

-- it is what came of a request that has ended in the world: its reply, or that it starved
abbrev pub IsOfEnded : World → Outcome → Type 0
IsOfEnded w o = (e : Ended) × In e w.ended × (o ≡ outcome_of e)

-- by what the connection remembers the words are answered, or say a task that addresses no group, and this is their reply
pub record IsAtOnce (t : Layout) (session : Session) (words : List (List ℕ)) (o : Outcome) : Type 0 where
  pub stamp : o.stamp ≡ None
  pub reply : IsRepliedAtOnce t o.reply session words

-- where the outcome of these words comes from, which met this session
abbrev pub ComesFrom : Layout → World → Session → List (List ℕ) → Outcome → Type 0
ComesFrom t w session words o = IsOfEnded w o ⊎ IsAtOnce t session words o

-- ---- floors

-- a stamp's clock is above the floor
abbrev pub IsAbove : Option Stamp → ℕ → Type 0
IsAbove None floor = Unit {0}
IsAbove (Some stamp) floor = floor < stamp.clock

-- the floor, raised to the clock of a stamp
abbrev pub raised : Option Stamp → ℕ → ℕ
raised None floor = floor
raised (Some stamp) floor = stamp.clock
