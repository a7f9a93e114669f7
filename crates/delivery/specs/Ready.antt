-- Which delivered requests are ready or lined up, and what a layer takes from the queues. `queue g` is what the group g
-- has delivered and no layer has taken yet, oldest first.
use Rattle.std.specs.Prelude.{◌≡◌, ℕ, true, cond, List, [], ◌∷◌, ◌++◌, ◌⊎◌}
use Rattle.groups.specs.GroupSet.{has}
use Rattle.groups.specs.Order.{In}
use Rattle.skeen_core.specs.Group.{Ascending, has_id}
use Rattle.skeen_core.specs.declared.packet.Delivered.{Delivered}

abbrev pub QueueOf : Type 0
QueueOf = ℕ → List Delivered

-- it is at the head of each of its queues, and it has one
pub record IsReady (queue : QueueOf) (d : Delivered) : Type 0 where
  pub somewhere : (g : ℕ) × (has d.groups g ≡ true)
  pub heads : (g : ℕ) → has d.groups g ≡ true → (rest : List Delivered) × (queue g ≡ d ∷ rest)

-- it addresses one group alone, and so does each that stands before it in that group's queue
pub record IsLinedUp (queue : QueueOf) (d : Delivered) : Type 0 where
  pub group : ℕ
  pub alone : d.groups ≡ group ∷ []
  pub front : List Delivered
  pub rest : List Delivered
  pub stands : queue group ≡ front ++ d ∷ rest
  pub before : (e : Delivered) → In e front → e.groups ≡ group ∷ []

-- these are the requests that are ready, all of them, ascending by stamp, and no others
pub record AreReady (queue : QueueOf) (ds : List Delivered) : Type 0 where
  pub ascending : Ascending ds
  pub only : (d : Delivered) → In d ds → IsReady queue d
  pub all : (d : Delivered) → IsReady queue d → In d ds

-- a layer: all requests that are ready or lined up, ascending by stamp, and no others
pub record IsLayer (queue : QueueOf) (layer : List Delivered) : Type 0 where
  pub ascending : Ascending layer
  pub only : (d : Delivered) → In d layer → IsReady queue d ⊎ IsLinedUp queue d
  pub all : (d : Delivered) → IsReady queue d ⊎ IsLinedUp queue d → In d layer

-- what the layer takes from a queue: the longest beginning whose requests are all in the layer
abbrev pub taken_from : List Delivered → List Delivered → List Delivered
taken_from layer [] = []
taken_from layer (d ∷ ds) = cond (has_id layer d.id) (d ∷ taken_from layer ds) []

-- and what it leaves
abbrev pub left_in : List Delivered → List Delivered → List Delivered
left_in layer [] = []
left_in layer (d ∷ ds) = cond (has_id layer d.id) (left_in layer ds) (d ∷ ds)
