-- How many of its queues each request heads: one that heads all of them is ready, and of one that heads some and not all
-- the number is kept.
use Rattle.std.specs.Prelude.{◌≡◌, ◌≢◌, ℕ, suc, ◌+◌, ◌<◌, ◌≤◌, ◌==◌, Bool, false, cond, List, [], ◌∷◌, ◌++◌, length, Option, Some, None}
use Rattle.std.specs.List.{insert}
use Rattle.groups.specs.GroupSet.{has}
use Rattle.groups.specs.Order.{In}
use Rattle.groups.specs.Request.{same_id}
use Rattle.groups.specs.Stamp.{stamp_lt}
use Rattle.groups.specs.declared.stamp.Stamp.{Stamp}
use Rattle.groups.specs.declared.request.RequestId.{RequestId}
use Rattle.skeen_core.specs.declared.packet.Delivered.{Delivered}
use Rattle.delivery.specs.declared.heads.Heading.{Heading}
use Rattle.delivery.specs.Ready.{QueueOf, AreReady}
use Rattle.delivery.specs.Queues.{queue_of, IsSound}

abbrev pub head_of : List Delivered → Option Delivered
head_of [] = None
head_of (d ∷ ds) = Some d

abbrev pub is_named : Option Delivered → RequestId → Bool
is_named None i = false
is_named (Some d) i = same_id d.id i

-- how many of these groups have the request of that id at the head of their queues
abbrev pub headed_among : QueueOf → RequestId → List ℕ → ℕ
headed_among queue i [] = 0
headed_among queue i (g ∷ gs) = cond (is_named (head_of (queue g)) i) (suc (headed_among queue i gs)) (headed_among queue i gs)

-- how many of its queues the request heads
abbrev pub headed : QueueOf → Delivered → ℕ
headed queue d = headed_among queue d.id d.groups

-- it heads some of its queues and not all
pub record IsPartly (queue : QueueOf) (d : Delivered) : Type 0 where
  pub somewhere : (g : ℕ) × (rest : List Delivered) × (queue g ≡ d ∷ rest)
  pub not_all : headed queue d < length d.groups

-- no two have the same id
abbrev pub AreApart : {X : Type 0} → (X → RequestId) → List X → Type 0
AreApart id [] = Unit {0}
AreApart id (x ∷ xs) = ((y : _) → In y xs → id y ≢ id x) × AreApart id xs

abbrev pub heading_of : QueueOf → Delivered → Heading
heading_of queue d = record { id = d.id; count = headed queue d }

-- each request that heads some of its queues and not all is here, once, with their number, and no other is
pub record ArePartly (queue : QueueOf) (hs : List Heading) : Type 0 where
  pub once : AreApart (λ (h : Heading). h.id) hs
  pub only : (h : Heading) → In h hs → (d : Delivered) × IsPartly queue d × (h ≡ heading_of queue d)
  pub all : (d : Delivered) → IsPartly queue d → In (heading_of queue d) hs

-- both lists are those of these queues
pub record AreCounted (queue : QueueOf) (ds : List Delivered) (hs : List Heading) : Type 0 where
  pub ready : AreReady queue ds
  pub partly : ArePartly queue hs

-- what every state of the queues is like: there are at most 64, what stands in them is sound, both lists are theirs, and
-- each list has room for as many requests as there are queues
pub record AreKept (queues : List (List Delivered)) (ds : List Delivered) (hs : List Heading)
    (ready_capacity partly_capacity : ℕ) : Type 0 where
  pub few : length queues ≤ 64
  pub sound : IsSound (queue_of queues)
  pub counted : AreCounted (queue_of queues) ds hs
  pub ready_room : length queues ≤ ready_capacity
  pub partly_room : length queues ≤ partly_capacity

-- the queues, those of these groups being seen as empty
abbrev pub but : List ℕ → QueueOf → QueueOf
but groups queue g = cond (has groups g) [] (queue g)

-- ---- the two lists as they are kept

-- how many stand before the first whose stamp is above this one
abbrev pub count_before : Stamp → List Delivered → ℕ
count_before s [] = 0
count_before s (d ∷ ds) = cond (stamp_lt s d.stamp) 0 (suc (count_before s ds))

-- the request put in its place
abbrev pub placed : Delivered → List Delivered → List Delivered
placed d ds = insert ds (count_before d.stamp ds) d

-- how many stand before the first of that id
abbrev pub place_of : {X : Type 0} → (X → RequestId) → RequestId → List X → ℕ
place_of id i [] = 0
place_of id i (x ∷ xs) = cond (same_id (id x) i) 0 (suc (place_of id i xs))

-- the first of that id is taken out
abbrev pub without : {X : Type 0} → (X → RequestId) → RequestId → List X → List X
without id i [] = []
without id i (x ∷ xs) = cond (same_id (id x) i) xs (x ∷ without id i xs)

-- the count of that request, 0 where there is none
abbrev pub counted : List Heading → RequestId → ℕ
counted [] i = 0
counted (h ∷ hs) i = cond (same_id h.id i) h.count (counted hs i)

-- with one head more the request has all
abbrev pub has_all : List Heading → Delivered → Bool
has_all hs d = (counted hs d.id + 1) == length d.groups

-- what becomes of both lists where the request heads one queue more
abbrev pub ready_after : List Heading → Delivered → List Delivered → List Delivered
ready_after hs d ds = cond (has_all hs d) (placed d ds) ds

abbrev pub partly_after : List Heading → Delivered → List Heading
partly_after hs d = cond (has_all hs d) (without (λ (h : Heading). h.id) d.id hs)
    (without (λ (h : Heading). h.id) d.id hs ++ record { id = d.id; count = counted hs d.id + 1 } ∷ [])
