-- Requests that were executed: in the order of execution, and in the order of their stamps.
use Rattle.std.specs.Prelude.{◌≡◌, ℕ, Bool, true, false, cond, List, [], ◌∷◌, map}
use Rattle.groups.specs.GroupSet.{has}
use Rattle.keyspace.specs.Map.{Map}
use Rattle.placement.specs.Layout.{Layout}
use Rattle.resp.specs.Content.{Content}
use Rattle.groups.specs.Order.{In}
use Rattle.groups.specs.Stamp.{stamp_lt}
use Rattle.groups.specs.declared.request.RequestId.{RequestId}
use Rattle.groups.specs.declared.stamp.Stamp.{Stamp}
use Rattle.tasks.specs.Tasks.{Task, Deed, task_groups, deed_effect}

-- a request that was executed
pub record Entry : Type 0 where
  pub id : RequestId
  pub stamp : Stamp
  pub groups : List ℕ
  pub task : Task
  pub starved : List ℕ  -- the numbers of its task's members that starved

-- and the reply that it got
pub record Row : Type 0 where
  pub entry : Entry
  pub reply : Content

-- what it did
abbrev pub deed : Entry → Deed
deed e = (e.task, e.starved)

abbrev pub deeds_of : List Entry → List Deed
deeds_of entries = map deed entries

abbrev pub entries_of : List Row → List Entry
entries_of rows = map (λ r. r.entry) rows

abbrev pub replies_of : List Row → List Content
replies_of rows = map (λ r. r.reply) rows

-- each request with its reply, where they are executed one after another on one map
abbrev pub rows_from : Map → List Entry → List Row
rows_from m [] = []
rows_from m (e ∷ es) = record { entry = e; reply = (deed_effect (deed e) m).1 } ∷ rows_from (deed_effect (deed e) m).0 es

-- ---- the order of stamps

-- x put before the first element that isn't below it
abbrev pub insert_by : {X : Type 0} → (X → X → Bool) → X → List X → List X
insert_by below x [] = x ∷ []
insert_by below x (y ∷ ys) = cond (below y x) (y ∷ insert_by below x ys) (x ∷ y ∷ ys)

-- the list, sorted
abbrev pub sort_by : {X : Type 0} → (X → X → Bool) → List X → List X
sort_by below [] = []
sort_by below (x ∷ xs) = insert_by below x (sort_by below xs)

abbrev pub by_stamp : List Entry → List Entry
by_stamp = sort_by (λ e f. stamp_lt e.stamp f.stamp)

abbrev pub rows_by_stamp : List Row → List Row
rows_by_stamp = sort_by (λ r s. stamp_lt r.entry.stamp s.entry.stamp)

-- no later one has a smaller stamp
abbrev pub AscendsByStamp : List Entry → Type 0
AscendsByStamp [] = Unit {0}
AscendsByStamp (e ∷ es) = ((f : Entry) → In f es → stamp_lt f.stamp e.stamp ≡ false) × AscendsByStamp es

-- ---- the order of execution

-- two requests touch where a group is addressed by both
abbrev pub Touch : Entry → Entry → Type 0
Touch e f = (g : ℕ) × (has e.groups g ≡ true) × (has f.groups g ≡ true)

-- of two that touch, the later one hasn't the smaller stamp
abbrev pub InOrder : List Entry → Type 0
InOrder [] = Unit {0}
InOrder (e ∷ es) = ((f : Entry) → In f es → Touch e f → stamp_lt f.stamp e.stamp ≡ false) × InOrder es

-- the request's groups are those of its task, and there is one
pub record IsAddressed (table : Layout) (e : Entry) : Type 0 where
  pub groups : e.groups ≡ task_groups table e.task
  pub some_group : (g : ℕ) × (has e.groups g ≡ true)

abbrev pub AreAddressed : Layout → List Entry → Type 0
AreAddressed table es = (e : Entry) → In e es → IsAddressed table e
