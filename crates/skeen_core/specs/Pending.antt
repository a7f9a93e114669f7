-- The started requests by their places.
use Rattle.std.specs.Prelude.{◌≡◌, ℕ, suc, ◌==◌, ◌&&◌, not, Bool, true, false, cond, List, [], ◌∷◌, length, Option, Some, None}
use Rattle.std.specs.BTreeMap.{is_at, insert_entry}
use Rattle.std.specs.FinMap.{FinMap, retain_keys}
use Rattle.std.specs.List.Sorted.{IsStrictlySortedBy}
use Rattle.std.specs.Map.{keys_of, lookup, remove_entry}
use Rattle.std.specs.Ordering.{nat_cmp, ordering_then}
use Rattle.std.specs.declared.cmp.Ordering.{Ordering}
use Rattle.groups.specs.GroupSet.{has}
use Rattle.groups.specs.Request.{same_id, source_cmp}
use Rattle.groups.specs.Stamp.{stamp_lt}
use Rattle.groups.specs.declared.request.RequestId.{RequestId}
use Rattle.groups.specs.declared.stamp.Stamp.{Stamp}
use Rattle.skeen_core.specs.Group.{has_id}
use Rattle.skeen_core.specs.declared.packet.Delivered.{Delivered}
use Rattle.skeen_core.specs.declared.pending.Pending.{Pending}

-- by the clocks, and at one clock by the groups
abbrev pub stamp_cmp : Stamp → Stamp → Ordering
stamp_cmp s t = ordering_then (nat_cmp s.clock t.clock) (nat_cmp s.group t.group)

abbrev pub is_place : Stamp → Stamp → Bool
is_place s = is_at (stamp_cmp s)

-- a request, with the place where it stands
abbrev pub Entry : Type 0
Entry = Stamp × Pending

-- the request at a place
abbrev pub at : List Entry → Stamp → Option Pending
at es s = lookup (is_place s) es

-- ---- what is delivered

abbrev pub delivered : Entry → Delivered
delivered e = record { id = e.1.id; stamp = e.0; groups = e.1.groups }

abbrev pub first_is_settled : List Entry → Bool
first_is_settled [] = false
first_is_settled (e ∷ es) = e.1.missing == 0

-- the settled ones in front, as they are delivered
abbrev pub front : List Entry → List Delivered
front [] = []
front (e ∷ es) = cond (e.1.missing == 0) (delivered e ∷ front es) []

-- the others
abbrev pub behind : List Entry → List Entry
behind [] = []
behind (e ∷ es) = cond (e.1.missing == 0) (behind es) (e ∷ es)

-- the proposals once these are delivered
abbrev pub forgotten : List Delivered → FinMap source_cmp ℕ → FinMap source_cmp ℕ
forgotten ds ps = retain_keys ps (λ s. not (has_id ds s.id))

-- ---- changes

-- no proposal is missing of it any more
abbrev pub settled : Pending → Pending
settled p = record p { missing = 0 }

abbrev pub if_waits : Stamp → RequestId → ℕ → Option Pending → Option Entry
if_waits s i from None = None
if_waits s i from (Some p) = cond (same_id p.id i && has p.groups from) (Some (s, p)) None

-- the request at the group's own proposal, if that is for this request and it waits for a proposal of that group
abbrev pub waiting : ℕ → Option ℕ → RequestId → ℕ → List Entry → Option Entry
waiting me None i from es = None
waiting me (Some n) i from es = if_waits (record { clock = n; group = me }) i from (at es (record { clock = n; group = me }))

-- one that is the first, and the settled ones right behind it
abbrev pub room_for : Stamp → List Entry → ℕ
room_for s [] = 0
room_for s (e ∷ es) = cond (is_place s e.0) (suc (length (front es))) 0

abbrev pub is_before : Stamp → List Entry → Bool
is_before t [] = true
is_before t (e ∷ es) = stamp_lt t e.0

-- whether it is the first, and stays so at the place t
abbrev pub stays_first : Stamp → Stamp → List Entry → Bool
stays_first s t [] = false
stays_first s t (e ∷ es) = is_place s e.0 && is_before t es

-- the request that stood at the place s stands at the place t, as p
pub record Moves (s t : Stamp) (p : Pending) (old new : List Entry) : Type 0 where
  pub rise : IsStrictlySortedBy stamp_cmp (keys_of new)
  pub at : (q : Stamp) → at new q ≡ cond (is_place t q) (Some p) (cond (is_place s q) None (at old q))

-- the same, as it is done: it enters the place t before it leaves the place s
abbrev pub moved : Stamp → Stamp → Pending → List Entry → List Entry
moved s t p es = cond (is_place s t) (insert_entry stamp_cmp es t p) (remove_entry (is_place s) (insert_entry stamp_cmp es t p))
