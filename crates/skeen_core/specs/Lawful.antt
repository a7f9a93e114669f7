-- What each state of a group is like, whatever packets have come by the rule.
use Rattle.std.specs.Prelude.{◌≡◌, ℕ, ◌≤◌, true, List, Some, IsSome}
use Rattle.std.specs.FinMap.{get}
use Rattle.groups.specs.GroupSet.{has}
use Rattle.groups.specs.Stamp.{final}
use Rattle.skeen_core.specs.Group.{GroupState, heard, MayGo}
use Rattle.groups.specs.declared.stamp.Stamp.{Stamp}
use Rattle.groups.specs.declared.request.RequestId.{RequestId}
use Rattle.skeen_core.specs.declared.packet.Delivered.{Delivered}

pub record Sound (me : ℕ) (grp : GroupState) : Type 0 where
  -- a group's proposals for two requests differ
  pub apart : (i j : RequestId) (h n : ℕ) → heard grp i h ≡ Some n → heard grp j h ≡ Some n → i ≡ j
  -- the group has proposed for started requests alone, and its clock is at least each of its proposals
  pub own : (i : RequestId) (n : ℕ) → heard grp i me ≡ Some n → (n ≤ grp.clock) × IsSome (get grp.started i)
  -- it has proposed for each started request, and is one of its groups
  pub started : (i : RequestId) (gs : List ℕ) → get grp.started i ≡ Some gs → IsSome (heard grp i me) × (has gs me ≡ true)
  -- its clock is at least each final stamp that it knows
  pub tops : (i : RequestId) (gs : List ℕ) (s : Stamp) → get grp.started i ≡ Some gs → final (heard grp i) gs ≡ Some s → s.clock ≤ grp.clock

-- besides, what could be delivered is delivered
pub record Lawful (me : ℕ) (grp : GroupState) : Type 0 where
  pub sound : Sound me grp
  pub stuck : (d : Delivered) → MayGo me grp d → ⊥
