-- A request that is alone: what a group proposes for it, and what the group has once it is delivered.
use Rattle.std.specs.FinMap.{get, insert}
use Rattle.std.specs.Prelude.{◌≡◌, ℕ, false, max, None}
use Rattle.groups.specs.declared.request.RequestId.{RequestId}
use Rattle.skeen_core.specs.Group.{GroupState, heard, is_past, next_clock, or_zero}

-- The group would propose the clock n for the request. No request has started there, nothing of this one came before, and none of its
-- connection that is as late was delivered there.
pub record Offers (grp : GroupState) (id : RequestId) (floor n : ℕ) : Type 0 where
  pub none_started : (i : RequestId) → get grp.started i ≡ None
  pub unheard : (g : ℕ) → heard grp id g ≡ None
  pub later : is_past grp id ≡ false
  pub clock : n ≡ next_clock grp floor

-- the request is delivered at a stamp of this clock, and nothing else is kept of it
abbrev pub settled : GroupState → RequestId → ℕ → GroupState
settled grp id clock = record grp {
  clock = clock;
  reached = insert grp.reached id.conn.0 (max (or_zero (get grp.reached id.conn.0)) id.seq);
}
