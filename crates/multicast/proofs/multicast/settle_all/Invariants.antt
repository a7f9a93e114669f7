use Rattle.std.proofs.Common.{◌≡◌, ◌<◌, ℕ, true, false, length, slice_index_or}
use Rattle.groups.specs.GroupSet.{has, IsAscending}
use Rattle.multicast.specs.Multicast.{group_of}
use Rattle.skeen_core.specs.Group.{GroupView}
use Rattle.skeen_core.specs.Offers.{settled}
use Rattle.multicast.proofs.multicast.settle_all.Given as goal

-- the groups that are left, and all others, are as they were; those that are passed have delivered the request
abbrev pub invariant-loop-group : goal.invariant-loop-group
invariant-loop-group l =
    let old = l.fn.groups.items in
    let now = l.groups.items in
    record {
      rise : IsAscending l.group-iterator;
      within : (g : ℕ) → has l.group-iterator g ≡ true → has l.fn.addressed g ≡ true;
      count : length now ≡ length old;
      left : (g : ℕ) → has l.group-iterator g ≡ true → group_of now g ≡ group_of old g;
      passed : (g : ℕ) → has l.fn.addressed g ≡ true → has l.group-iterator g ≡ false →
          group_of now g ≡ settled (group_of old g) l.id l.clock;
      outside : (g : ℕ) → has l.fn.addressed g ≡ false → group_of now g ≡ group_of old g;
      numbered : ((g : ℕ) → (d : GroupView) → g < length old → (slice_index_or old g d).me ≡ g) →
          (g : ℕ) → (d : GroupView) → g < length now → (slice_index_or now g d).me ≡ g;
    }
