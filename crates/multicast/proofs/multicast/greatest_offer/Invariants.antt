use Rattle.std.proofs.Common.{◌≡◌, ℕ, [], true, false, IsSome, Some, option_map}
use Rattle.std.specs.FinMap.{get}
use Rattle.delivery.specs.Queues.{queue_of}
use Rattle.groups.specs.GroupSet.{has}
use Rattle.groups.specs.Stamp.{later, final}
use Rattle.multicast.specs.Multicast.{group_of}
use Rattle.skeen_core.specs.Group.{next_clock}
use Rattle.skeen_core.specs.Offers.{Offers}
use Rattle.multicast.proofs.multicast.greatest_offer.Given as goal

-- the greatest so far, with the final stamp of the groups that are left, gives that of all; those that are passed would propose for
-- the request, and nothing stands in their queues; and each has delivered an earlier one, where that is said of all
abbrev pub invariant-loop-group : goal.invariant-loop-group
invariant-loop-group l =
    let offered : ℕ → ℕ = λ g. next_clock (group_of l.groups.items g) l.floor in
    record {
      greatest :
          final (λ g. Some (offered g)) l.fn.addressed ≡ option_map (later l.greatest) (final (λ g. Some (offered g)) l.group-iterator);
      inside : (g : ℕ) → has l.group-iterator g ≡ true → has l.fn.addressed g ≡ true;
      seen : (g : ℕ) → has l.fn.addressed g ≡ true → has l.group-iterator g ≡ false →
          Offers (group_of l.groups.items g) l.id l.floor (offered g) × (queue_of l.queues.queues g ≡ []);
      known : l.are_known ≡ true → (g : ℕ) → has l.fn.addressed g ≡ true → has l.group-iterator g ≡ false →
          IsSome (get (group_of l.groups.items g).reached l.id.conn.0);
    }
