use Rattle.std.proofs.Common.{◌≡◌, ℕ, zero, suc, Option, None, replicate, slice_index_or, refl, sym, ap, subst}
use Rattle.groups.specs.GroupSet.{has}
use Rattle.groups.specs.declared.stamp.Stamp.{Stamp}
use Rattle.layer_planner.specs.Seen.{MayStandBehind}
use Rattle.layer_planner.proofs.seen.Seen.nothing.Goals as goal

none_at : (n g : ℕ) → ◌≡◌ {A = Option Stamp} (slice_index_or (replicate n None) g None) None
none_at zero g = refl
none_at (suc n) zero = refl
none_at (suc n) (suc g) = none_at n g

pub returns : goal.returns
returns c = λ groups stamp g there.
    (ap (λ l. has l g) c.empty.ensures, subst (λ o. MayStandBehind o g groups stamp) (sym (none_at 64 g)) tt)
