use Rattle.std.proofs.Common.{◌≡◌, ◌==◌, true, Some, refl, sym, subst, arith, eq-eqb}
use Rattle.std.proofs.lemmas.Bool.{or_left}
use Rattle.groups.specs.GroupSet.{has}
use Rattle.groups.proofs.Options.{some_same}
use Rattle.groups.proofs.Stamps.{clocks_le, final_above}
use Rattle.multicast.proofs.Exchange.{offered}
use Rattle.multicast.proofs.multicast.settle_at_once.Goals as goal
use Rattle.multicast.proofs.multicast.settle_at_once.Goals.{In-Some}

-- the group alone is one of the groups
member_alone : (c : In-Some) → has c.args.addressed c.in-Some.group ≡ true
member_alone c = let g = c.in-Some.group in subst (λ l. has l g ≡ true) (sym c.in-Some.ensures) (or_left (g == g) _ (eq-eqb g g refl))

pub settle_at-requires-clause-there : goal.settle_at-requires-clause-there
settle_at-requires-clause-there c = c.requires.there c.in-Some.group (member_alone (goal.at.settle_at-requires-clause-there c).In-Some)

pub settle_at-requires-clause-floor : goal.settle_at-requires-clause-floor
settle_at-requires-clause-floor c = c.requires.floor c.in-Some.group (member_alone (goal.at.settle_at-requires-clause-floor c).In-Some)

pub settle_all-requires-clause-low : goal.settle_all-requires-clause-low
settle_all-requires-clause-low c = λ g member.
    let gs = c.args.groups.now.items in
    let s = c.in_ok-stamp.stamp in
    let own = final_above (λ h. Some (offered gs c.args.floor h)) c.args.addressed s g c.in_ok-stamp.ensures.alone.greatest member in
    let below = clocks_le (record { clock = own.clock; group = g }) s own.within in
    let same = some_same (offered gs c.args.floor g) own.clock own.heard in
    omega (arith, below, same)
