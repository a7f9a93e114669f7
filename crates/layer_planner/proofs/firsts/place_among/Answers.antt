use Rattle.std.proofs.Common.{◌≡◌, ◌-◌, false, slice_index_or, sym, ◌∙◌, subst, arith}
use Rattle.groups.proofs.Lists.{In-get}
use Rattle.groups.specs.Stamp.{stamp_lt}
use Rattle.layer_planner.specs.Units.{stamp_at}
use Rattle.layer_planner.proofs.FirstPlaces.{put_is}
use Rattle.layer_planner.proofs.firsts.place_among.Goals as goal

pub is_earlier-requires-clause-other : goal.is_earlier-requires-clause-other
is_earlier-requires-clause-other c =
    let low = c.loop-at.invariant.within in
    let some = c.loop-at-test.true in
    c.requires.inside (slice_index_or c.args.others.now (c.loop-at.at - 1) 0)
    (In-get c.args.others.now (c.loop-at.at - 1) 0 (omega (arith, low, some)))

pub returns-else-is_earlier-clause-at : goal.returns-else-is_earlier-clause-at
returns-else-is_earlier-clause-at c =
    put_is c.args.jobs.now c.args.place c.args.others.now c.loop-at.at c.requires.rising c.loop-at.invariant.within
    (λ n e. let back : c.loop-at.at - 1 ≡ n = omega (arith, e) in
    subst (λ k. stamp_lt (stamp_at c.args.jobs.now c.args.place) (stamp_at c.args.jobs.now (slice_index_or c.args.others.now k 0)) ≡ false)
    back (sym c.is_earlier.ensures ∙ c.if-is_earlier.false))
    c.loop-at.invariant.behind
