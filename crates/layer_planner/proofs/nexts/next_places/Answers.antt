use Rattle.std.proofs.Common.{◌≡◌, ◌-◌, suc, ◌<◌, length, replicate, sym, subst, arith, rules}
use Rattle.std.proofs.lemmas.List.{length-map}
use Rattle.layer_planner.specs.declared.job.Job.{Job}
use Rattle.layer_planner.specs.Nexts.{heads_with}
use Rattle.layer_planner.specs.Units.{groups_each}
use Rattle.layer_planner.proofs.Chains.{AreChains, no_chains, chain_more}
use Rattle.layer_planner.proofs.nexts.next_places.Goals as goal

pub loop-left-init : goal.loop-left-init
loop-left-init c =
    let none : c.in_ok-nexts.nexts.items ≡ replicate (length c.args.jobs.now) (length c.args.jobs.now) = search rules in
    subst (λ l. AreChains (groups_each c.args.jobs.now) (length c.args.jobs.now) l (replicate 64 (length c.args.jobs.now))) (sym none)
    (no_chains (groups_each c.args.jobs.now) (length c.args.jobs.now) (sym (length-map c.args.jobs.now (λ (j : Job). j.groups))))

pub loop-left-preserved : goal.loop-left-preserved
loop-left-preserved c =
    let some = c.loop-left-test.true in
    let within = c.loop-left.invariant.high in
    let up : c.loop-left.left ≡ suc (c.loop-left.left - 1) = omega (arith, some) in
    let long = length-map c.args.jobs.now (λ (j : Job). j.groups) in
    let low : c.loop-left.left - 1 < length (groups_each c.args.jobs.now) = omega (arith, some, within) in
    subst (AreChains (groups_each c.args.jobs.now) (c.loop-left.left - 1) c.link.new.nexts.items) (sym c.link.ensures.heads)
    (subst (λ l. AreChains (groups_each c.args.jobs.now) (c.loop-left.left - 1) l
    (heads_with c.groups_at.result (c.loop-left.left - 1) c.loop-left.heads)) (sym c.link.ensures.nexts)
    (chain_more (groups_each c.args.jobs.now) (c.loop-left.left - 1) c.groups_at.result c.loop-left.nexts.items c.loop-left.heads
    (subst (λ n. AreChains (groups_each c.args.jobs.now) n c.loop-left.nexts.items c.loop-left.heads) up c.loop-left.invariant) low
    (sym c.groups_at.ensures) c.link.ensures.small))
