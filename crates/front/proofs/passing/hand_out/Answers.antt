use Rattle.std.proofs.Common.{rules, ◌≡◌, List, [], ◌∷◌, ◌++◌, refl, sym, ap, ◌∙◌, subst}
use Rattle.std.specs.Prelude.{IsSome}
use Rattle.front.proofs.Jobs.{jobs_may_stand, take_some, take_one}
use Rattle.front.specs.Layers.{AreJobs}
use Rattle.front.specs.Taking.{IsTaking}
use Rattle.layer_planner.specs.declared.job.Job.{Job}
use Rattle.placement.specs.Layout.{Layout}
use Rattle.router.specs.Router.{RouterView}
use Rattle.router.specs.Submitting.{TakesOut}
use Rattle.router.proofs.Alone.{one_is_out}
use Rattle.skeen_core.specs.declared.packet.Delivered.{Delivered}
use Rattle.world.specs.World.{World}
use Rattle.worded.specs.declared.worded.Worded.{Worded}
use Rattle.front.proofs.passing.hand_out.Goals as goal

abbrev its_job : Delivered → Worded → Job
its_job d asked = record { id = d.id; stamp = d.stamp; groups = d.groups; asked = asked }

one_more : (all before : List Job) (j its : Job) → all ≡ before ++ j ∷ [] → before ≡ [] → j ≡ its → all ≡ its ∷ []
one_more all before j its pushed none is = pushed ∙ ap (λ (js : List Job). js ++ j ∷ []) none ∙ ap (λ (x : Job). x ∷ []) is

-- the job of a request that was taken is all that is out
one_job : (t : Layout) (w : World) (r r' : RouterView) (d : Delivered) (asked : Worded) (items : List Worded) → items ≡ asked ∷ []
    → IsTaking t w [] (d ∷ []) r → TakesOut r d.id items r'
    → IsTaking t w (d ∷ []) [] r'
    × AreJobs w.asked (d ∷ []) (its_job d asked ∷ [])
one_job t w r r' d asked items one is takes =
    let out = subst (λ (list : List Worded). TakesOut r d.id list r') one takes in
    take_one t w [] d [] r is r' asked [] (its_job d asked) out.0 out.1 tt
    refl refl refl refl

pub unreachable-requires : goal.unreachable-requires
unreachable-requires c =
    let start = c.requires.waits in
    let none : c.args.asked.now.items ≡ [] = search rules in
    let out = subst (λ (list : List Worded). TakesOut start.2 c.args.request.id list start.3) none start.5 in
    take_some start.0 start.1 [] c.args.request [] start.2 start.4 out.0

pub unreachable-requires-in_default-gather : goal.unreachable-requires-in_default-gather
unreachable-requires-in_default-gather c =
    let start = c.requires.waits in let d = c.args.request in let items = c.args.asked.now.items in
    let one = one_is_out start.2 start.3 d.id items c.pop.new.self.items c.in-Some.asked start.5 c.in-Some.ensures.items in
    let job = one_job start.0 start.1 start.2 start.3 d c.in-Some.asked items one start.4 start.5 in
    let jobs = ap (λ v. v.items) c.replace.ensures.value
    ∙ one_more c.push_reserved.new.self.items c.args.jobs.now.items c.job_of.result (its_job d c.in-Some.asked)
    c.push_reserved.ensures.items c.requires.no_jobs.0 c.job_of.ensures in
    let are = subst (λ js. AreJobs start.1.asked (d ∷ []) js) (sym jobs) job.1 in
    let may = jobs_may_stand start.0 start.1 (d ∷ []) start.2 start.4 c.replace.result.items are in
    let k = subst IsSome c.in_default-gather.is (c.gather.ensures.just_where.1 may) in
    cc

pub returns-clause-taken : goal.returns-clause-taken
returns-clause-taken c = λ t w r r' is takes.
    let d = c.args.request in let items = c.args.asked.now.items in
    let one = one_is_out r r' d.id items c.pop.new.self.items c.in-Some.asked takes c.in-Some.ensures.items in
    let job = one_job t w r r' d c.in-Some.asked items one is takes in
    let jobs = ap (λ v. v.items) c.replace.ensures.value
    ∙ one_more c.push_reserved.new.self.items c.args.jobs.now.items c.job_of.result (its_job d c.in-Some.asked)
    c.push_reserved.ensures.items c.requires.no_jobs.0 c.job_of.ensures in
    (job.0, subst (λ js. AreJobs w.asked (d ∷ []) js) (sym (c.in-Some-gather.ensures.gathered ∙ jobs)) job.1)
