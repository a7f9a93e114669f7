use Rattle.std.proofs.Common.{rules, ◌+◌, [], ◌∷◌, ◌++◌, take, drop, ap, sym, ◌∙◌, subst}
use Rattle.std.proofs.lemmas.List.{take_all, drop_all}
use Rattle.layer_planner.specs.declared.job.Job.{Job}
use Rattle.front.proofs.Jobs.{take_some, take_one}
use Rattle.front.proofs.Turns.{turn_at, passed_at}
use Rattle.front.specs.Layers.{AreJobs}
use Rattle.front.specs.Taking.{IsTaking}
use Rattle.front.proofs.layers.take_all.Goals as goal

pub loop-request-init : goal.loop-request-init
loop-request-init c = record {
  out = λ t w is. (is, search rules);
  jobs = search rules;
  room_of_jobs = c.requires.no_jobs.1;
}

pub unreachable-requires : goal.unreachable-requires
unreachable-requires c =
    let given = c.requires.waits in
    let ready = c.args.ready.now in
    let i = c.loop-request.request-index in
    let d = c.request-item.result in
    let now = (c.loop-request.invariant.out given.0 given.1 given.2).0 in
    let next = subst (λ ds. IsTaking given.0 given.1 (take i ready) ds c.loop-request.router)
    (turn_at ready i d c.loop-request-test.true c.request-item.is) now in
    take_some given.0 given.1 (take i ready) d (drop (i + 1) ready) c.loop-request.router next
    (sym c.take.ensures.taken ∙ c.in_default.is)

pub push_reserved-requires : goal.push_reserved-requires
push_reserved-requires c =
    let inv = c.loop-request.invariant in
    let within = c.loop-request-test.true in
    let room = inv.room_of_jobs in
    let count = inv.jobs in
    search rules

pub loop-request-preserved : goal.loop-request-preserved
loop-request-preserved c =
    let ready = c.args.ready.now in
    let i = c.loop-request.request-index in
    let d = c.request-item.result in
    let inv = c.loop-request.invariant in
    let asked = c.in-Some.asked in
    let j = c.job_of.result in
    let is_job = c.job_of.ensures in
    record {
      out = λ t w is.
          let now = inv.out t w is in
          let next = subst (λ ds. IsTaking t w (take i ready) ds c.loop-request.router)
          (turn_at ready i d c.loop-request-test.true c.request-item.is) now.0 in
          let one = take_one t w (take i ready) d (drop (i + 1) ready) c.loop-request.router next c.take.new.self asked
          c.loop-request.jobs.items j (sym c.take.ensures.taken ∙ c.in-Some.is) c.in-Some.ensures.changes now.1
          (ap (λ (x : Job). x.id) is_job) (ap (λ (x : Job). x.stamp) is_job) (ap (λ (x : Job). x.groups) is_job)
          (ap (λ (x : Job). x.asked) is_job) in
          let front = sym (passed_at ready i d c.loop-request-test.true c.request-item.is) in (
            subst (λ ds. IsTaking t w ds (drop (i + 1) ready) c.take.new.self) front one.0,
            subst (λ ds. AreJobs w.asked ds c.push_reserved.new.self.items) front
                (subst (AreJobs w.asked (take i ready ++ d ∷ [])) (sym c.push_reserved.ensures.items) one.1),
          );
      jobs = search rules;
      room_of_jobs = search rules;
    }

pub returns : goal.returns
returns c = record {
  taken = λ t w is.
      let ready = c.args.ready.now in
      let i = c.loop-request.request-index in
      let now = c.loop-request.invariant.out t w is in
      let front = take_all i ready c.loop-request-test.false in
      let back = drop_all i ready c.loop-request-test.false in (
        subst (λ ds. IsTaking t w ds [] c.loop-request.router) front
            (subst (λ ds. IsTaking t w (take i ready) ds c.loop-request.router) back now.0),
        subst (λ ds. AreJobs w.asked ds c.loop-request.jobs.items) front now.1,
      );
}
