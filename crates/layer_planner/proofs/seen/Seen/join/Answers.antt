use Rattle.std.proofs.Common.{rules, ◌<◌, length, sym, ap, subst}
use Rattle.layer_planner.proofs.Gathering.{joined_alone, joined_shared}
use Rattle.layer_planner.specs.Seen.{HasJoined}
use Rattle.layer_planner.proofs.seen.Seen.join.Goals as goal

pub returns-in-None-clause-may : goal.returns-in-None-clause-may
returns-in-None-clause-may c = c.join_shared.ensures.may c.args.job.now.stamp

pub returns-in-Some-clause-joined : goal.returns-in-Some-clause-joined
returns-in-Some-clause-joined c = λ yes.
    let low : c.in-Some.group < length c.args.self.now.lasts = search rules in
    subst (λ gs. HasJoined c.args.self.now gs c.args.job.now.stamp c.join_alone.new.self) (sym c.in-Some.ensures)
    (joined_alone c.args.self.now c.join_alone.new.self c.in-Some.group c.args.job.now.stamp c.join_alone.ensures.shared
    (c.join_alone.ensures.lasts yes) low (c.join_alone.ensures.may.0 yes))

pub returns-in-None-clause-joined : goal.returns-in-None-clause-joined
returns-in-None-clause-joined c = λ yes.
    joined_shared c.args.self.now c.join_shared.new.self c.args.job.now.groups c.args.job.now.stamp
    (λ g e. c.in-None.ensures (ap length e)) (c.join_shared.ensures.shared yes) c.join_shared.ensures.lasts
