use Rattle.std.proofs.Common.{refl, ◌∙◌, subst}
use Rattle.replay.specs.Replay.{IsFaultOf}
use Rattle.system.specs.Reads.{table_of}
use Rattle.world.specs.Steps.{opening, Leads}
use Rattle.replay.proofs.steps.replay_watched.Goals as goal

pub make_all-requires : goal.make_all-requires
make_all-requires g c =
    let is = c.in_ok-system.ensures in
    record { world = opening; shows = is.shows.at; table = refl; lives = is.lives; count = is.none; limit = refl }

pub returns-in-Err-clause-fault : goal.returns-in-Err-clause-fault
returns-in-Err-clause-fault g c =
    let may = g.W.Workers.may_refuse c.args.workers.now in
    let new = c.in_ok-system.system in
    let fault = c.in-Err.fault in
    subst (λ l. IsFaultOf may l c.args.trace.max c.args.trace.steps fault) c.in_ok-system.ensures.table
    (subst (λ most. IsFaultOf may (table_of new) most c.args.trace.steps fault) (c.in_ok-system.ensures.max_steps ∙ c.max.ensures.max)
    (subst (λ steps. IsFaultOf may (table_of new) new.max_steps steps fault) c.steps.ensures.steps c.in-Err.ensures.fault))

pub returns-clause-report : goal.returns-clause-report
returns-clause-report g c =
    let stands = c.in_default.ensures.made in
    let told = c.in_ok-report_of.ensures c.steps.result stands.world stands.shows in
    record {
      world = stands.world;
      leads = subst (λ steps. Leads c.args.table opening steps stands.world) c.steps.ensures.steps
          (subst (λ l. Leads l opening c.steps.result stands.world) (stands.table ∙ c.in_ok-system.ensures.table) stands.shows.leads);
      text = told.0;
      agrees = told.1;
    }
