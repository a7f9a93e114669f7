use Rattle.std.proofs.Common.{◌∙◌, Some, ap, map, refl}
use Rattle.picture.specs.Layers.{job_in, marked, run_at}
use Rattle.picture.proofs.Lasts.{no_last, none_popped, put_back}
use Rattle.picture_shapes.specs.declared.facts.LayerFacts.{LayerFacts}
use Rattle.picture.proofs.layers.Layers.run.Goals as goal

pub returns-in_default : goal.returns-in_default
returns-in_default c =
    let old = c.args.self.now.layers in
    let empty = none_popped c.pop.result old.items old.len old.ok.0 c.in_default.is c.pop.ensures.variant.1 in
    record {
      layers = no_last (run_at c.args.step c.args.starved.now) old.items c.pop.new.self.items c.pop.result empty c.pop.ensures.items
          c.in_default.is;
      replies = refl;
    }

pub returns : goal.returns
returns c =
    let was = c.in-Some.layer in
    let jobs = c.in_ok-jobs.ensures ∙ ap (λ js. map (marked c.args.starved.now) (map job_in js)) c.as_slice.ensures.value in
    let now : LayerFacts = record {
      number = was.number;
      take = was.take;
      run = Some c.args.step;
      settle = was.settle;
      groups = was.groups;
      jobs = c.in_ok-jobs.jobs;
    } in
    record {
      layers = put_back (run_at c.args.step c.args.starved.now) c.args.self.now.layers.items c.pop.new.self.items c.push.new.self.items
          c.pop.result was now c.pop.ensures.items c.in-Some.is c.in_ok-push.ensures.items
          (λ i. record { take = was.take; run = Some c.args.step; settle = was.settle; jobs = jobs i });
      replies = refl;
    }
