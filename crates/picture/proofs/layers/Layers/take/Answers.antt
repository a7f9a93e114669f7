use Rattle.std.proofs.Common.{ap, map, refl, None}
use Rattle.picture.specs.Layers.{layer_in, taken_at}
use Rattle.picture.specs.Notes.{job_noted}
use Rattle.picture.proofs.Putting.{pushed}
use Rattle.picture_shapes.specs.declared.facts.LayerFacts.{LayerFacts}
use Rattle.picture.proofs.layers.Layers.take.Goals as goal

pub returns : goal.returns
returns c =
    let layer : LayerFacts = record {
      number = c.saturating_add-number.result;
      take = c.args.step;
      run = None;
      settle = None;
      groups = c.touched_by.result;
      jobs = c.in_ok-jobs.jobs;
    } in
    record {
      layers = pushed layer_in c.args.self.now.layers.items c.push.new.self.items layer
          (taken_at c.args.step (map job_noted c.args.layer.now)) c.in_ok-push.ensures.items
          (ap (taken_at c.args.step) c.in_ok-jobs.ensures);
      replies = refl;
    }
