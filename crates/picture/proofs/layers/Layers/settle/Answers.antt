use Rattle.std.proofs.Common.{◌∙◌, ◌++◌, Some, ap, map, refl, sym}
use Rattle.std.proofs.lemmas.List.{append-nil}
use Rattle.picture.specs.Layers.{last_jobs, layer_in, reply_in, settled_at}
use Rattle.picture.specs.Notes.{ids_in, ids_of, replies_noted}
use Rattle.picture.proofs.Lasts.{jobs_of_last, no_last, none_popped, put_back}
use Rattle.picture_shapes.specs.declared.facts.LayerFacts.{LayerFacts}
use Rattle.picture.proofs.layers.Layers.settle.Goals as goal

pub returns-in_default : goal.returns-in_default
returns-in_default c =
    let old = c.args.self.now.layers in
    let replies = map reply_in c.args.self.now.replies.items in
    let empty = none_popped c.pop.result old.items old.len old.ok.0 c.in_default.is c.pop.ensures.variant.1 in
    record {
      layers = no_last (settled_at c.args.step) old.items c.pop.new.self.items c.pop.result empty c.pop.ensures.items c.in_default.is;
      replies = sym
          (ap (λ ls. replies ++ replies_noted c.args.step c.args.system.now (ids_of (last_jobs (map layer_in ls)))) empty
          ∙ append-nil replies);
    }

pub returns : goal.returns
returns c =
    let old = c.args.self.now.layers.items in
    let was = c.in-Some.layer in
    let now : LayerFacts = record {
      number = was.number;
      take = was.take;
      run = was.run;
      settle = Some c.args.step;
      groups = was.groups;
      jobs = was.jobs;
    } in
    record {
      layers = put_back (settled_at c.args.step) old c.pop.new.self.items c.push.new.self.items c.pop.result was now c.pop.ensures.items
          c.in-Some.is c.in_ok-push.ensures.items refl;
      replies = c.in_ok-put_replies.ensures
          ∙ ap (λ ids. map reply_in c.args.self.now.replies.items ++ replies_noted c.args.step c.args.system.now ids)
          (ap ids_in c.as_slice.ensures.value
          ∙ jobs_of_last old c.pop.new.self.items c.pop.result was c.pop.ensures.items c.in-Some.is);
    }
