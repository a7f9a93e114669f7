use Rattle.std.proofs.Common.{sym, ap, ◌∙◌}
use Rattle.std.specs.List.{concat}
use Rattle.layer_planner.proofs.Cuts.{concat-cut}
use Rattle.layer_planner.proofs.part.Part.places.Goals as goal

pub returns : goal.returns
returns c = c.as_slice.ensures.value ∙ sym (concat-cut 0 c.self.inside.places.items c.self.inside.ends.items c.self.invariant)
    ∙ ap concat c.self.view_is
