use Rattle.std.proofs.Common.{◌≡◌, length, sym, ap, ◌∙◌, rules}
use Rattle.layer_planner.proofs.Cuts.{length-cut}
use Rattle.layer_planner.proofs.part.Part.len.Goals as goal

pub returns : goal.returns
returns c =
    let count : c.len.result ≡ length c.self.inside.ends.items = search rules in
    count ∙ sym (length-cut 0 c.self.inside.places.items c.self.inside.ends.items) ∙ ap (λ l. length l) c.self.view_is
