use Rattle.std.proofs.Common.{◌∙◌}
use Rattle.packing.proofs.ListLaws.{read_back}
use Rattle.packing.proofs.packed_list.PackedList.take_back.Goals as goal

pub invariant_of-self : goal.invariant_of-self
invariant_of-self c =
    let seen = c.self.view_is in let r = c.requires in
    rw c.truncate.ensures.items (read_back r.0 r.0 r.1 r.1 _ _ _ _ c.self.invariant (seen ∙ r.2) r.3 (seen ∙ r.2)).are

pub returns : goal.returns
returns c front last split =
    let seen = c.self.view_is in let r = c.requires in
    rw c.truncate.ensures.items (read_back r.0 front r.1 last _ _ _ _ c.self.invariant (seen ∙ r.2) r.3 (seen ∙ split)).same
