use Rattle.std.proofs.Common.{sym, ap, ◌∙◌}
use Rattle.groups.specs.BitLaws.{ones_of-lowest, ones_of-zero}
use Rattle.groups.specs.Bits.{ones_of}
use Rattle.groups.proofs.group_set.Groups.pop_first.Goals as goal

pub returns-then-self-eq0 : goal.returns-then-self-eq0
returns-then-self-eq0 c =
    let none = sym c.self.view_is ∙ ap ones_of c.if-self-eq0.true ∙ ones_of-zero in
    (none, none)

pub returns : goal.returns
returns c =
    rw (c.new.ensures, ← c.self.view_is) (ones_of-lowest c.self.inside.bits c.if-self-eq0.false c.self.invariant)
