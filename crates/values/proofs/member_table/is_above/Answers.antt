use Rattle.std.proofs.Common.{ap, sym, ◌∙◌}
use Rattle.values.proofs.MembersAfter.{slice-lt}
use Rattle.values.specs.SetValue.{is_above}
use Rattle.values.proofs.member_table.is_above.Goals as goal

pub returns-in-Some : goal.returns-in-Some
returns-in-Some c =
    c.lt.ensures ∙ slice-lt c.in-Some.other.now c.args.member.now ∙ ap (λ other. is_above other c.args.member.now) (sym c.in-Some.is)
