use Rattle.std.proofs.Common.{ap, sym, ◌∙◌}
use Rattle.values.proofs.MembersAfter.{slice-lt}
use Rattle.values.specs.SetValue.{is_below}
use Rattle.values.proofs.member_table.is_below.Goals as goal

pub returns-in-Some : goal.returns-in-Some
returns-in-Some c =
    c.lt.ensures ∙ slice-lt c.args.member.now c.in-Some.other.now ∙ ap (λ other. is_below other c.args.member.now) (sym c.in-Some.is)
