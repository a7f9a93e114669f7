use Rattle.std.proofs.Common.{◌≡◌, cond, sym, ap, ◌∙◌, rules, false}
use Rattle.groups.specs.declared.stamp.Stamp.{Stamp}
use Rattle.groups.specs.Stamp.{stamp_lt, final}
use Rattle.skeen_core.specs.Heard.{clock_of, with_heard}
use Rattle.groups.proofs.Stamps.{final_begun, final_missing, final_passed, final_ended}
use Rattle.skeen_core.proofs.heard.final_stamp.Goals as goal

pub loop-group-init : goal.loop-group-init
loop-group-init c =
    let walk = c.into_iter-group-iterator.ensures.into_iter_gives ∙ c.iter-group-items.ensures in
    rw (walk, c.new.ensures) (final_begun (final (with_heard c.args.last.now (clock_of c.args.list.now)) c.args.groups))

pub returns-in_err-clock_with : goal.returns-in_err-clock_with
returns-in_err-clock_with c =
    c.from_residual.ensures
    ∙ sym (final_missing (with_heard c.args.last.now (clock_of c.args.list.now)) _ c.loop-group.greatest c.loop-group.group-iterator
    c.next.new.self c.in-Some.group
    c.loop-group.invariant c.in-Some.ensures.steps (sym c.in_err-clock_with.ensures))

pub loop-group-preserved : goal.loop-group-preserved
loop-group-preserved c =
    let not_less : stamp_lt c.loop-group.greatest (record { clock = c.in_ok-clock_with.field-0; group = c.in-Some.group }) ≡ false =
    search rules in
    final_passed (with_heard c.args.last.now (clock_of c.args.list.now)) _ c.loop-group.greatest c.loop-group.greatest
    c.loop-group.group-iterator c.next.new.self c.in-Some.group c.in_ok-clock_with.field-0
    c.loop-group.invariant c.in-Some.ensures.steps (sym c.in_ok-clock_with.ensures)
    (ap (λ b. cond {A = Stamp} b (record { clock = c.in_ok-clock_with.field-0; group = c.in-Some.group }) c.loop-group.greatest) not_less)

pub returns : goal.returns
returns c = sym (final_ended (with_heard c.args.last.now (clock_of c.args.list.now)) _ c.loop-group.greatest c.loop-group.group-iterator
    c.loop-group.invariant c.in-None.ensures.steps.0)
