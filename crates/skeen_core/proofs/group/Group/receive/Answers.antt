use Rattle.std.proofs.Common.{◌≡◌, sym, ap, ◌∙◌, subst}
use Rattle.skeen_core.specs.Group.{GroupState, GroupView, reached_by, Receives}
use Rattle.skeen_core.proofs.RunLaws.{heard_receives, agrees_whatever}
use Rattle.skeen_core.proofs.group.Group.receive.Goals as goal

pub returns-clause-rule : goal.returns-clause-rule
returns-clause-rule c =
    let inner = c.self.inside.agreement in
    let numbers = c.self.inside.reached.numbers in
    let ds = c.in_ok-sent.delivered.items in
    let mid : GroupState = record c.receive.new.self.state { reached = numbers } in
    let reached : c.deliver_all.new.self.numbers ≡ reached_by numbers ds =
    c.deliver_all.ensures ∙ ap (λ l. reached_by c.reserve.new.self.numbers l) c.as_slice.ensures.value
    ∙ ap (λ r. reached_by r ds) c.reserve.ensures.numbers in
    let receives = heard_receives inner.me (record inner.state { reached = numbers }) c.args.packet.id c.args.packet.body
    c.in_ok-sent.sent.items ds mid (sym c.is_past.ensures ∙ c.if-is_past.false)
    (agrees_whatever inner.me inner.state c.args.packet.id c.args.packet.body c.in_ok-sent.sent.items ds c.receive.new.self.state numbers
    c.in_ok-sent.ensures.rule) in
    subst (λ (v : GroupView). Receives v.me v.state c.args.packet.id c.args.packet.body c.in_ok-sent.sent.items ds
    (record c.receive.new.self.state { reached = c.deliver_all.new.self.numbers })) c.self.view_is
    (subst (λ r. Receives inner.me (record inner.state { reached = numbers }) c.args.packet.id c.args.packet.body c.in_ok-sent.sent.items ds
    (record c.receive.new.self.state { reached = r })) (sym reached) receives)
