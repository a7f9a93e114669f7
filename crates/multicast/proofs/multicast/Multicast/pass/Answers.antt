use Rattle.std.proofs.Common.{◌≡◌, [], sym, subst, arith}
use Rattle.delivery.specs.Queues.{queue_of}
use Rattle.delivery.specs.Ready.{IsReady}
use Rattle.multicast.proofs.Passing.{passes}
use Rattle.multicast.specs.Multicast.{MulticastView, MayBeDelivered, Passes}
use Rattle.skeen_core.specs.declared.packet.Body.TheVariants.{Start}
use Rattle.skeen_core.specs.declared.packet.Delivered.{Delivered}
use Rattle.multicast.proofs.multicast.Multicast.pass.Goals as goal

pub returns-clause-passed : goal.returns-clause-passed
returns-clause-passed c =
    let gs = c.self.inside.groups.items in
    let ps = c.self.inside.links.packets in
    let qs = c.self.inside.queues.queues in
    let room = c.self.inside.links.room in
    let s = c.in_ok-stamp.stamp in
    let finals = c.settle_at_once.new.groups.items in
    let d : Delivered = record { id = c.args.id; stamp = s; groups = c.args.groups } in
    subst (λ (v : MulticastView). Passes v c.args.id c.args.floor c.args.groups d
    (record { groups = finals; packets = ps; queues = qs; room = room })) c.self.view_is
    (passes gs ps qs room c.args.id c.args.floor c.args.groups s finals
    (subst (λ (v : MulticastView). v.packets ≡ []) (sym c.self.view_is) c.requires.no_packet)
    (λ none. c.if-len-eq0.false (omega (arith, none, c.len.ensures.count))) (record {
      as_many = c.self.invariant.whole.as_many;
      low = λ g member. (subst (λ (v : MulticastView). MayBeDelivered v
          (record { to = g; id = c.args.id; body = Start c.args.floor c.args.groups })) (sym c.self.view_is) (c.requires.comes g member)).there;
      rise = c.len.ensures.set.ascending;
      none_ready = subst (λ (v : MulticastView). (e : Delivered) → IsReady (queue_of v.queues) e → ⊥) (sym c.self.view_is)
          c.requires.none_ready;
      alone = c.in_ok-stamp.ensures.alone;
      settles = c.in_ok-stamp.ensures.settled;
    }))
