use Rattle.std.proofs.Common.{rules, ◌≡◌, ◌<◌, ◌++◌, length, remove, slice_get, slice_set, slice_index_or, Some, sym, ap, ◌∙◌, subst, arith}
use Rattle.delivery.specs.Queues.{queue_of}
use Rattle.multicast.specs.Multicast.{MulticastView, at, group_of, MayBeDelivered, Delivers}
use Rattle.multicast.proofs.Groups.{within, state_at, sent_few, group_of-set, count-set}
use Rattle.multicast.proofs.Queues.{sound_append_all}
use Rattle.skeen_core.specs.Group.{GroupView, Receives}
use Rattle.multicast.proofs.multicast.Multicast.deliver.Goals as goal
use Rattle.multicast.proofs.multicast.Multicast.deliver.Goals.{In-Ok}

pub make_room-requires-clause-there : goal.make_room-requires-clause-there
make_room-requires-clause-there c =
    let found : slice_get c.args.self.now.packets c.args.place ≡ Some c.in-Some.packet.now = search rules in
    subst (λ (v : MulticastView). c.in-Some.packet.now.to < length v.groups) (sym c.self.view_is)
    (c.requires c.in-Some.packet.now found).there

pub make_room-requires-clause-queue : goal.make_room-requires-clause-queue
make_room-requires-clause-queue c =
    let found : slice_get c.args.self.now.packets c.args.place ≡ Some c.in-Some.packet.now = search rules in
    let low = subst (λ (v : MulticastView). c.in-Some.packet.now.to < length v.groups) (sym c.self.view_is)
    (c.requires c.in-Some.packet.now found).there in
    let many = c.self.invariant.whole.as_many in omega arith

pub returns-then-not-make_room-clause-there : goal.returns-then-not-make_room-clause-there
returns-then-not-make_room-clause-there c = λ e. within c.args.self.now.packets c.args.place c.in-Some.packet.now (search rules)

pub returns-in_default-receive-clause-there : goal.returns-in_default-receive-clause-there
returns-in_default-receive-clause-there c = λ e. within c.args.self.now.packets c.args.place c.in-Some.packet.now (search rules)

pub send_all-requires : goal.send_all-requires
send_all-requires c =
    let few = sent_few _ _ _ _ _ _ _ c.in-Ok.ensures.rule in
    let room = c.make_room.ensures.sends c.if-not-make_room.false in
    let kept = c.take.ensures.room in
    omega arith

-- the packet may come, and has come to its group
may_come : (c : In-Ok) → MayBeDelivered (record {
  groups = c.self.inside.groups.items;
  packets = c.self.inside.links.packets;
  queues = c.self.inside.queues.queues;
  room = c.self.inside.links.room;
}) c.in-Some.packet.now
may_come c =
    let found : slice_get c.args.self.now.packets c.args.place ≡ Some c.in-Some.packet.now = search rules in
    subst (λ (v : MulticastView). MayBeDelivered v c.in-Some.packet.now) (sym c.self.view_is) (c.requires c.in-Some.packet.now found)

received : (c : In-Ok)
    → Receives c.in-Some.packet.now.to (group_of c.self.inside.groups.items c.in-Some.packet.now.to) c.in-Some.packet.now.id
    c.in-Some.packet.now.body c.in-Ok.sent.items c.in-Ok.delivered.items c.receive.new.self.state
received c =
    let p = c.in-Some.packet.now in
    let gs = c.self.inside.groups.items in
    let grp = c.index_mut-group.result.now in
    let low = (may_come c).there in
    let number : c.from.result ≡ p.to = search rules in
    let is : grp ≡ slice_index_or gs p.to grp = c.index_mut-group.ensures.value ∙ ap (λ n. slice_index_or gs n grp) number in
    let me : grp.me ≡ p.to = ap (λ (v : GroupView). v.me) is ∙ c.self.invariant.whole.numbered p.to grp low in
    subst (λ n. Receives n (group_of gs p.to) p.id p.body c.in-Ok.sent.items c.in-Ok.delivered.items c.receive.new.self.state) me
    (subst (λ s. Receives grp.me s p.id p.body c.in-Ok.sent.items c.in-Ok.delivered.items c.receive.new.self.state)
    (sym (state_at gs p.to grp low is)) c.in-Ok.ensures.rule)

pub returns-clause-delivers : goal.returns-clause-delivers
returns-clause-delivers c =
    let p = c.in-Some.packet.now in
    let gs = c.self.inside.groups.items in
    let found : slice_get c.args.self.now.packets c.args.place ≡ Some p = search rules in
    let d = goal.at.returns-clause-delivers c in
    let number : c.from.result ≡ p.to = search rules in
    subst (λ (v : MulticastView). Delivers v c.args.place
    (record {
      groups = slice_set gs c.from.result c.receive.new.self;
      packets = c.send_all.new.links.packets;
      queues = c.append_all.new.queues.queues;
      room = c.send_all.new.links.room;
    })) c.self.view_is (record {
      packet = p;
      sent = c.in-Ok.sent.items;
      delivered = c.in-Ok.delivered.items;
      state = c.receive.new.self.state;
      there = subst (λ (v : MulticastView). slice_get v.packets c.args.place ≡ Some p) (sym c.self.view_is) found;
      receives = received d.In-Ok;
      packets = c.send_all.ensures
          ∙ ap (λ ps. ps ++ c.in-Ok.sent.items) (c.take.ensures.rest ∙ ap (λ ps. remove ps c.args.place) c.make_room.ensures.packets);
      group = λ h. ap (λ n. group_of (slice_set gs n c.receive.new.self) h) number
          ∙ group_of-set gs p.to c.receive.new.self (may_come d.In-Ok).there h;
      queue = λ h. c.append_all.ensures.appended h
          ∙ ap (λ qs. at (queue_of qs) p.to (queue_of qs p.to ++ c.in-Ok.delivered.items) h) c.make_room.ensures.queues;
      count = count-set gs c.from.result c.receive.new.self;
    })

pub invariant_of-self-2 : goal.invariant_of-self-2
invariant_of-self-2 c =
    let to = c.in-Some.packet.now.to in
    let qs = c.self.inside.queues.queues in
    let ds = c.in-Ok.delivered.items in
    let d = goal.at.invariant_of-self-2 c in
    record {
      whole = search rules;
      sound = sound_append_all ds (queue_of qs) (queue_of c.append_all.new.queues.queues) to c.self.invariant.sound
          ((may_come d.In-Ok).appends c.in-Ok.sent.items ds c.receive.new.self.state (received d.In-Ok))
          (λ h. c.append_all.ensures.appended h ∙ ap (λ q. at (queue_of q) to (queue_of q to ++ ds) h) c.make_room.ensures.queues);
    }
