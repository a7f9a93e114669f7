use Rattle.std.proofs.Common.{rules, refl, sym, subst}
use Rattle.delivery.proofs.Layers.{layers_can_be_popped}
use Rattle.delivery.specs.Queues.{queue_of, IsSound}
use Rattle.delivery.specs.Ready.{QueueOf, IsLayer}
use Rattle.multicast.proofs.Losing.{once_popped}
use Rattle.multicast.proofs.Queues.{sound_popped_all}
use Rattle.multicast.specs.Multicast.{MulticastView, LosesLayer}
use Rattle.multicast.proofs.multicast.Multicast.lose_layer.Goals as goal

pub pop_all-requires : goal.pop_all-requires
pop_all-requires c =
    layers_can_be_popped (queue_of c.self.inside.queues.queues) c.args.layer.now
    (subst (λ (v : MulticastView). IsSound (queue_of v.queues)) (sym c.self.view_is) c.requires.sound)
    (subst (λ (v : MulticastView). IsLayer (queue_of v.queues) c.args.layer.now) (sym c.self.view_is) c.requires.layer)

pub returns : goal.returns
returns c =
    let sound = subst (λ (v : MulticastView). IsSound (queue_of v.queues)) (sym c.self.view_is) c.requires.sound in
    let is = subst (λ (v : MulticastView). IsLayer (queue_of v.queues) c.args.layer.now) (sym c.self.view_is) c.requires.layer in
    subst (λ (v : MulticastView). LosesLayer v c.args.layer.now
    (record {
      groups = c.self.inside.groups.items;
      packets = c.self.inside.links.packets;
      queues = c.pop_all.new.self.queues;
      room = c.self.inside.links.room;
    })) c.self.view_is (record {
      groups = refl;
      packets = refl;
      queue = once_popped (queue_of c.self.inside.queues.queues) (queue_of c.pop_all.new.self.queues) c.args.layer.now sound is
          c.pop_all.ensures.popped;
    })

pub invariant_of-self : goal.invariant_of-self
invariant_of-self c = record {
  whole = search rules;
  sound = subst (λ (q : QueueOf). IsSound q) (sym c.pop_all.ensures.popped)
      (sound_popped_all c.args.layer.now (queue_of c.self.inside.queues.queues) c.self.invariant.sound);
}
