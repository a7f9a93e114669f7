use Rattle.std.proofs.Common.{rules, ◌≡◌, ◌≤◌, ◌++◌, length, refl, sym, ap, subst, arith}
use Rattle.multicast.proofs.Groups.{starts_many}
use Rattle.multicast.specs.Multicast.{MulticastView, starts_to}
use Rattle.multicast.proofs.multicast.Multicast.start.Goals as goal

pub loop-group-init : goal.loop-group-init
loop-group-init c =
    let same : c.into_iter-group-iterator.result ≡ c.args.groups = search rules in
    let room = subst (λ (v : MulticastView). length c.args.groups ≤ v.room) (sym c.self.view_is) c.requires in
    let many = starts_many c.args.id c.args.floor c.args.groups c.args.groups in
    record {
      groups = refl;
      queues = refl;
      sent = ap (λ gs. c.self.inside.links.packets ++ starts_to c.args.id c.args.floor c.args.groups gs) same;
      room = subst (λ gs. length (starts_to c.args.id c.args.floor c.args.groups gs) ≤ c.self.inside.links.room) (sym same) (omega arith);
    }
