use Rattle.std.proofs.Common.{◌≡◌}
use Rattle.picture.specs.Arrivals.{delivery_in, delivery_of}
use Rattle.picture.proofs.Putting.{pushed}
use Rattle.picture_shapes.specs.declared.facts.DeliveryFacts.{DeliveryFacts}
use Rattle.picture.proofs.arrivals.Arrivals.push.Goals as goal

pub returns-clause-deliveries : goal.returns-clause-deliveries
returns-clause-deliveries c =
    let request = c.args.request.now in
    let delivery : DeliveryFacts = record {
      step = c.args.step;
      group = c.args.group;
      asked = c.asked.result;
      stamp = request.stamp;
      place = c.args.places.0;
      last = c.args.places.1;
    } in
    let same : delivery_in delivery ≡ delivery_of c.args.step c.args.group request =
    λ i. record { step = c.args.step; group = c.args.group; id = c.asked.ensures i; stamp = request.stamp } in
    pushed delivery_in c.args.self.now.deliveries.items c.push.new.self.items delivery
    (delivery_of c.args.step c.args.group request) c.in_ok-push.ensures.items same
