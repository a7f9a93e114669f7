use Rattle.std.proofs.Common.{◌≡◌, ◌∙◌, ◌++◌, None, ap, refl, subst, [], ◌∷◌}
use Rattle.picture.specs.Flights.{Sends}
use Rattle.picture.specs.Run.{Flight, flight_in, flight_of}
use Rattle.picture.specs.declared.flights.Flights.{Flights}
use Rattle.picture_shapes.specs.declared.facts.PacketFacts.{PacketFacts}
use Rattle.picture.proofs.Landing.{sends_one}
use Rattle.picture.proofs.flights.Flights.push.Goals as goal

pub returns : goal.returns
returns c =
    let old : Flights = c.args.self.now in
    let new : Flights = record { packets = c.push.new.self; under_way = c.push_back.new.self } in
    let packet : PacketFacts = record {
      asked = c.asked.result;
      from = c.carried_by-from.result.0;
      to = c.args.packet.now.to;
      clock = c.carried_by-from.result.1;
      sent = c.args.step;
      received = None;
    } in
    let flight = flight_of c.args.packet.now in
    let told : flight_in packet ≡ flight =
    ap (λ f. record { from = f; clock = packet.clock; to = packet.to; id = packet.asked.id }) c.carried_by-from.ensures.from
    ∙ ap (λ k. record { from = flight.from; clock = k; to = packet.to; id = packet.asked.id }) c.carried_by-from.ensures.clock
    ∙ ap (λ i. record { from = flight.from; clock = flight.clock; to = packet.to; id = i }) c.asked.ensures in
    subst (λ (f : Flight). Sends c.args.step old (f ∷ []) new) told
    (sends_one c.args.step packet old new refl refl c.in_ok-push.ensures.items
    (c.in_ok-push_back.ensures.items ∙ ap (λ k. old.under_way.items ++ k ∷ []) (c.len-number.ensures ∙ old.packets.ok.0)))
