use Rattle.std.proofs.Common.{◌≡◌, ◌∙◌, true, length, subst, sym}
use Rattle.std.specs.List.{list_all}
use Rattle.picture.specs.Flights.{Lands, arrival_in, kept_at}
use Rattle.picture.proofs.Landing.{flies}
use Rattle.picture.proofs.Recording.{ran_next}
use Rattle.replay.proofs.Making.{named_all}
use Rattle.replay.specs.Names.{is_named}
use Rattle.replay.specs.Replay.{starved_at}
use Rattle.system.specs.Reads.{packets_of}
use Rattle.picture.proofs.making.make.Goals as goal

pub returns-clause-made : goal.returns-clause-made
returns-clause-made c = λ t most before at ran.
    let old = c.args.system.now in
    let new = c.step-2.new.self in
    let index = c.args.index in
    let step = c.args.step in
    let effect = c.in-Ok.effect in
    let flights = c.args.flights.now in
    let mid = c.land-landed.new.self in
    let landed = c.land-landed.result in
    let kept = c.kept_at-kept.result in
    let named = named_all step effect c.in_ok-named.named.items c.in_ok-named.ensures
    (subst (λ l. list_all (is_named l) (starved_at effect) ≡ true) c.as_slice.ensures.value
    (sym c.are_named.ensures ∙ c.if-not-are_named.false)) in
    let lands = subst (λ a. Lands index a flights mid landed) c.arrival_in-arrival.ensures c.land-landed.ensures in
    let count = subst (λ a. length (kept_at a (packets_of old)) ≡ kept) c.arrival_in-arrival.ensures
    (c.kept_at-kept.ensures (packets_of old) (sym c.packets.ensures)) in
    ran_next t most before old new step effect flights c.send.new.self c.args.recorder.now c.note.new.self c.in_ok-before.before landed
    index
    c.in-Ok.ensures.made named at
    (flies index (arrival_in step) (packets_of old) (packets_of new) flights mid c.send.new.self landed kept lands count
    c.in_ok-send.ensures)
    c.in_ok-before.ensures lands.answer c.in_ok-note.ensures ran
