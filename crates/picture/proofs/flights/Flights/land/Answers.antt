use Rattle.std.proofs.Common.{◌≡◌, ◌<◌, ◌≤◌, None, Some, ap, sym, subst, refl, arith, length, slice_get}
use Rattle.std.proofs.Common.{ltb-true, ltb-false}
use Rattle.std.proofs.lemmas.Option.{slice_get_past, slice_get_read}
use Rattle.picture.specs.Flights.{IsFlying, Lands}
use Rattle.picture.specs.declared.flights.Flights.{Flights}
use Rattle.std.specs.List.{slice_set}
use Rattle.std.specs.Vec.{with_item}
use Rattle.picture.proofs.Landing.{count_of, lands_at, lands_never, lands_none, remove_none}
use Rattle.picture.proofs.flights.Flights.land.Goals as goal

pub returns-in_err-number : goal.returns-in_err-number
returns-in_err-number c =
    let old : Flights = c.args.self.now in
    let new : Flights = record { packets = old.packets; under_way = c.remove.new.self } in
    let place = c.in_ok-place.place in
    let ok = old.under_way.ok in
    let none : ¬ (place < old.under_way.len) = (λ less. let e = c.in_err-number.ensures.variant.1 less in cc) in
    let far : (now : _) → IsFlying old now → length now ≤ place =
    (λ now is. let count = count_of old now is in omega (arith, none, ok.0, count)) in
    rw c.from_residual-in_err-number.ensures
    (subst (λ a. Lands c.args.step a old new None) (sym c.in_ok-place.was)
    (lands_none c.args.step old new refl (ap (λ q. q.items) c.in_err-number.ensures.unchanged) (Some place)
    (λ now is. remove_none now place (far now is)) (λ now is. slice_get_past now place (far now is))))

pub returns-in_err-get : goal.returns-in_err-get
returns-in_err-get c =
    let old : Flights = c.args.self.now in
    let new : Flights = record { packets = old.packets; under_way = c.remove.new.self } in
    let number = c.in_ok-number.number in
    let there : slice_get old.under_way.items c.in_ok-place.place ≡ Some number =
    slice_get_read old.under_way.items old.under_way.len c.in_ok-place.place number old.under_way.ok.0
    (c.in_ok-number.ensures.variant.0 refl) c.in_ok-number.ensures.value in
    let past : length c.deref.result.now ≤ number = ltb-false number (length c.deref.result.now) (sym c.in_err-get.ensures.lookup.0) in
    let none : slice_get old.packets.items number ≡ None =
    subst (λ l. slice_get l number ≡ None) c.deref.ensures.value (slice_get_past c.deref.result.now number past) in
    rw c.from_residual-in_err-get.ensures
    (subst (λ a. Lands c.args.step a old new None) (sym c.in_ok-place.was)
    (lands_never c.args.step c.in_ok-place.place number old new there none refl))

pub returns : goal.returns
returns c =
    let old : Flights = c.args.self.now in
    let number = c.in_ok-number.number in
    let new : Flights = record { packets = with_item old.packets number c.landed-landed.result; under_way = c.remove.new.self } in
    let there : slice_get old.under_way.items c.in_ok-place.place ≡ Some number =
    slice_get_read old.under_way.items old.under_way.len c.in_ok-place.place number old.under_way.ok.0
    (c.in_ok-number.ensures.variant.0 refl) c.in_ok-number.ensures.value in
    let less : number < length c.deref.result.now = ltb-true number (length c.deref.result.now) (sym c.in_ok-get.ensures.lookup.0) in
    let is_packet : slice_get old.packets.items number ≡ Some c.in_ok-get.field-0.now =
    subst (λ l. slice_get l number ≡ Some c.in_ok-get.field-0.now) c.deref.ensures.value
    (slice_get_read c.deref.result.now (length c.deref.result.now) number c.in_ok-get.field-0.now refl less c.in_ok-get.ensures.lookup.1) in
    subst (λ a. Lands c.args.step a old new (Some c.landed-landed.result)) (sym c.in_ok-place.was)
    (subst (λ p. Lands c.args.step (Some c.in_ok-place.place) old new (Some p)) (sym c.landed-landed.ensures)
    (lands_at c.args.step c.in_ok-place.place number old new c.in_ok-get.field-0.now there c.in_ok-number.ensures.items is_packet
    (ap (slice_set old.packets.items number) c.landed-landed.ensures)))
