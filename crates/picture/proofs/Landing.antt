-- What a receipt and a sending make of the packets that are under way.
use Rattle.std.proofs.Common.{◌≡◌, ◌∙◌, ℕ, zero, suc, ◌+◌, ◌<◌, ◌≤◌, not, ◌&&◌, nat_lt}
use Rattle.std.proofs.Common.{Bool, true, false, cond, List, [], ◌∷◌}
use Rattle.std.proofs.Common.{◌++◌, Option, Some, None}
use Rattle.std.proofs.Common.{length, map, drop, slice_get, refl, sym, ap, subst, arith, append_assoc}
use Rattle.std.proofs.Common.{lt-ltb, le-ltb}
use Rattle.std.proofs.lemmas.List.{append-nil, drop_all, length-map, map-append}
use Rattle.std.proofs.lemmas.Option.{slice_get-map}
use Rattle.std.specs.Prelude.{is_none, option_map}
use Rattle.std.specs.List.{AllByRecursion, filter, remove, slice_set}
use Rattle.picture.specs.Flights.{IsFlying, Sends, Lands, Flies, is_up, places_from, coming_in, kept_at}
use Rattle.picture.specs.Flights.{landed_at}
use Rattle.picture.specs.Run.{Flight, AreFlying, IsPast, ReceivedBetween, flies_at, flies_still, flight_in, flight_of}
use Rattle.picture.specs.declared.flights.Flights.{Flights}
use Rattle.picture.proofs.Flying.{IsPlace, place_of, told_same, filter_agree, filter-more, filter-same, places-more}
use Rattle.picture_shapes.specs.declared.facts.PacketFacts.{PacketFacts}
use Rattle.replay.proofs.Places.{drop_at}
use Rattle.skeen_core.specs.declared.packet.Packet.{Packet}
use Rattle.world.specs.World.{World}

-- ---- lists

pub map-remove : {A B : Type 0} (f : A → B) (xs : List A) (k : ℕ) → map f (remove xs k) ≡ remove (map f xs) k
map-remove f [] zero = refl
map-remove f [] (suc k) = refl
map-remove f (x ∷ xs) zero = refl
map-remove f (x ∷ xs) (suc k) = ap (λ l. f x ∷ l) (map-remove f xs k)

pub map-kept : {A B : Type 0} (f : A → B) (arrival : Option ℕ) (xs : List A) → map f (kept_at arrival xs) ≡ kept_at arrival (map f xs)
map-kept f None xs = refl
map-kept f (Some k) xs = map-remove f xs k

pub remove_none : {A : Type 0} (xs : List A) (k : ℕ) → length xs ≤ k → remove xs k ≡ xs
remove_none [] zero far = refl
remove_none [] (suc k) far = refl
remove_none (x ∷ xs) zero far = absurd (omega (arith, far))
remove_none (x ∷ xs) (suc k) far = ap (λ l. x ∷ l) (remove_none xs k (omega (arith, far)))

pub length-places : {A : Type 0} (f : A → Bool) (n : ℕ) (xs : List A) → length (places_from f n xs) ≡ length (filter f xs)
length-places f n [] = refl
length-places f n (x ∷ xs) = elim (f x) as (λ t. length (cond t (n ∷ places_from f (suc n) xs) (places_from f (suc n) xs))
    ≡ length (cond t (x ∷ filter f xs) (filter f xs))) [
      | true ↦ ap suc (length-places f (suc n) xs)
      | false ↦ length-places f (suc n) xs
    ]

pub all_more : {A : Type 0} (P : A → Type 0) (xs : List A) (x : A) → AllByRecursion P xs → P x → AllByRecursion P (xs ++ x ∷ [])
all_more P [] x all is = (is, tt)
all_more P (y ∷ ys) x all is = (all.0, all_more P ys x all.1 is)

pub all_later : {A : Type 0} (P Q : A → Type 0) (xs : List A) → ((z : A) → P z → Q z) → AllByRecursion P xs → AllByRecursion Q xs
all_later P Q [] goes all = tt
all_later P Q (z ∷ zs) goes all = (goes z all.0, all_later P Q zs goes all.1)

pub all_set : {A : Type 0} (P Q : A → Type 0) (xs : List A) (d : ℕ) (x y : A) → ((z : A) → P z → Q z) → slice_get xs d ≡ Some x →
    AllByRecursion P xs → (P x → Q y) → AllByRecursion Q (slice_set xs d y)
all_set P Q [] d x y goes is all new = cc
all_set P Q (z ∷ zs) zero x y goes is all new = let e : z ≡ x = cc in (new (subst P e all.0), all_later P Q zs goes all.1)
all_set P Q (z ∷ zs) (suc d) x y goes is all new = (goes z all.0, all_set P Q zs d x y goes is all.1 new)

-- ---- time

received_later : (o : Option ℕ) (sent n : ℕ) → ReceivedBetween o sent n → ReceivedBetween o sent (suc n)
received_later None sent n is = tt
received_later (Some step) sent n is = (is.0, omega (arith, is.1))

pub past_later : (n : ℕ) (p : PacketFacts) → IsPast n p → IsPast (suc n) p
past_later n p is = (omega (arith, is.0), received_later p.received p.sent n is.1)

still_up : (o : Option ℕ) (sent n : ℕ) → ReceivedBetween o sent n → flies_still o n ≡ is_none o
still_up None sent n is = refl
still_up (Some step) sent n is = ap not (lt-ltb step n is.1)

flies_up : (n : ℕ) (p : PacketFacts) → IsPast n p → flies_at n p ≡ is_up p
flies_up n p is = ap (λ b. b && flies_still p.received n) (lt-ltb p.sent n is.0) ∙ still_up p.received p.sent n is.1

all_up : (n : ℕ) (ps : List PacketFacts) → AllByRecursion (IsPast n) ps → AllByRecursion (λ p. flies_at n p ≡ is_up p) ps
all_up n [] all = tt
all_up n (p ∷ ps) all = (flies_up n p all.0, all_up n ps all.1)

-- where all was sent and received before, those that fly are those that are under way
pub are_flying : (f : Flights) (n : ℕ) (w : World) → IsFlying f (map flight_of w.packets) → AllByRecursion (IsPast n) f.packets.items →
    AreFlying f.packets.items n w
are_flying f n w is all = ap (map flight_in) (filter_agree (flies_at n) is_up f.packets.items (all_up n f.packets.items all)) ∙ is.shown

-- ---- a packet is received

-- before its receipt it flies as before
same_flight : (n i : ℕ) (p : PacketFacts) → is_up p ≡ true → i ≤ n → flies_at i (landed_at n p) ≡ flies_at i p
same_flight n i p up less = ap (λ b. nat_lt p.sent i && b) (not_yet p.received up)
  where
    not_yet : (o : Option ℕ) → is_none o ≡ true → flies_still (Some n) i ≡ flies_still o i
    not_yet None up = ap not (le-ltb n i less)
    not_yet (Some step) up = cc

pub lands_none : (n : ℕ) (old new : Flights) → new.packets.items ≡ old.packets.items → new.under_way.items ≡ old.under_way.items →
    (arrival : Option ℕ) → ((now : List Flight) → IsFlying old now → kept_at arrival now ≡ now) →
    ((now : List Flight) → IsFlying old now → coming_in arrival now ≡ None) → Lands n arrival old new None
lands_none n old new packets under arrival kept none = record {
  answer = λ now is. sym (none now is);
  flying = λ now is. record {
    places = under ∙ is.places ∙ ap (places_from is_up 0) (sym packets);
    shown = ap (λ ps. map flight_in (filter is_up ps)) packets ∙ is.shown ∙ sym (kept now is);
  };
  earlier = λ now is i less. ap (λ ps. map flight_in (filter (flies_at i) ps)) packets;
  past = λ all. subst (λ ps. AllByRecursion (IsPast (suc n)) ps) (sym packets)
      (all_later (IsPast n) (IsPast (suc n)) old.packets.items (past_later n) all);
}

-- the list of the packets under way has as many as there are
pub count_of : (f : Flights) (now : List Flight) → IsFlying f now → length f.under_way.items ≡ length now
count_of f now is = ap (λ (l : List ℕ). length l) is.places ∙ length-places is_up 0 f.packets.items
    ∙ sym (length-map (filter is_up f.packets.items) flight_in) ∙ ap (λ (l : List Flight). length l) is.shown

module _ (n k j : ℕ) (old new : Flights) (packet : PacketFacts) (there : slice_get old.under_way.items k ≡ Some j)
    (under : new.under_way.items ≡ remove old.under_way.items k) (is_packet : slice_get old.packets.items j ≡ Some packet)
    (packets : new.packets.items ≡ slice_set old.packets.items j (landed_at n packet)) where
  place : (now : List Flight) → IsFlying old now → IsPlace is_up 0 old.packets.items (filter is_up old.packets.items)
      (places_from is_up 0 old.packets.items) k j
  place now is = place_of is_up 0 old.packets.items k j (subst (λ l. slice_get l k ≡ Some j) is.places there)

  some_same : {A : Type 0} (x y : A) → Some x ≡ Some y → x ≡ y
  some_same x y is = cc

  same : (now : List Flight) (is : IsFlying old now) → (place now is).x ≡ packet
  same now is =
      let p = place now is in
      let at : j ≡ p.d = (let a = p.at in omega arith) in
      some_same p.x packet (sym p.there ∙ sym (ap (slice_get old.packets.items) at) ∙ is_packet)

  up : (now : List Flight) → IsFlying old now → is_up packet ≡ true
  up now is = subst (λ x. is_up x ≡ true) (same now is) (place now is).passes

  pub lands_at : Lands n (Some k) old new (Some (landed_at n packet))
  lands_at = record {
    answer = λ now is.
        sym
        (ap (λ l. slice_get l k) (sym is.shown) ∙ slice_get-map flight_in (filter is_up old.packets.items) k
        ∙ ap (option_map flight_in) (place now is).kept ∙ ap (λ x. Some (flight_in x)) (same now is));
    flying = λ now is.
        let p = place now is in
        let at : j ≡ p.d = (let a = p.at in omega arith) in
        let put : new.packets.items ≡ slice_set old.packets.items p.d (landed_at n packet) =
        packets ∙ ap (λ d. slice_set old.packets.items d (landed_at n packet)) at in
        record {
          places = under ∙ ap (λ l. remove l k) is.places ∙ sym (p.others (landed_at n packet) refl) ∙ ap (places_from is_up 0) (sym put);
          shown = ap (λ ps. map flight_in (filter is_up ps)) put ∙ ap (map flight_in) (p.without (landed_at n packet) refl)
              ∙ map-remove flight_in (filter is_up old.packets.items) k ∙ ap (λ l. remove l k) is.shown;
        };
    earlier = λ now is i less.
        ap (λ ps. map flight_in (filter (flies_at i) ps)) packets
        ∙ told_same (flies_at i) flight_in old.packets.items j packet (landed_at n packet) is_packet
        (same_flight n i packet (up now is) less) refl;
    past = λ all. subst (λ ps. AllByRecursion (IsPast (suc n)) ps) (sym packets)
        (all_set (IsPast n) (IsPast (suc n)) old.packets.items j packet (landed_at n packet) (past_later n) is_packet all
        (λ is. (omega (arith, is.0), (is.0, omega arith))));
  }

-- a place of no packet is none of those under way
pub lands_never : (n k j : ℕ) (old new : Flights) → slice_get old.under_way.items k ≡ Some j → slice_get old.packets.items j ≡ None →
    new.packets.items ≡ old.packets.items → Lands n (Some k) old new None
lands_never n k j old new there none packets = record {
  answer = λ now is. absurd (never now is);
  flying = λ now is. absurd (never now is);
  earlier = λ now is. absurd (never now is);
  past = λ all. subst (λ ps. AllByRecursion (IsPast (suc n)) ps) (sym packets)
      (all_later (IsPast n) (IsPast (suc n)) old.packets.items (past_later n) all);
}
  where
    never : (now : List Flight) → IsFlying old now → ⊥
    never now is =
        let p = place_of is_up 0 old.packets.items k j (subst (λ l. slice_get l k ≡ Some j) is.places there) in
        let at : j ≡ p.d = (let a = p.at in omega arith) in
        let both : Some p.x ≡ None = sym p.there ∙ sym (ap (slice_get old.packets.items) at) ∙ none in cc

-- ---- a packet is sent

pub sends_one : (n : ℕ) (p : PacketFacts) (old new : Flights) → p.sent ≡ n → p.received ≡ None →
    new.packets.items ≡ old.packets.items ++ p ∷ [] → new.under_way.items ≡ old.under_way.items ++ length old.packets.items ∷ [] →
    Sends n old (flight_in p ∷ []) new
sends_one n p old new at none packets under = record {
  flying = λ now is. record {
    places = under ∙ ap (λ l. l ++ length old.packets.items ∷ []) is.places
        ∙ ap (λ k. places_from is_up 0 old.packets.items ++ k ∷ [])
        (let e : length old.packets.items ≡ 0 + length old.packets.items = omega arith in e)
        ∙ sym (places-more is_up 0 old.packets.items p (ap is_none none)) ∙ ap (places_from is_up 0) (sym packets);
    shown = ap (λ ps. map flight_in (filter is_up ps)) packets
        ∙ ap (map flight_in) (filter-more is_up old.packets.items p (ap is_none none))
        ∙ map-append flight_in (filter is_up old.packets.items) (p ∷ []) ∙ ap (λ l. l ++ flight_in p ∷ []) is.shown;
  };
  earlier = λ i less. ap (λ ps. map flight_in (filter (flies_at i) ps)) packets
      ∙ ap (map flight_in) (filter-same (flies_at i) old.packets.items p
      (ap (λ b. b && flies_still p.received i) (ap (λ k. nat_lt k i) at ∙ le-ltb n i less)));
  past = λ all. subst (λ ps. AllByRecursion (IsPast (suc n)) ps) (sym packets)
      (all_more (IsPast (suc n)) old.packets.items p all
      (subst (λ k. k < suc n) (sym at) (omega arith), subst (λ o. ReceivedBetween o p.sent (suc n)) (sym none) tt));
}

pub sends_none : (n : ℕ) (f : Flights) → Sends n f [] f
sends_none n f = record {
  flying = λ now is. subst (IsFlying f) (sym (append-nil now)) is;
  earlier = λ i less. refl;
  past = λ all. all;
}

pub sends_on : (n : ℕ) (old mid new : Flights) (xs ys : List Flight) → Sends n old xs mid → Sends n mid ys new → Sends n old (xs ++ ys) new
sends_on n old mid new xs ys one two = record {
  flying = λ now is. subst (IsFlying new) (append_assoc now xs ys) (two.flying (now ++ xs) (one.flying now is));
  earlier = λ i less. two.earlier i less ∙ one.earlier i less;
  past = λ all. two.past (one.past all);
}

-- ---- a step

pub flies : (n : ℕ) (arrival : Option ℕ) (before after : List Packet) (old mid new : Flights) (landed : Option PacketFacts) (kept : ℕ) →
    Lands n arrival old mid landed → length (kept_at arrival before) ≡ kept → Sends n mid (map flight_of (drop kept after)) new →
    Flies n arrival before after old new
flies n arrival before after old mid new landed kept lands count sends = record {
  flying = λ is. subst (λ k. IsFlying new (kept_at arrival (map flight_of before) ++ map flight_of (drop k after))) (sym count)
      (sends.flying (kept_at arrival (map flight_of before)) (lands.flying (map flight_of before) is));
  earlier = λ is i less. sends.earlier i less ∙ lands.earlier (map flight_of before) is i less;
  past = λ all. sends.past (lands.past all);
}

-- ---- a list from a place on

-- what was sent so far, and what is left, are all from a place on
abbrev pub SendsSo : ℕ → ℕ → ℕ → List Packet → Flights → Flights → Type 0
SendsSo n from place ps old new =
    (sent : List Flight) × Sends n old sent new × (map flight_of (drop from ps) ≡ sent ++ map flight_of (drop place ps))

pub sends_begin : (n from : ℕ) (ps : List Packet) (f : Flights) → SendsSo n from from ps f f
sends_begin n from ps f = ([], sends_none n f, refl)

pub sends_more : (n from place : ℕ) (ps : List Packet) (p : Packet) (old mid new : Flights) → slice_get ps place ≡ Some p →
    SendsSo n from place ps old mid → Sends n mid (flight_of p ∷ []) new → SendsSo n from (place + 1) ps old new
sends_more n from place ps p old mid new there so one =
    let next : suc place ≡ place + 1 = omega arith in (
      so.0 ++ flight_of p ∷ [],
      sends_on n old mid new so.0 (flight_of p ∷ []) so.1 one,
      so.2 ∙ ap (λ l. so.0 ++ map flight_of l) (drop_at ps place p there)
          ∙ sym (append_assoc so.0 (flight_of p ∷ []) (map flight_of (drop (suc place) ps)))
          ∙ ap (λ k. (so.0 ++ flight_of p ∷ []) ++ map flight_of (drop k ps)) next,
    )

pub sends_end : (n from place : ℕ) (ps : List Packet) (old new : Flights) → length ps ≤ place → SendsSo n from place ps old new →
    Sends n old (map flight_of (drop from ps)) new
sends_end n from place ps old new far so =
    subst (λ l. Sends n old l new)
    (sym (so.2 ∙ ap (λ l. so.0 ++ map flight_of l) (drop_all place ps far) ∙ append-nil so.0)) so.1
