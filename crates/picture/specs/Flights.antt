-- Which packets of a list are under way, and how the list goes on.
use Rattle.std.specs.Prelude.{◌≡◌, ℕ, suc, ◌≤◌, cond, Bool, List, [], ◌∷◌, ◌++◌, length, map, drop, remove, Option, None, Some}
use Rattle.std.specs.Prelude.{is_none, option_map, slice_get}
use Rattle.std.specs.List.{AllByRecursion, filter}
use Rattle.journal.specs.declared.step.Step.{Step}
use Rattle.journal.specs.declared.step.Step.TheVariants.{Deliver}
use Rattle.picture.specs.Run.{Flight, IsPast, flies_at, flight_in, flight_of}
use Rattle.picture.specs.declared.flights.Flights.{Flights}
use Rattle.picture_shapes.specs.declared.facts.PacketFacts.{PacketFacts}
use Rattle.skeen_core.specs.declared.packet.Packet.{Packet}

abbrev pub is_up : PacketFacts → Bool
is_up p = is_none p.received

-- the places of those that pass, counted on from the first
abbrev pub places_from : {A : Type 0} → (A → Bool) → ℕ → List A → List ℕ
places_from f n [] = []
places_from f n (x ∷ xs) = cond (f x) (n ∷ places_from f (suc n) xs) (places_from f (suc n) xs)

-- the same, received at this step
abbrev pub landed_at : ℕ → PacketFacts → PacketFacts
landed_at step p = record p { received = Some step }

-- these are under way
pub record IsFlying (f : Flights) (now : List Flight) : Type 0 where
  pub places : f.under_way.items ≡ places_from is_up 0 f.packets.items
  pub shown : map flight_in (filter is_up f.packets.items) ≡ now

-- what was under way when so many steps were made, or fewer, is the same in both
abbrev pub Continues : ℕ → Flights → Flights → Type 0
Continues n old new =
    (i : ℕ) → i ≤ n → map flight_in (filter (flies_at i) new.packets.items) ≡ map flight_in (filter (flies_at i) old.packets.items)

-- at the step behind so many, more are sent
pub record Sends (n : ℕ) (old : Flights) (more : List Flight) (new : Flights) : Type 0 where
  pub flying : (now : List Flight) → IsFlying old now → IsFlying new (now ++ more)
  pub earlier : Continues n old new
  pub past : AllByRecursion (IsPast (suc n)) old.packets.items → AllByRecursion (IsPast (suc n)) new.packets.items

-- ---- a step

-- the place of the packet that it brings to its group
abbrev pub arrival_in : Step → Option ℕ
arrival_in (Deliver k) = Some k
arrival_in step = None

-- what is left of these where the one at this place arrives
abbrev pub kept_at : {A : Type 0} → Option ℕ → List A → List A
kept_at None ps = ps
kept_at (Some k) ps = remove ps k

-- what stands at this place of these, if one is told
abbrev pub coming_in : {A : Type 0} → Option ℕ → List A → Option A
coming_in None ps = None
coming_in (Some k) ps = slice_get ps k

-- at the step behind so many, the one at this place of those under way is received, which is this packet
pub record Lands (n : ℕ) (arrival : Option ℕ) (old : Flights) (new : Flights) (landed : Option PacketFacts) : Type 0 where
  pub answer : (now : List Flight) → IsFlying old now → option_map flight_in landed ≡ coming_in arrival now
  pub flying : (now : List Flight) → IsFlying old now → IsFlying new (kept_at arrival now)
  pub earlier : (now : List Flight) → IsFlying old now → Continues n old new
  pub past : AllByRecursion (IsPast n) old.packets.items → AllByRecursion (IsPast (suc n)) new.packets.items

-- the step behind so many brings the packet at this place, if one, of those before, and these are under way after it: what
-- stands behind those that are left is sent
pub record Flies (n : ℕ) (arrival : Option ℕ) (before after : List Packet) (old new : Flights) : Type 0 where
  pub flying : IsFlying old (map flight_of before) →
      IsFlying new (kept_at arrival (map flight_of before) ++ map flight_of (drop (length (kept_at arrival before)) after))
  pub earlier : IsFlying old (map flight_of before) → Continues n old new
  pub past : AllByRecursion (IsPast n) old.packets.items → AllByRecursion (IsPast (suc n)) new.packets.items
