-- The packets of a request that is alone at its groups: its Starts come, then their proposals, and with the last one that comes to it
-- each group delivers the request.
use Rattle.std.proofs.Common.{◌≡◌, ℕ, zero, suc, ◌+◌, ◌*◌, ◌<◌, ◌==◌, ◌&&◌, ◌||◌, Bool, true, false, cond, List, [], ◌∷◌, ◌++◌, length, map}
use Rattle.std.proofs.Common.{remove, slice_get, slice_set, Option, Some, None, refl, sym, ap, ◌∙◌, subst, arith, inl, inr, append_assoc, append-nil}
use Rattle.std.proofs.Common.{length-append, eq-eqb, eqb-true, ne_eqb}
use Rattle.std.proofs.lemmas.Bool.{both_ways, cases_Bool, or_cases, and_from, and_left, and_right, and_parts, or_parts, or_from, or_left, or_right}
use Rattle.std.proofs.Math.Nat.{mul-suc}
use Rattle.std.proofs.lemmas.List.{map-append}
use Rattle.delivery.specs.Queues.{queue_of}
use Rattle.groups.proofs.Options.{some_same}
use Rattle.groups.proofs.Stamps.{clocks_le, final_above}
use Rattle.groups.specs.GroupSet.{has, IsAscending}
use Rattle.groups.specs.declared.request.RequestId.{RequestId}
use Rattle.groups.specs.declared.stamp.Stamp.{Stamp}
use Rattle.multicast.proofs.Groups.{group_of-set, count-set, length-set}
use Rattle.multicast.proofs.Queues.{queue_of-set}
use Rattle.multicast.specs.Multicast.{MulticastView, group_of, starts_to, Delivers, Arrives, packets_of, IsAlone}
use Rattle.skeen_core.proofs.Alone.{Has, more, final_open, final_among, start_waits, hear_waits, hear_goes}
use Rattle.skeen_core.specs.Group.{GroupState, GroupView, next_clock, tell, Receives}
use Rattle.skeen_core.specs.Offers.{settled}
use Rattle.skeen_core.specs.declared.packet.Body.TheVariants.{Start, Proposal}
use Rattle.skeen_core.specs.declared.packet.Delivered.{Delivered}
use Rattle.skeen_core.specs.declared.packet.Packet.{Packet}

-- ---- packets that come one after another

pub arrives_then : (m n k : ℕ) (a b c : MulticastView) → k ≡ m + n → Arrives m a b → Arrives n b c → Arrives k a c
arrives_then zero n k a b c sum none rest =
    let same : n ≡ k = omega (arith, sum) in subst (λ j. Arrives j a c) same (subst (λ x. Arrives n x c) none rest)
arrives_then (suc m) n k a b c sum (mid, first, others) rest =
    let next : suc (m + n) ≡ k = omega (arith, sum) in
    subst (λ j. Arrives j a c) next (mid, first, arrives_then m n (m + n) mid b c refl others rest)

-- how the groups lie in the last list is of no account
pub arrives_as : (n : ℕ) (a b c : MulticastView) → 0 < n → Arrives n a b → ((h : ℕ) → group_of c.groups h ≡ group_of b.groups h)
    → c.packets ≡ b.packets → c.queues ≡ b.queues → length c.groups ≡ length b.groups → Arrives n a c
arrives_as zero a b c some none groups packets queues count = absurd (omega arith)
arrives_as (suc zero) a b c some (mid, d, end) groups packets queues count = (
  c,
  record {
    packet = d.packet;
    sent = d.sent;
    delivered = d.delivered;
    state = d.state;
    there = d.there;
    receives = d.receives;
    packets = packets ∙ ap (λ (m : MulticastView). m.packets) end ∙ d.packets;
    group = λ g. groups g ∙ ap (λ (m : MulticastView). group_of m.groups g) end ∙ d.group g;
    queue = λ g. ap (λ qs. queue_of qs g) (queues ∙ ap (λ (m : MulticastView). m.queues) end) ∙ d.queue g;
    count = count ∙ ap (λ (m : MulticastView). length m.groups) end ∙ d.count;
  },
  refl,
)
arrives_as (suc (suc n)) a b c some (mid, d, rest) groups packets queues count =
    (mid, d, arrives_as (suc n) mid b c (omega arith) rest groups packets queues count)

-- ---- who tells whom: the first of a pair tells the second

abbrev pub Pairs : Type 0
Pairs = List (ℕ × ℕ)

abbrev pub is_from : Pairs → ℕ → ℕ → Bool
is_from [] f h = false
is_from (p ∷ ps) f h = (p.0 == f && p.1 == h) || is_from ps f h

abbrev pub is_to : Pairs → ℕ → Bool
is_to [] h = false
is_to (p ∷ ps) h = p.1 == h || is_to ps h

-- both are of these groups, and each pair is there once
abbrev Between : List ℕ → Pairs → Type 0
Between gs [] = Unit {0}
Between gs (p ∷ ps) = (has gs p.0 ≡ true) × (has gs p.1 ≡ true) × (is_from ps p.0 p.1 ≡ false) × Between gs ps

-- g tells each other one
abbrev pairs_from : ℕ → List ℕ → Pairs
pairs_from g [] = []
pairs_from g (x ∷ xs) = cond (x == g) (pairs_from g xs) ((g, x) ∷ pairs_from g xs)

-- and so does each of these
abbrev all_from : List ℕ → List ℕ → Pairs
all_from gs [] = []
all_from gs (g ∷ xs) = pairs_from g gs ++ all_from gs xs

differ : (a b : ℕ) → (a == b) ≡ false → (b == a) ≡ false
differ a b e = ne_eqb b a (λ same. both_ways _ e (eq-eqb a b (sym same)))

pub not_there : (g : ℕ) (gs : List ℕ) → IsAscending (g ∷ gs) → has gs g ≡ false
not_there g gs rise = elim (cases_Bool (has gs g)) [
  | inl there ↦ absurd (let below = rise.0 g there in omega arith)
  | inr not ↦ not
]

none_from : (ps : Pairs) (f h : ℕ) → is_to ps h ≡ false → is_from ps f h ≡ false
none_from [] f h none = refl
none_from (p ∷ ps) f h none =
    let parts = or_parts (p.1 == h) (is_to ps h) none in
    or_from _ _ (and_right (p.0 == f) (p.1 == h) parts.0) (none_from ps f h parts.1)

some_from : (gs : List ℕ) (ps : Pairs) (h : ℕ) → Between gs ps → is_to ps h ≡ true →
    (g : ℕ) × (has gs g ≡ true) × (is_from ps g h ≡ true)
some_from gs [] h between some = absurd (both_ways _ refl some)
some_from gs (p ∷ ps) h between some = elim (or_cases (p.1 == h) (is_to ps h) some) [
  | inl here ↦ (p.0, between.0, or_left _ _ (and_from (p.0 == p.0) (p.1 == h) (eq-eqb p.0 p.0 refl) here))
  | inr rest ↦ let r = some_from gs ps h between.3 rest in (r.0, r.1, or_right (p.0 == r.0 && p.1 == h) _ r.2)
]

from_to : (ps : Pairs) (f h : ℕ) → is_from ps f h ≡ true → is_to ps h ≡ true
from_to [] f h some = some
from_to (p ∷ ps) f h some = elim (or_cases (p.0 == f && p.1 == h) (is_from ps f h) some) [
  | inl here ↦ or_left _ _ ((and_parts (p.0 == f) (p.1 == h) here).1)
  | inr rest ↦ or_right (p.1 == h) _ (from_to ps f h rest)
]

append_none : (a b : Pairs) (f h : ℕ) → is_from a f h ≡ false → is_from b f h ≡ false → is_from (a ++ b) f h ≡ false
append_none [] b f h none rest = rest
append_none (p ∷ a) b f h none rest =
    let parts = or_parts (p.0 == f && p.1 == h) (is_from a f h) none in
    or_from _ _ parts.0 (append_none a b f h parts.1 rest)

append_first : (a b : Pairs) (f h : ℕ) → is_from a f h ≡ true → is_from (a ++ b) f h ≡ true
append_first [] b f h some = absurd (both_ways _ refl some)
append_first (p ∷ a) b f h some = elim (or_cases (p.0 == f && p.1 == h) (is_from a f h) some) [
  | inl here ↦ or_left _ _ here
  | inr rest ↦ or_right (p.0 == f && p.1 == h) _ (append_first a b f h rest)
]

append_second : (a b : Pairs) (f h : ℕ) → is_from b f h ≡ true → is_from (a ++ b) f h ≡ true
append_second [] b f h some = some
append_second (p ∷ a) b f h some = or_right (p.0 == f && p.1 == h) _ (append_second a b f h some)

-- ---- the pairs of one group

pairs_of_another : (g : ℕ) (xs : List ℕ) (f h : ℕ) → (g == f) ≡ false → is_from (pairs_from g xs) f h ≡ false
pairs_of_another g [] f h other = refl
pairs_of_another g (x ∷ xs) f h other =
    elim (x == g) as (λ b. is_from (cond b (pairs_from g xs) ((g, x) ∷ pairs_from g xs)) f h ≡ false) [
      | true ↦ pairs_of_another g xs f h other
      | false ↦ or_from _ _ (and_left (g == f) (x == h) other) (pairs_of_another g xs f h other)
    ]

pairs_not_to_itself : (g : ℕ) (xs : List ℕ) (f : ℕ) → is_from (pairs_from g xs) f g ≡ false
pairs_not_to_itself g [] f = refl
pairs_not_to_itself g (x ∷ xs) f =
    elim (x == g) as (λ b. (x == g) ≡ b → is_from (cond b (pairs_from g xs) ((g, x) ∷ pairs_from g xs)) f g ≡ false) [
      | true ↦ λ e. pairs_not_to_itself g xs f
      | false ↦ λ e. or_from _ _ (and_right (g == f) (x == g) e) (pairs_not_to_itself g xs f)
    ] refl

pairs_to_absent : (g : ℕ) (xs : List ℕ) (f h : ℕ) → has xs h ≡ false → is_from (pairs_from g xs) f h ≡ false
pairs_to_absent g [] f h none = refl
pairs_to_absent g (x ∷ xs) f h none =
    let parts = or_parts (x == h) (has xs h) none in
    elim (x == g) as (λ b. is_from (cond b (pairs_from g xs) ((g, x) ∷ pairs_from g xs)) f h ≡ false) [
      | true ↦ pairs_to_absent g xs f h parts.1
      | false ↦ or_from _ _ (and_right (g == f) (x == h) parts.0) (pairs_to_absent g xs f h parts.1)
    ]

pairs_to_each : (g : ℕ) (xs : List ℕ) (h : ℕ) → has xs h ≡ true → (h == g) ≡ false → is_from (pairs_from g xs) g h ≡ true
pairs_to_each g [] h there other = there
pairs_to_each g (x ∷ xs) h there other =
    elim (x == g) as (λ b. (x == g) ≡ b → is_from (cond b (pairs_from g xs) ((g, x) ∷ pairs_from g xs)) g h ≡ true) [
      | true ↦ λ e. elim (or_cases (x == h) (has xs h) there) [
        | inl here ↦ absurd (both_ways _ other (subst (λ k. (k == g) ≡ true) (eqb-true x h here) e))
        | inr rest ↦ pairs_to_each g xs h rest other
      ]
      | false ↦ λ e. elim (or_cases (x == h) (has xs h) there) [
        | inl here ↦ or_left _ _ (and_from (g == g) (x == h) (eq-eqb g g refl) here)
        | inr rest ↦ or_right (g == g && x == h) _ (pairs_to_each g xs h rest other)
      ]
    ] refl

pairs_count : (g : ℕ) (xs : List ℕ) → IsAscending xs → length (pairs_from g xs) + cond {A = ℕ} (has xs g) 1 0 ≡ length xs
pairs_count g [] rise = refl
pairs_count g (x ∷ xs) rise =
    let rest = pairs_count g xs rise.1 in
    elim (x == g) as (λ b. (x == g) ≡ b
    → length (cond b (pairs_from g xs) ((g, x) ∷ pairs_from g xs)) + cond {A = ℕ} (b || has xs g) 1 0 ≡ suc (length xs)) [
      | true ↦ λ e.
          let none : has xs g ≡ false = subst (λ k. has xs k ≡ false) (eqb-true x g e) (not_there x xs rise) in
          let less : length (pairs_from g xs) + 0 ≡ length xs =
          ap (λ b. length (pairs_from g xs) + cond {A = ℕ} b 1 0) (sym none) ∙ rest in
          omega (arith, less)
      | false ↦ λ e. omega (arith, rest)
    ] refl

-- ---- all pairs of these groups

all_of_another : (gs xs : List ℕ) (f h : ℕ) → has xs f ≡ false → is_from (all_from gs xs) f h ≡ false
all_of_another gs [] f h none = refl
all_of_another gs (g ∷ xs) f h none =
    let parts = or_parts (g == f) (has xs f) none in
    append_none (pairs_from g gs) (all_from gs xs) f h (pairs_of_another g gs f h parts.0) (all_of_another gs xs f h parts.1)

all_not_to_itself : (gs xs : List ℕ) (f : ℕ) → is_from (all_from gs xs) f f ≡ false
all_not_to_itself gs [] f = refl
all_not_to_itself gs (g ∷ xs) f = append_none (pairs_from g gs) (all_from gs xs) f f (elim (cases_Bool (g == f)) [
  | inl same ↦ subst (λ k. is_from (pairs_from g gs) f k ≡ false) (eqb-true g f same) (pairs_not_to_itself g gs f)
  | inr other ↦ pairs_of_another g gs f f other
]) (all_not_to_itself gs xs f)

all_to_each : (gs xs : List ℕ) (f h : ℕ) → has xs f ≡ true → has gs h ≡ true → (h == f) ≡ false → is_from (all_from gs xs) f h ≡ true
all_to_each gs [] f h there member other = there
all_to_each gs (g ∷ xs) f h there member other = elim (or_cases (g == f) (has xs f) there) [
  | inl here ↦ append_first (pairs_from g gs) (all_from gs xs) f h
      (subst (λ k. (h == k) ≡ false → is_from (pairs_from g gs) k h ≡ true) (eqb-true g f here) (pairs_to_each g gs h member) other)
  | inr rest ↦ append_second (pairs_from g gs) (all_from gs xs) f h (all_to_each gs xs f h rest member other)
]

between_pairs : (gs : List ℕ) (g : ℕ) (xs : List ℕ) (rest : Pairs) → has gs g ≡ true → ((x : ℕ) → has xs x ≡ true → has gs x ≡ true)
    → IsAscending xs → Between gs rest → ((h : ℕ) → is_from rest g h ≡ false) → Between gs (pairs_from g xs ++ rest)
between_pairs gs g [] rest member within rise between none = between
between_pairs gs g (x ∷ xs) rest member within rise between none =
    let more = between_pairs gs g xs rest member (λ y there. within y (or_right (x == y) _ there)) rise.1 between none in
    elim (x == g) as (λ b. Between gs (cond b (pairs_from g xs) ((g, x) ∷ pairs_from g xs) ++ rest)) [
      | true ↦ more
      | false ↦ (
        member,
        within x (or_left _ _ (eq-eqb x x refl)),
        append_none (pairs_from g xs) rest g x (pairs_to_absent g xs g x (not_there x xs rise)) (none x),
        more,
      )
    ]

between_all : (gs xs : List ℕ) → IsAscending gs → ((x : ℕ) → has xs x ≡ true → has gs x ≡ true) → IsAscending xs
    → Between gs (all_from gs xs)
between_all gs [] whole within rise = tt
between_all gs (g ∷ xs) whole within rise =
    between_pairs gs g gs (all_from gs xs) (within g (or_left _ _ (eq-eqb g g refl))) (λ x there. there) whole
    (between_all gs xs whole (λ y there. within y (or_right (g == y) _ there)) rise.1)
    (λ h. all_of_another gs xs g h (not_there g xs rise))

all_count : (gs xs : List ℕ) → IsAscending gs → ((x : ℕ) → has xs x ≡ true → has gs x ≡ true)
    → length (all_from gs xs) + length xs ≡ length gs * length xs
all_count gs [] whole within = omega arith
all_count gs (g ∷ xs) whole within =
    let rest = all_count gs xs whole (λ y there. within y (or_right (g == y) _ there)) in
    let one : length (pairs_from g gs) + 1 ≡ length gs =
    ap (λ b. length (pairs_from g gs) + cond {A = ℕ} b 1 0) (sym (within g (or_left _ _ (eq-eqb g g refl)))) ∙ pairs_count g gs whole in
    omega (arith, rest, one, length-append (pairs_from g gs) (all_from gs xs), mul-suc (length gs) (length xs))

-- ---- the packets that they are

abbrev pub offered : List GroupView → ℕ → ℕ → ℕ
offered gs0 floor g = next_clock (group_of gs0 g) floor

abbrev pub told : List GroupView → RequestId → ℕ → ℕ × ℕ → Packet
told gs0 id floor p = record { to = p.1; id = id; body = Proposal p.0 (offered gs0 floor p.0) }

tells : (gs0 : List GroupView) (id : RequestId) (floor g : ℕ) (xs : List ℕ)
    → tell g id (offered gs0 floor g) xs ≡ map (told gs0 id floor) (pairs_from g xs)
tells gs0 id floor g [] = refl
tells gs0 id floor g (x ∷ xs) =
    let rest = tells gs0 id floor g xs in
    elim (x == g) as (λ b. cond b (tell g id (offered gs0 floor g) xs) (told gs0 id floor (g, x) ∷ tell g id (offered gs0 floor g) xs)
    ≡ map (told gs0 id floor) (cond b (pairs_from g xs) ((g, x) ∷ pairs_from g xs))) [
      | true ↦ rest
      | false ↦ ap (λ l. told gs0 id floor (g, x) ∷ l) rest
    ]

-- ---- one packet comes

abbrev after : MulticastView → ℕ → List Packet → List Delivered → GroupState → MulticastView
after m h packets ds state = record {
  groups = slice_set m.groups h (record { me = h; state = state; looks = 0 });
  packets = packets;
  queues = slice_set m.queues h (queue_of m.queues h ++ ds);
  room = 0;
}

module _ (m : MulticastView) (h : ℕ) (packets : List Packet) (ds : List Delivered) (state : GroupState) (low : h < length m.groups)
    (queue : h < length m.queues) where
  abbrev new : MulticastView
  new = after m h packets ds state

  state_here : group_of new.groups h ≡ state
  state_here = group_of-set m.groups h (record { me = h; state = state; looks = 0 }) low h
      ∙ ap (λ b. cond b state (group_of m.groups h)) (eq-eqb h h refl)

  state_there : (k : ℕ) → (k == h) ≡ false → group_of new.groups k ≡ group_of m.groups k
  state_there k other = group_of-set m.groups h (record { me = h; state = state; looks = 0 }) low k
      ∙ ap (λ b. cond b state (group_of m.groups k)) other

  queue_here : queue_of new.queues h ≡ queue_of m.queues h ++ ds
  queue_here = queue_of-set m.queues h (queue_of m.queues h ++ ds) queue h
      ∙ ap (λ b. cond b (queue_of m.queues h ++ ds) (queue_of m.queues h)) (eq-eqb h h refl)

  queue_there : (k : ℕ) → (k == h) ≡ false → queue_of new.queues k ≡ queue_of m.queues k
  queue_there k other = queue_of-set m.queues h (queue_of m.queues h ++ ds) queue k
      ∙ ap (λ b. cond b (queue_of m.queues h ++ ds) (queue_of m.queues k)) other

comes : (m : MulticastView) (p : Packet) (rest sent : List Packet) (ds : List Delivered) (state : GroupState) → m.packets ≡ p ∷ rest
    → p.to < length m.groups → p.to < length m.queues → Receives p.to (group_of m.groups p.to) p.id p.body sent ds state
    → Delivers m 0 (after m p.to (rest ++ sent) ds state)
comes m p rest sent ds state first low queue receives = record {
  packet = p;
  sent = sent;
  delivered = ds;
  state = state;
  there = ap (λ l. slice_get l 0) first;
  receives = receives;
  packets = sym (ap (λ l. remove l 0 ++ sent) first);
  group = group_of-set m.groups p.to (record { me = p.to; state = state; looks = 0 }) low;
  queue = queue_of-set m.queues p.to (queue_of m.queues p.to ++ ds) queue;
  count = count-set m.groups p.to (record { me = p.to; state = state; looks = 0 });
}

-- ---- the proposals come

-- the group has started with the request, and waits for the proposals that are under way to it
pub record Waiting (gs0 : List GroupView) (id : RequestId) (floor : ℕ) (gs : List ℕ) (ps : Pairs) (h : ℕ) (now : GroupState) : Type 0 where
  pub heard : ℕ → Option ℕ
  pub has_it : Has (group_of gs0 h) id gs (offered gs0 floor h) heard now
  pub waits : (g : ℕ) → has gs g ≡ true → heard g ≡ cond (is_from ps g h) None (Some (offered gs0 floor g))

-- it waits where one is under way to it, and has delivered the request where none is
abbrev pub Stands : Bool → List GroupView → RequestId → ℕ → List ℕ → Stamp → Pairs → MulticastView → ℕ → Type 0
Stands true gs0 id floor gs s ps m h = Waiting gs0 id floor gs ps h (group_of m.groups h) × (queue_of m.queues h ≡ [])
Stands false gs0 id floor gs s ps m h =
    (group_of m.groups h ≡ settled (group_of gs0 h) id s.clock)
    × (queue_of m.queues h ≡ record { id = id; stamp = s; groups = gs } ∷ [])

pub record Going (gs0 : List GroupView) (qs0 : List (List Delivered)) (id : RequestId) (floor : ℕ) (gs : List ℕ) (s : Stamp) (ps : Pairs)
    (m : MulticastView) : Type 0 where
  pub packets : m.packets ≡ map (told gs0 id floor) ps
  pub count : length m.groups ≡ length gs0
  pub as_many : length m.queues ≡ length gs0
  pub inside : (h : ℕ) → has gs h ≡ true → Stands (is_to ps h) gs0 id floor gs s ps m h
  pub outside : (h : ℕ) → has gs h ≡ false → (group_of m.groups h ≡ group_of gs0 h) × (queue_of m.queues h ≡ queue_of qs0 h)

record Starting (gs0 : List GroupView) (qs0 : List (List Delivered)) (id : RequestId) (floor : ℕ) (gs : List ℕ) (todo : List ℕ) (ps : Pairs)
    (m : MulticastView) : Type 0 where
  pub packets : m.packets ≡ starts_to id floor gs todo ++ map (told gs0 id floor) ps
  pub count : length m.groups ≡ length gs0
  pub as_many : length m.queues ≡ length gs0
  pub before : (h : ℕ) → has todo h ≡ true → group_of m.groups h ≡ group_of gs0 h
  pub begun : (h : ℕ) → has gs h ≡ true → has todo h ≡ false →
      Has (group_of gs0 h) id gs (offered gs0 floor h) (more h (offered gs0 floor h) (λ g. None)) (group_of m.groups h)
  pub queues : (h : ℕ) → queue_of m.queues h ≡ queue_of qs0 h
  pub outside : (h : ℕ) → has gs h ≡ false → group_of m.groups h ≡ group_of gs0 h

module _ (gs0 : List GroupView) (qs0 : List (List Delivered)) (id : RequestId) (floor : ℕ) (gs : List ℕ) (s : Stamp)
    (is : IsAlone gs0 qs0 id floor gs s) (low : (g : ℕ) → has gs g ≡ true → g < length gs0) where
  kept : (b : Bool) (p : ℕ × ℕ) (ps : Pairs) (m n : MulticastView) (k : ℕ) → (p.1 == k) ≡ false → group_of n.groups k ≡ group_of m.groups k
      → queue_of n.queues k ≡ queue_of m.queues k → Stands b gs0 id floor gs s (p ∷ ps) m k → Stands b gs0 id floor gs s ps n k
  kept true p ps m n k other group queue (w, none) = (
    record {
      heard = w.heard;
      has_it = subst (λ st. Has (group_of gs0 k) id gs (offered gs0 floor k) w.heard st) (sym group) w.has_it;
      waits = λ g inside. w.waits g inside ∙ ap (λ b. cond (b || is_from ps g k) None (Some (offered gs0 floor g)))
          (and_right (p.0 == g) (p.1 == k) other);
    },
    queue ∙ none,
  )
  kept false p ps m n k other group queue (gone, there) = (group ∙ gone, queue ∙ there)

  -- a group that a proposal comes to is as it has to be, and so is each other one
  goes_on : (p : ℕ × ℕ) (ps : Pairs) (m : MulticastView) (ds : List Delivered) (state : GroupState) → Going gs0 qs0 id floor gs s (p ∷ ps) m
      → has gs p.1 ≡ true → Receives p.1 (group_of m.groups p.1) id (Proposal p.0 (offered gs0 floor p.0)) [] ds state
      → Stands (is_to ps p.1) gs0 id floor gs s ps (after m p.1 (map (told gs0 id floor) ps ++ []) ds state) p.1
      → (n : MulticastView) × Delivers m 0 n × Going gs0 qs0 id floor gs s ps n
  goes_on p ps m ds state going member receives stands =
      let h = p.1 in
      let rest = map (told gs0 id floor) ps in
      let few : h < length m.groups = let l = low h member in omega (arith, l, going.count) in
      let queue : h < length m.queues = let l = low h member in omega (arith, l, going.as_many) in
      let n = after m h (rest ++ []) ds state in
      let group_there = state_there m h (rest ++ []) ds state few queue in
      let queue_there' = queue_there m h (rest ++ []) ds state few queue in (
        n,
        comes m (told gs0 id floor p) rest [] ds state going.packets few queue receives,
        record {
          packets = append-nil rest;
          count = count-set m.groups h (record { me = h; state = state; looks = 0 }) ∙ going.count;
          as_many = count_queues m.queues h (queue_of m.queues h ++ ds) ∙ going.as_many;
          inside = λ k inside. elim (cases_Bool (k == h)) [
            | inl same ↦ subst (λ x. Stands (is_to ps x) gs0 id floor gs s ps n x) (sym (eqb-true k h same)) stands
            | inr other ↦
                let apart = differ k h other in
                kept (is_to ps k) p ps m n k apart (group_there k other) (queue_there' k other)
                (subst (λ b. Stands (b || is_to ps k) gs0 id floor gs s (p ∷ ps) m k) apart (going.inside k inside))
          ];
          outside = λ k outside.
              let other : (k == h) ≡ false = ne_eqb k h (λ same. both_ways _ outside (subst (λ x. has gs x ≡ true) (sym same) member)) in
              let was = going.outside k outside in
              (group_there k other ∙ was.0, queue_there' k other ∙ was.1);
        },
      )
    where
      count_queues : (qs : List (List Delivered)) (g : ℕ) (q : List Delivered) → length (slice_set qs g q) ≡ length qs
      count_queues qs g q = length-set qs g q

  -- one proposal comes
  going_step : (p : ℕ × ℕ) (ps : Pairs) (m : MulticastView) → Between gs (p ∷ ps) → Going gs0 qs0 id floor gs s (p ∷ ps) m
      → (n : MulticastView) × Delivers m 0 n × Going gs0 qs0 id floor gs s ps n
  going_step p ps m between going =
      let f = p.0 in
      let h = p.1 in
      let member = between.1 in
      let stands : Stands true gs0 id floor gs s (p ∷ ps) m h =
      subst (λ b. Stands b gs0 id floor gs s (p ∷ ps) m h) (or_left (h == h) (is_to ps h) (eq-eqb h h refl)) (going.inside h member) in
      let w = stands.0 in
      let heard = more f (offered gs0 floor f) w.heard in
      let waits : (g : ℕ) → has gs g ≡ true → heard g ≡ cond (is_from ps g h) None (Some (offered gs0 floor g)) = λ g inside.
      elim (cases_Bool (g == f)) [
        | inl same ↦
            let e = eqb-true g f same in
            ap (λ b. cond b (Some (offered gs0 floor f)) (w.heard g)) same ∙ ap (λ x. Some (offered gs0 floor x)) (sym e)
            ∙ sym (ap (λ b. cond b None (Some (offered gs0 floor g))) (ap (λ x. is_from ps x h) e ∙ between.2))
        | inr other ↦ ap (λ b. cond b (Some (offered gs0 floor f)) (w.heard g)) other ∙ w.waits g inside
            ∙ ap (λ b. cond (b || is_from ps g h) None (Some (offered gs0 floor g))) (and_left (f == g) (h == h) (differ g f other))
      ] in
      let few : h < length m.groups = let l = low h member in omega (arith, l, going.count) in
      let queue : h < length m.queues = let l = low h member in omega (arith, l, going.as_many) in
      let rest = map (told gs0 id floor) ps ++ [] in
      let offer = is.offers h member in
      elim (cases_Bool (is_to ps h)) [
        | inl more_come ↦
            let missing = some_from gs ps h between.3 more_come in
            let short = final_open heard gs missing.0 missing.1
            (waits missing.0 missing.1 ∙ ap (λ b. cond b None (Some (offered gs0 floor missing.0))) missing.2) in
            let r = hear_waits h (group_of gs0 h) id floor (offered gs0 floor h) gs offer (group_of m.groups h) w.heard w.has_it f
            (offered gs0 floor f) short in
            goes_on p ps m [] r.0 going member r.1 (subst (λ b. Stands b gs0 id floor gs s ps (after m h rest [] r.0) h) (sym more_come) (
              record {
                heard = heard;
                has_it = subst (λ st. Has (group_of gs0 h) id gs (offered gs0 floor h) heard st) (sym (state_here m h rest [] r.0 few queue))
                    r.2;
                waits = waits;
              },
              queue_here m h rest [] r.0 few queue ∙ ap (λ q. q ++ []) stands.1,
            ))
        | inr last ↦
            let all = final_among heard (λ g. Some (offered gs0 floor g)) gs (λ g inside.
            waits g inside ∙ ap (λ b. cond b None (Some (offered gs0 floor g))) (none_from ps g h last)) ∙ is.greatest in
            let d : Delivered = record { id = id; stamp = s; groups = gs } in
            let own = final_above (λ g. Some (offered gs0 floor g)) gs s h is.greatest member in
            let below = clocks_le (record { clock = own.clock; group = h }) s own.within in
            let same = some_same (offered gs0 floor h) own.clock own.heard in
            let now = settled (group_of gs0 h) id s.clock in
            let r = hear_goes h (group_of gs0 h) id floor (offered gs0 floor h) gs offer (group_of m.groups h) w.heard w.has_it f
            (offered gs0 floor f) s all (omega (arith, below, same)) in
            goes_on p ps m (d ∷ []) now going member r
            (subst (λ b. Stands b gs0 id floor gs s ps (after m h rest (d ∷ []) now) h) (sym last) (
              state_here m h rest (d ∷ []) now few queue,
              queue_here m h rest (d ∷ []) now few queue ∙ ap (λ q. q ++ d ∷ []) stands.1,
            ))
      ]

  -- and all others
  going_run : (ps : Pairs) (m : MulticastView) → Between gs ps → Going gs0 qs0 id floor gs s ps m
      → (n : MulticastView) × Arrives (length ps) m n × Going gs0 qs0 id floor gs s [] n
  going_run [] m between going = (m, refl, going)
  going_run (p ∷ ps) m between going =
      let one = going_step p ps m between going in
      let rest = going_run ps one.0 between.3 one.2 in
      (rest.0, (one.0, one.1, rest.1), rest.2)

  -- ---- the Starts come

  module _ (rise : IsAscending gs) (as_many : length qs0 ≡ length gs0)
      (others : (g : ℕ) → has gs g ≡ true → (h : ℕ) × (has gs h ≡ true) × ((h == g) ≡ false)) where
    start_step : (g : ℕ) (todo : List ℕ) (ps : Pairs) (m : MulticastView) → has gs g ≡ true → has todo g ≡ false
        → Starting gs0 qs0 id floor gs (g ∷ todo) ps m
        → (n : MulticastView) × Delivers m 0 n × Starting gs0 qs0 id floor gs todo (ps ++ pairs_from g gs) n
    start_step g todo ps m member gone starting =
        let c = offered gs0 floor g in
        let own = more g c (λ k. None) in
        let start : Packet = record { to = g; id = id; body = Start floor gs } in
        let rest = starts_to id floor gs todo ++ map (told gs0 id floor) ps in
        let few : g < length m.groups = let l = low g member in omega (arith, l, starting.count) in
        let queue : g < length m.queues = let l = low g member in omega (arith, l, starting.as_many) in
        let other = others g member in
        let short = final_open own gs other.0 other.1 (ap (λ b. cond b (Some c) None) other.2) in
        let r = start_waits g (group_of gs0 g) id floor c gs (is.offers g member) short in
        let now = r.0 in
        let sent = tell g id c gs in
        let n = after m g (rest ++ sent) [] now in
        let was = starting.before g (or_left (g == g) _ (eq-eqb g g refl)) in (
          n,
          comes m start rest sent [] now starting.packets few queue
              (subst (λ st. Receives g st id (Start floor gs) sent [] now) (sym was) r.1),
          record {
            packets = append_assoc (starts_to id floor gs todo) (map (told gs0 id floor) ps) sent
                ∙ ap (λ l. starts_to id floor gs todo ++ l)
                (ap (λ l. map (told gs0 id floor) ps ++ l) (tells gs0 id floor g gs) ∙ sym (map-append (told gs0 id floor) ps (pairs_from g gs)));
            count = count-set m.groups g (record { me = g; state = now; looks = 0 }) ∙ starting.count;
            as_many = length-set m.queues g (queue_of m.queues g ++ []) ∙ starting.as_many;
            before = λ h inside.
                let apart : (h == g) ≡ false = ne_eqb h g (λ same. both_ways _ gone (subst (λ k. has todo k ≡ true) same inside)) in
                state_there m g (rest ++ sent) [] now few queue h apart ∙ starting.before h (or_right (g == h) _ inside);
            begun = λ h inside passed. elim (cases_Bool (h == g)) [
              | inl same ↦ subst (λ k. Has (group_of gs0 k) id gs (offered gs0 floor k) (more k (offered gs0 floor k) (λ x. None))
                  (group_of n.groups k)) (sym (eqb-true h g same))
                  (subst (λ st. Has (group_of gs0 g) id gs c own st) (sym (state_here m g (rest ++ sent) [] now few queue)) r.2)
              | inr apart ↦ subst (λ st. Has (group_of gs0 h) id gs (offered gs0 floor h) (more h (offered gs0 floor h) (λ x. None)) st)
                  (sym (state_there m g (rest ++ sent) [] now few queue h apart))
                  (starting.begun h inside (or_from _ _ (differ h g apart) passed))
            ];
            queues = λ h. elim (cases_Bool (h == g)) [
              | inl same ↦ subst (λ k. queue_of n.queues k ≡ queue_of qs0 k) (sym (eqb-true h g same))
                  (queue_here m g (rest ++ sent) [] now few queue ∙ append-nil (queue_of m.queues g) ∙ starting.queues g)
              | inr apart ↦ queue_there m g (rest ++ sent) [] now few queue h apart ∙ starting.queues h
            ];
            outside = λ h outside.
                let apart : (h == g) ≡ false = ne_eqb h g (λ same. both_ways _ outside (subst (λ k. has gs k ≡ true) (sym same) member)) in
                state_there m g (rest ++ sent) [] now few queue h apart ∙ starting.outside h outside;
          },
        )

    start_run : (todo : List ℕ) (ps : Pairs) (m : MulticastView) → ((g : ℕ) → has todo g ≡ true → has gs g ≡ true) → IsAscending todo
        → Starting gs0 qs0 id floor gs todo ps m
        → (n : MulticastView) × Arrives (length todo) m n × Starting gs0 qs0 id floor gs [] (ps ++ all_from gs todo) n
    start_run [] ps m within up starting =
        (m, refl, subst (λ l. Starting gs0 qs0 id floor gs [] l m) (sym (append-nil ps)) starting)
    start_run (g ∷ todo) ps m within up starting =
        let one = start_step g todo ps m (within g (or_left (g == g) _ (eq-eqb g g refl))) (not_there g todo up) starting in
        let rest = start_run todo (ps ++ pairs_from g gs) one.0 (λ h inside. within h (or_right (g == h) _ inside)) up.1 one.2 in (
          rest.0,
          (one.0, one.1, rest.1),
          subst (λ l. Starting gs0 qs0 id floor gs [] l rest.0) (append_assoc ps (pairs_from g gs) (all_from gs todo)) rest.2,
        )

    -- the Starts have come, and all proposals are under way
    all_started : (m : MulticastView) → Starting gs0 qs0 id floor gs [] (all_from gs gs) m → Going gs0 qs0 id floor gs s (all_from gs gs) m
    all_started m starting = record {
      packets = starting.packets;
      count = starting.count;
      as_many = starting.as_many;
      inside = λ h inside.
          let other = others h inside in
          subst (λ b. Stands b gs0 id floor gs s (all_from gs gs) m h)
          (sym (from_to (all_from gs gs) other.0 h (all_to_each gs gs other.0 h other.1 inside (differ other.0 h other.2)))) (
            record {
              heard = more h (offered gs0 floor h) (λ g. None);
              has_it = starting.begun h inside refl;
              waits = λ g member. elim (cases_Bool (g == h)) [
                | inl same ↦
                    let e = eqb-true g h same in
                    ap (λ b. cond b (Some (offered gs0 floor h)) None) same ∙ ap (λ k. Some (offered gs0 floor k)) (sym e)
                    ∙ sym (ap (λ b. cond b None (Some (offered gs0 floor g)))
                    (ap (λ k. is_from (all_from gs gs) g k) (sym e) ∙ all_not_to_itself gs gs g))
                | inr apart ↦ ap (λ b. cond b (Some (offered gs0 floor h)) None) apart
                    ∙ sym (ap (λ b. cond b None (Some (offered gs0 floor g))) (all_to_each gs gs g h member inside (differ g h apart)))
              ];
            },
            starting.queues h ∙ is.empty h inside,
          );
      outside = λ h outside. (starting.outside h outside, starting.queues h);
    }

    -- all packets have come
    pub exchange : (n : MulticastView)
        × Arrives (packets_of gs) (record { groups = gs0; packets = starts_to id floor gs gs; queues = qs0; room = 0 }) n
        × Going gs0 qs0 id floor gs s [] n
    exchange =
        let begun : MulticastView = record { groups = gs0; packets = starts_to id floor gs gs; queues = qs0; room = 0 } in
        let first = start_run gs [] begun (λ g inside. inside) rise (record {
          packets = sym (append-nil (starts_to id floor gs gs));
          count = refl;
          as_many = as_many;
          before = λ h inside. refl;
          begun = λ h inside passed. absurd (both_ways _ passed inside);
          queues = λ h. refl;
          outside = λ h outside. refl;
        }) in
        let second = going_run (all_from gs gs) first.0 (between_all gs gs rise (λ g inside. inside) rise) (all_started first.0 first.2) in
        let counted = all_count gs gs rise (λ g inside. inside) in (
          second.0,
          arrives_then (length gs) (length (all_from gs gs)) (packets_of gs) begun first.0 second.0 (omega (arith, counted)) first.1 second.1,
          second.2,
        )
