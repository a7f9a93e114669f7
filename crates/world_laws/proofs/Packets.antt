-- Packets under way: whom they go to, and what is sent.
use Rattle.std.proofs.Common.{◌≡◌, ℕ, ◌==◌, true, false, cond, List, [], ◌∷◌, inl, inr, Some, refl, sym, ap, subst, eqb-true, eq-eqb}
use Rattle.std.proofs.lemmas.Bool.{both_ways, cases_Bool, or_cases, or_left, or_right}
use Rattle.groups.specs.GroupSet.{has}
use Rattle.skeen_core.specs.Group.{tell}
use Rattle.groups.specs.Order.{In}
use Rattle.skeen_core.specs.declared.packet.Body.{Body}
use Rattle.skeen_core.specs.declared.packet.Body.TheVariants.{Start, Proposal}
use Rattle.skeen_core.specs.declared.packet.Packet.{Packet}
use Rattle.groups.specs.declared.request.RequestId.{RequestId}
use Rattle.world.specs.Steps.{starts}
use Rattle.world.specs.World.{Request, Proposals}
use Rattle.world_laws.specs.Good.{Asked, Among, BodyGood, PacketGood, start_to}
use Rattle.world_laws.proofs.Groups.{AskedMore}

-- ---- what is good stays good

pub body_more : (asked asked' : Asked) (proposed proposed' : Proposals) (to : ℕ) (id : RequestId) (body : Body) → AskedMore asked asked' →
    Among proposed proposed' →
    BodyGood asked proposed to id body → BodyGood asked' proposed' to id body
body_more asked asked' proposed proposed' to id (Start floor groups) more among good =
    ((good.0.0, more id good.0.0 good.0.1, good.0.2, good.0.3), good.1)
body_more asked asked' proposed proposed' to id (Proposal from n) more among good =
    (among id from n good.0, good.1, (good.2.0, more id good.2.0 good.2.1, good.2.2))

-- ---- whom it goes to

pub body_addressed : (asked : Asked) (proposed : Proposals) (to : ℕ) (id : RequestId) (body : Body) → BodyGood asked proposed to id body →
    (q : Request) × (asked id ≡ Some q) × (has q.groups to ≡ true)
body_addressed asked proposed to id (Start floor groups) good = (good.0.0, good.0.1, subst (λ gs. has gs to ≡ true) (sym good.0.3) good.1)
body_addressed asked proposed to id (Proposal from n) good = good.2

-- ---- what is sent

-- the proposals told go to the other groups of the request
pub told_good : (asked : Asked) (proposed : Proposals) (me : ℕ) (id : RequestId) (n : ℕ) (q : Request) (gs : List ℕ) → asked id ≡ Some q →
    proposed id me ≡ Some n →
    ((g : ℕ) → has gs g ≡ true → has q.groups g ≡ true) → (p : Packet) → In p (tell me id n gs) → PacketGood asked proposed p
told_good asked proposed me id n q [] named told within p there = absurd there
told_good asked proposed me id n q (h ∷ hs) named told within p there =
    let rest = λ (here : In p (tell me id n hs)).
    told_good asked proposed me id n q hs named told (λ g e. within g (or_right (h == g) (has hs g) e)) p here in
    elim (cases_Bool (h == me)) [
      | inl e ↦ rest (subst (λ b. In p (cond b (tell me id n hs)
          (record { to = h; id = id; body = Proposal me n } ∷ tell me id n hs))) e there)
      | inr e ↦ elim (subst (λ b. In p (cond b (tell me id n hs)
          (record { to = h; id = id; body = Proposal me n } ∷ tell me id n hs))) e there) [
            | inl same ↦ subst (λ (x : Packet). PacketGood asked proposed x) (sym same)
                (told, λ at. both_ways _ e (eq-eqb h me (sym at)), (q, named, within h (or_left (h == h) (has hs h) (eq-eqb h h refl))))
            | inr later ↦ rest later
          ]
    ]

-- ---- the Starts of a new request

-- each of its groups is sent one
pub in_starts : (id : RequestId) (q : Request) (gs : List ℕ) (g : ℕ) → has gs g ≡ true → In (start_to g id q) (starts id q gs)
in_starts id q [] g there = absurd (both_ways false refl there)
in_starts id q (h ∷ hs) g there = elim (or_cases (h == g) (has hs g) there) [
  | inl here ↦ inl (ap (λ k. start_to k id q) (sym (eqb-true h g here)))
  | inr later ↦ inr (in_starts id q hs g later)
]

pub starts_good : (asked : Asked) (proposed : Proposals) (id : RequestId) (q : Request) (gs : List ℕ) → asked id ≡ Some q →
    ((g : ℕ) → has gs g ≡ true → has q.groups g ≡ true) →
    (p : Packet) → In p (starts id q gs) → PacketGood asked proposed p
starts_good asked proposed id q [] named within p there = absurd there
starts_good asked proposed id q (g ∷ gs) named within p (inl same) =
    subst (λ (x : Packet). PacketGood asked proposed x) (sym same)
    ((q, named, refl, refl), within g (or_left (g == g) (has gs g) (eq-eqb g g refl)))
starts_good asked proposed id q (g ∷ gs) named within p (inr there) =
    starts_good asked proposed id q gs named (λ h e. within h (or_right (g == h) (has gs h) e)) p there
