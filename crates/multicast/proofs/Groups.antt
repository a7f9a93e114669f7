-- The groups by their numbers.
use Rattle.std.proofs.Common.{◌≡◌, ℕ, zero, suc, ◌<◌, ◌≤◌, ◌==◌, Bool, true, false, cond, List}
use Rattle.std.proofs.Common.{[], ◌∷◌, length, slice_get, slice_set}
use Rattle.std.proofs.Common.{slice_index_or, Option, Some, None, inl, inr, refl, sym, ap, ◌∙◌, arith, eq-eqb, eqb-true, ne_eqb}
use Rattle.std.proofs.lemmas.Bool.{cases_lt, cases_Bool, both_ways}
use Rattle.groups.proofs.Options.{some_same}
use Rattle.std.specs.FinMap.{get}
use Rattle.multicast.specs.Multicast.{at, group_of, starts_to, sends_at_most}
use Rattle.skeen_core.specs.Group.{GroupState, GroupView, fresh, new_group, next_clock, tell, ReceivesStart, Agrees, Receives}
use Rattle.skeen_core.proofs.RunLaws.{Received, Past, Heard, received}
use Rattle.skeen_core.specs.declared.packet.Body.{Body}
use Rattle.skeen_core.specs.declared.packet.Body.TheVariants.{Start, Proposal}
use Rattle.skeen_core.specs.declared.packet.Delivered.{Delivered}
use Rattle.skeen_core.specs.declared.packet.Packet.{Packet}
use Rattle.groups.specs.declared.request.RequestId.{RequestId}

-- what stands at a place, and beyond the last
pub found : {X : Type 0} (xs : List X) (g : ℕ) (x d : X) → slice_get xs g ≡ Some x → slice_index_or xs g d ≡ x
found [] g x d e = absurd (let k = e in cc)
found (y ∷ ys) zero x d e = some_same y x e
found (y ∷ ys) (suc g) x d e = found ys g x d e

pub beyond : {X : Type 0} (xs : List X) (g : ℕ) (d : X) → length xs ≤ g → slice_index_or xs g d ≡ d
beyond [] g d h = refl
beyond (y ∷ ys) zero d h = absurd (omega arith)
beyond (y ∷ ys) (suc g) d h = beyond ys g d (omega arith)

-- groups that are all new
pub all_fresh : (gs : List GroupView) → ((g : ℕ) → g < length gs → slice_get gs g ≡ Some (new_group g)) → (g : ℕ)
    → group_of gs g ≡ fresh
all_fresh gs each g = elim (cases_lt g (length gs)) [
  | inl less ↦ ap (λ (v : GroupView). v.state)
      (found gs g (new_group g) (new_group g) (each g less))
  | inr more ↦ ap (λ (v : GroupView). v.state) (beyond gs g (new_group g) more)
]

same_test : (h g : ℕ) → (suc h == suc g) ≡ (h == g)
same_test h g = elim (cases_Bool (h == g)) [
  | inl e ↦ eq-eqb (suc h) (suc g) (ap suc (eqb-true h g e)) ∙ sym e
  | inr e ↦ ne_eqb (suc h) (suc g) (λ same. both_ways _ e (eq-eqb h g (omega arith))) ∙ sym e
]

-- one group changed among many
pub index-set : {X : Type 0} (xs : List X) (g : ℕ) (x : X) (h : ℕ) (d : X) → g < length xs
    → slice_index_or (slice_set xs g x) h d ≡ cond (h == g) x (slice_index_or xs h d)
index-set [] g x h d low = absurd (omega arith)
index-set (y ∷ ys) zero x zero d low = refl
index-set (y ∷ ys) zero x (suc h) d low = sym (ap (λ b. cond b x (slice_index_or ys h d)) (ne_eqb (suc h) 0 (λ e. omega arith)))
index-set (y ∷ ys) (suc g) x zero d low = sym (ap (λ b. cond b x y) (ne_eqb 0 (suc g) (λ e. omega arith)))
index-set (y ∷ ys) (suc g) x (suc h) d low = index-set ys g x h d (omega arith)
    ∙ ap (λ b. cond b x (slice_index_or ys h d)) (sym (same_test h g))

pub group_of-set : (gs : List GroupView) (g : ℕ) (v : GroupView) → g < length gs → (h : ℕ)
    → group_of (slice_set gs g v) h ≡ at (group_of gs) g v.state h
group_of-set gs g v low h =
    ap (λ (x : GroupView). x.state) (index-set gs g v h (new_group h) low)
    ∙ elim (h == g) as (λ b. (cond b v (slice_index_or gs h (new_group h))).state ≡ cond b v.state (group_of gs h))
    [ true ↦ refl | false ↦ refl ]

pub length-set : {X : Type 0} (xs : List X) (g : ℕ) (x : X) → length (slice_set xs g x) ≡ length xs
length-set [] g x = refl
length-set (y ∷ ys) zero x = refl
length-set (y ∷ ys) (suc g) x = ap suc (length-set ys g x)

pub count-set : (gs : List GroupView) (g : ℕ) (v : GroupView) → length (slice_set gs g v) ≡ length gs
count-set gs g v = length-set gs g v

-- a group that is changed and knows its number still
pub numbered-set : (gs : List GroupView) (g : ℕ) (v : GroupView) → g < length gs → v.me ≡ g
    → ((h : ℕ) (d : GroupView) → h < length gs → (slice_index_or gs h d).me ≡ h) →
    (h : ℕ) (d : GroupView) → h < length (slice_set gs g v) → (slice_index_or (slice_set gs g v) h d).me ≡ h
numbered-set gs g v low me before h d within =
    let within' : h < length gs = let e = length-set gs g v in omega arith in
    ap (λ (x : GroupView). x.me) (index-set gs g v h d low)
    ∙ elim (h == g) as (λ b. (h == g) ≡ b → (cond b v (slice_index_or gs h d)).me ≡ h) [
      | true ↦ λ same. me ∙ sym (eqb-true h g same)
      | false ↦ λ other. before h d within'
    ] refl

one_more : (b : Bool) (ps : List Packet) (p : Packet) (n : ℕ) → length ps ≤ n → length (cond b ps (p ∷ ps)) ≤ suc n
one_more true ps p n few = omega arith
one_more false ps p n few = omega arith

-- no more packets are told than there are groups
pub told_few : (me : ℕ) (id : RequestId) (n : ℕ) (gs : List ℕ) → length (tell me id n gs) ≤ length gs
told_few me id n [] = omega arith
told_few me id n (g ∷ gs) = one_more (g == me) (tell me id n gs) (record { to = g; id = id; body = Proposal me n }) (length gs)
    (told_few me id n gs)

-- what is found stands within the list
pub within : {X : Type 0} (xs : List X) (k : ℕ) (x : X) → slice_get xs k ≡ Some x → k < length xs
within [] k x e = absurd (let n = e in cc)
within (y ∷ ys) zero x e = omega arith
within (y ∷ ys) (suc k) x e = let n = within ys k x e in omega arith

-- within the list it doesn't matter what stands beyond the last
any_default : {X : Type 0} (xs : List X) (g : ℕ) (d d' : X) → g < length xs → slice_index_or xs g d ≡ slice_index_or xs g d'
any_default [] g d d' low = absurd (omega arith)
any_default (y ∷ ys) zero d d' low = refl
any_default (y ∷ ys) (suc g) d d' low = any_default ys g d d' (omega arith)

pub state_at : (gs : List GroupView) (g : ℕ) (v : GroupView) → g < length gs → v ≡ slice_index_or gs g v → group_of gs g ≡ v.state
state_at gs g v low is = ap (λ (x : GroupView). x.state) (any_default gs g (new_group g) v low ∙ sym is)

agreed_few : (me : ℕ) (grp : GroupState) (id : RequestId) (body : Body) (sent : List Packet) (ds : List Delivered) (new : GroupState)
    → Agrees me grp id body sent ds new → length sent ≤ sends_at_most body
agreed_few me grp id (Proposal from n) sent ds new r = let e = ap (λ (ps : List Packet). length ps) r.0 in omega arith
agreed_few me grp id (Start floor groups) sent ds new r = by_started (get grp.started id) r
  where
    by_started : (o : Option (List ℕ)) → ReceivesStart o me grp id floor groups sent ds new → length sent ≤ length groups
    by_started (Some gs) r = let e = ap (λ (ps : List Packet). length ps) r.0 in omega arith
    by_started None r = let e = ap (λ (ps : List Packet). length ps) r.0 in let few = told_few me id (next_clock grp floor) groups in
        omega arith

-- a group sends no more than its packet's groups
pub sent_few : (me : ℕ) (grp : GroupState) (id : RequestId) (body : Body) (sent : List Packet) (ds : List Delivered) (new : GroupState)
    → Receives me grp id body sent ds new → length sent ≤ sends_at_most body
sent_few me grp id body sent ds new r = by_received (received me grp id body sent ds new r)
  where
    by_received : Received me grp id body sent ds new → length sent ≤ sends_at_most body
    by_received (Past e none d same) = let e = ap (λ (ps : List Packet). length ps) none in omega arith
    by_received (Heard e mid a same) = agreed_few me grp id body sent ds mid a

-- as many Starts as groups
pub starts_many : (id : RequestId) (floor : ℕ) (all gs : List ℕ) → length (starts_to id floor all gs) ≡ length gs
starts_many id floor all [] = refl
starts_many id floor all (g ∷ gs) = ap suc (starts_many id floor all gs)
