-- One queue changed among many.
use Rattle.std.proofs.Common.{◌≡◌, ℕ, ◌<◌, ◌==◌, true, false, cond, List, [], ◌∷◌, ◌++◌, length, slice_set, refl, sym, ap, ◌∙◌, subst}
use Rattle.std.proofs.Common.{arith, eqb-true, eq-eqb, ne_eqb, append-nil}
use Rattle.std.proofs.Math.Seq.{append_snoc}
use Rattle.delivery.proofs.Sound.{sound_appended, sound_popped}
use Rattle.delivery.specs.Queues.{queue_of, IsSound}
use Rattle.delivery.specs.Ready.{QueueOf}
use Rattle.delivery.specs.Taking.{popped, popped_all}
use Rattle.multicast.proofs.Groups.{index-set}
use Rattle.multicast.specs.Multicast.{at, MayAppendAll}
use Rattle.skeen_core.specs.declared.packet.Delivered.{Delivered}

-- a queue set is that queue, and the others are as they were
pub queue_of-set : (qs : List (List Delivered)) (g : ℕ) (q : List Delivered) → g < length qs → (h : ℕ)
    → queue_of (slice_set qs g q) h ≡ at (queue_of qs) g q h
queue_of-set qs g q low h = index-set qs g q h [] low

-- put twice at a place
at_twice : {X : Type 0} (f : ℕ → X) (g : ℕ) (x y : X) (h : ℕ) → at (at f g x) g y h ≡ at f g y h
at_twice f g x y h = elim (h == g) as (λ b. cond b y (cond b x (f h)) ≡ cond b y (f h)) [ true ↦ refl | false ↦ refl ]

at_here : {X : Type 0} (f : ℕ → X) (g : ℕ) (x : X) → at f g x g ≡ x
at_here f g x = ap (λ b. cond b x (f g)) (eq-eqb g g refl)

-- what was there is put there
at_same : {X : Type 0} (f : ℕ → X) (g h : ℕ) (x : X) → x ≡ f g → at f g x h ≡ f h
at_same f g h x e = elim (h == g) as (λ b. (h == g) ≡ b → cond b x (f h) ≡ f h) [
  | true ↦ λ same. e ∙ ap f (sym (eqb-true h g same))
  | false ↦ λ other. refl
] refl

-- after these are appended to the queue of g: what the rest, appended too, leaves
abbrev pub with_rest : List (List Delivered) → ℕ → List Delivered → ℕ → List Delivered
with_rest qs g rest h = at (queue_of qs) g (queue_of qs g ++ rest) h

-- one more appended, the rest one shorter
pub rest_next : (qs new : List (List Delivered)) (g : ℕ) (d : Delivered) (ds : List Delivered) → g < length qs
    → new ≡ slice_set qs g (queue_of qs g ++ d ∷ []) →
    (h : ℕ) → with_rest new g ds h ≡ with_rest qs g (d ∷ ds) h
rest_next qs new g d ds low is h =
    ap (λ (x : List (List Delivered)). with_rest x g ds h) is
    ∙ at_point
  where
    q : List Delivered
    q = queue_of qs g ++ d ∷ []

    at_point : with_rest (slice_set qs g (queue_of qs g ++ d ∷ [])) g ds h ≡ with_rest qs g (d ∷ ds) h
    at_point =
        let set = queue_of-set qs g (queue_of qs g ++ d ∷ []) low in
        ap (λ (x : List Delivered). at (queue_of (slice_set qs g (queue_of qs g ++ d ∷ []))) g (x ++ ds) h) (set g
        ∙ at_here (queue_of qs) g (queue_of qs g ++ d ∷ []))
        ∙ ap (λ (x : List Delivered). cond (h == g) ((queue_of qs g ++ d ∷ []) ++ ds) x) (set h)
        ∙ at_twice (queue_of qs) g (queue_of qs g ++ d ∷ []) ((queue_of qs g ++ d ∷ []) ++ ds) h
        ∙ ap (λ (x : List Delivered). at (queue_of qs) g x h) (append_snoc (queue_of qs g) d ds)

-- nothing is left to append
pub rest_none : (qs : List (List Delivered)) (g : ℕ) (rest : List Delivered) → length rest ≡ 0 → (h : ℕ)
    → with_rest qs g rest h ≡ queue_of qs h
rest_none qs g [] none h = at_same (queue_of qs) g h (queue_of qs g ++ []) (append-nil (queue_of qs g))
rest_none qs g (d ∷ ds) none h = absurd (omega arith)

-- what may be appended to one may be appended to another that is the same everywhere
pub may_append_same : (f k : ℕ → List Delivered) (g : ℕ) (ds : List Delivered) → f ≡ k → MayAppendAll f g ds → MayAppendAll k g ds
may_append_same f k g ds same may = subst (λ q. MayAppendAll q g ds) same may

pub may_append_next : (qs new : List (List Delivered)) (g : ℕ) (d : Delivered) (ds : List Delivered) → g < length qs
    → new ≡ slice_set qs g (queue_of qs g ++ d ∷ []) →
    MayAppendAll (queue_of qs) g (d ∷ ds) → MayAppendAll (queue_of new) g ds
may_append_next qs new g d ds low is may =
    subst (λ q. MayAppendAll (queue_of q) g ds) (sym is)
    (may_append_same _ _ g ds (λ k h. sym (queue_of-set qs g (queue_of qs g ++ d ∷ []) low h) k) may.1)

-- ---- what stands in the queues stays sound

-- these are appended to the queue of g
pub sound_append_all : (ds : List Delivered) (queue queue' : QueueOf) (g : ℕ) → IsSound queue → MayAppendAll queue g ds
    → ((h : ℕ) → queue' h ≡ at queue g (queue g ++ ds) h) → IsSound queue'
sound_append_all [] queue queue' g sound may is =
    subst (λ (q : QueueOf). IsSound q) (λ k h. sym (is h ∙ at_same queue g h (queue g ++ []) (append-nil (queue g))) k) sound
sound_append_all (d ∷ ds) queue queue' g sound may is =
    let q = queue g ++ d ∷ [] in
    let one = sound_appended queue (at queue g q) g d sound may.0 (at_here queue g q)
    (λ h ne. ap (λ b. cond b q (queue h)) (ne_eqb h g ne)) in
    sound_append_all ds (at queue g q) queue' g one may.1 (λ h.
    is h ∙ sym (ap (λ (x : List Delivered). at (at queue g q) g (x ++ ds) h) (at_here queue g q) ∙ at_twice queue g q (q ++ ds) h
    ∙ ap (λ (x : List Delivered). at queue g x h) (append_snoc (queue g) d ds)))

-- these are popped
pub sound_popped_all : (ds : List Delivered) (queue : QueueOf) → IsSound queue → IsSound (popped_all ds queue)
sound_popped_all [] queue sound = sound
sound_popped_all (d ∷ ds) queue sound =
    sound_popped_all ds (popped d queue) (sound_popped queue (popped d queue) d sound (λ g. refl))
