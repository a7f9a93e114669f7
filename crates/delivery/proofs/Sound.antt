-- What every state of the queues is like: it is so at first, and stays so when requests come and go.
use Rattle.std.proofs.Common.{◌≡◌, ◌≢◌, ℕ, Bool, true, false, cond, drop, List, [], ◌∷◌, ◌++◌, refl, sym, ap, ◌∙◌, subst, inl, inr, ◌⊎◌}
use Rattle.std.proofs.lemmas.Bool.{cases_eq}
use Rattle.groups.specs.GroupSet.{has}
use Rattle.groups.specs.Order.{In}
use Rattle.groups.specs.Stamp.{stamp_lt}
use Rattle.skeen_core.specs.Group.{Ascending}
use Rattle.groups.specs.declared.stamp.Stamp.{Stamp}
use Rattle.skeen_core.specs.declared.packet.Delivered.{Delivered}
use Rattle.groups.proofs.Stamps.{lt_trans}
use Rattle.groups.proofs.Lists.{In-end}
use Rattle.delivery.specs.Ready.{QueueOf}
use Rattle.delivery.specs.Queues.{is_above_last, MayAppend, IsSound}
use Rattle.delivery.specs.Taking.{popped}

-- ---- without requests

in_none : (q : List Delivered) (d : Delivered) → q ≡ [] → In d q → ⊥
in_none q d e i = subst (λ l. In d l) e i

pub sound_none : (queue : QueueOf) → ((g : ℕ) → queue g ≡ []) → IsSound queue
sound_none queue none = record {
  member = λ g d i. absurd (in_none (queue g) d (none g) i);
  ascending = λ g. subst (λ l. Ascending l) (sym (none g)) tt;
  one_id = λ g h d e i j same. absurd (in_none (queue g) d (none g) i);
  one_stamp = λ g h d e i j same. absurd (in_none (queue g) d (none g) i);
}

-- ---- requests go

pub sound_fewer : (queue queue' : QueueOf) → IsSound queue → ((g : ℕ) → Ascending (queue' g))
    → ((g : ℕ) (d : Delivered) → In d (queue' g) → In d (queue g)) → IsSound queue'
sound_fewer queue queue' s up in_old = record {
  member = λ g d i. s.member g d (in_old g d i);
  ascending = up;
  one_id = λ g h d e i j same. s.one_id g h d e (in_old g d i) (in_old h e j) same;
  one_stamp = λ g h d e i j same. s.one_stamp g h d e (in_old g d i) (in_old h e j) same;
}

Ascending-rest : (q : List Delivered) → Ascending q → Ascending (drop 1 q)
Ascending-rest [] up = tt
Ascending-rest (d ∷ ds) up = up.1

In-rest : (q : List Delivered) (d : Delivered) → In d (drop 1 q) → In d q
In-rest [] d i = absurd i
In-rest (e ∷ es) d i = inr i

pub sound_popped : (queue queue' : QueueOf) (d : Delivered) → IsSound queue → ((g : ℕ) → queue' g ≡ popped d queue g) → IsSound queue'
sound_popped queue queue' d s is = sound_fewer queue queue' s
    (λ g. subst (λ l. Ascending l) (sym (is g))
    (elim (has d.groups g) as (λ b. Ascending (cond b (drop 1 (queue g)) (queue g))) [
      | true ↦ Ascending-rest (queue g) (s.ascending g)
      | false ↦ s.ascending g
    ]))
    (λ g e i. in_before g e (has d.groups g) (subst (λ l. In e l) (is g) i))
  where
    in_before : (g : ℕ) (e : Delivered) (b : Bool) → In e (cond b (drop 1 (queue g)) (queue g)) → In e (queue g)
    in_before g e true i = In-rest (queue g) e i
    in_before g e false i = i

-- ---- a request comes

below_last : (q : List Delivered) (s : Stamp) → Ascending q → is_above_last q s ≡ true → (d : Delivered) → In d q
    → stamp_lt d.stamp s ≡ true
below_last [] s up above d i = absurd i
below_last (x ∷ []) s up above d (inl e) = subst (λ (y : Delivered). stamp_lt y.stamp s ≡ true) (sym e) above
below_last (x ∷ []) s up above d (inr i) = absurd i
below_last (x ∷ y ∷ ys) s up above d (inl e) =
    subst (λ (z : Delivered). stamp_lt z.stamp s ≡ true) (sym e)
    (lt_trans x.stamp y.stamp s (up.0 y (inl refl)) (below_last (y ∷ ys) s up.1 above y (inl refl)))
below_last (x ∷ y ∷ ys) s up above d (inr i) = below_last (y ∷ ys) s up.1 above d i

Ascending-end : (q : List Delivered) (d : Delivered) → Ascending q → ((e : Delivered) → In e q → stamp_lt e.stamp d.stamp ≡ true)
    → Ascending (q ++ d ∷ [])
Ascending-end [] d up below = ((λ e i. absurd i), tt)
Ascending-end (x ∷ xs) d up below = (
  (λ e i. elim (In-end e d xs i) [
    | inl j ↦ up.0 e j
    | inr same ↦ subst (λ (y : Delivered). stamp_lt x.stamp y.stamp ≡ true) (sym same) (below x (inl refl))
  ]),
  Ascending-end xs d up.1 (λ e i. below e (inr i)),
)

same_delivered : (d e : Delivered) → d.id ≡ e.id → d.stamp ≡ e.stamp → d.groups ≡ e.groups → d ≡ e
same_delivered d e i s g = λ k. record { id = i k; stamp = s k; groups = g k }

module _ (queue queue' : QueueOf) (g : ℕ) (d : Delivered) (s : IsSound queue) (may : MayAppend queue g d)
    (here : queue' g ≡ queue g ++ d ∷ []) (other : (h : ℕ) → h ≢ g → queue' h ≡ queue h) where
  came : (h : ℕ) (e : Delivered) → In e (queue' h) → In e (queue h) ⊎ ((h ≡ g) × (e ≡ d))
  came h e i = elim (cases_eq h g) [
    | inl at ↦ elim (In-end e d (queue g) (subst (λ l. In e l) here (subst (λ (k : ℕ). In e (queue' k)) at i))) [
      | inl j ↦ inl (subst (λ (k : ℕ). In e (queue k)) (sym at) j)
      | inr same ↦ inr (at, same)
    ]
    | inr ne ↦ inl (subst (λ l. In e l) (other h ne) i)
  ]

  of_id : (h : ℕ) (e : Delivered) → In e (queue h) → e.id ≡ d.id → e ≡ d
  of_id h e i same = let all = may.same h e i same in same_delivered e d same all.0 all.1

  pub sound_appended : IsSound queue'
  sound_appended = record {
    member = λ h e i. elim (came h e i) [
      | inl j ↦ s.member h e j
      | inr it ↦ subst (λ (k : ℕ). has e.groups k ≡ true) (sym it.0)
          (subst (λ (y : Delivered). has y.groups g ≡ true) (sym it.1) may.member)
    ];
    ascending = λ h. elim (cases_eq h g) [
      | inl at ↦ subst (λ (k : ℕ). Ascending (queue' k)) (sym at) (subst (λ l. Ascending l) (sym here)
          (Ascending-end (queue g) d (s.ascending g) (below_last (queue g) d.stamp (s.ascending g) may.above)))
      | inr ne ↦ subst (λ l. Ascending l) (sym (other h ne)) (s.ascending h)
    ];
    one_id = λ h k a b i j same. elim (came h a i) [
      | inl i' ↦ elim (came k b j) [
        | inl j' ↦ s.one_id h k a b i' j' same
        | inr it ↦ of_id h a i' (same ∙ ap (λ (y : Delivered). y.id) it.1) ∙ sym it.1
      ]
      | inr it ↦ elim (came k b j) [
        | inl j' ↦ it.1 ∙ sym (of_id k b j' (sym same ∙ ap (λ (y : Delivered). y.id) it.1))
        | inr it' ↦ it.1 ∙ sym it'.1
      ]
    ];
    one_stamp = λ h k a b i j same. elim (came h a i) [
      | inl i' ↦ elim (came k b j) [
        | inl j' ↦ s.one_stamp h k a b i' j' same
        | inr it ↦ of_id h a i' (may.single h a i' (same ∙ ap (λ (y : Delivered). y.stamp) it.1)) ∙ sym it.1
      ]
      | inr it ↦ elim (came k b j) [
        | inl j' ↦ it.1 ∙ sym (of_id k b j' (may.single k b j' (sym same ∙ ap (λ (y : Delivered). y.stamp) it.1)))
        | inr it' ↦ it.1 ∙ sym it'.1
      ]
    ];
  }
