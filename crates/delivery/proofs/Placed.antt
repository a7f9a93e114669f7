-- A request put in its place among others that ascend.
use Rattle.std.proofs.Common.{◌≡◌, suc, ◌≤◌, Bool, true, false, cond, List, [], ◌∷◌, ◌⊎◌, length, refl, sym, subst, arith, inl, inr}
use Rattle.std.specs.List.{insert}
use Rattle.std.proofs.lemmas.Bool.{cases_Bool}
use Rattle.groups.specs.Order.{In}
use Rattle.groups.specs.Stamp.{stamp_lt}
use Rattle.skeen_core.specs.Group.{Ascending}
use Rattle.groups.specs.declared.stamp.Stamp.{Stamp}
use Rattle.skeen_core.specs.declared.packet.Delivered.{Delivered}
use Rattle.groups.proofs.Stamps.{lt_trans, le_antisym}
use Rattle.delivery.specs.Heads.{count_before, placed}

pub count_within : (s : Stamp) (ds : List Delivered) → count_before s ds ≤ length ds
count_within s [] = omega arith
count_within s (d ∷ ds) = let ih = count_within s ds in
    elim (stamp_lt s d.stamp) as (λ b. cond b 0 (suc (count_before s ds)) ≤ length (d ∷ ds)) [ true ↦ omega arith | false ↦ omega arith ]

placed-cons : (d e : Delivered) (es : List Delivered) → placed d (e ∷ es) ≡ cond (stamp_lt d.stamp e.stamp) (d ∷ e ∷ es) (e ∷ placed d es)
placed-cons d e es = elim (stamp_lt d.stamp e.stamp) as (λ b. insert (e ∷ es) (cond b 0 (suc (count_before d.stamp es))) d
    ≡ cond b (d ∷ e ∷ es) (e ∷ placed d es)) [ true ↦ refl | false ↦ refl ]

took : (d x e : Delivered) (es : List Delivered) (b : Bool) → (In x (placed d es) → (x ≡ d) ⊎ In x es)
    → In x (cond b (d ∷ e ∷ es) (e ∷ placed d es)) → (x ≡ d) ⊎ In x (e ∷ es)
took d x e es true rest (inl same) = inl same
took d x e es true rest (inr j) = inr j
took d x e es false rest (inl same) = inr (inl same)
took d x e es false rest (inr j) = elim (rest j) [ inl same ↦ inl same | inr k ↦ inr (inr k) ]

pub in_placed : (d x : Delivered) (es : List Delivered) → In x (placed d es) → (x ≡ d) ⊎ In x es
in_placed d x [] (inl e) = inl e
in_placed d x [] (inr i) = absurd i
in_placed d x (e ∷ es) i = took d x e es (stamp_lt d.stamp e.stamp) (in_placed d x es) (subst (λ l. In x l) (placed-cons d e es) i)

gave : (d x e : Delivered) (es : List Delivered) (b : Bool) → ((x ≡ d) ⊎ In x es → In x (placed d es)) → (x ≡ d) ⊎ In x (e ∷ es)
    → In x (cond b (d ∷ e ∷ es) (e ∷ placed d es))
gave d x e es true rest (inl same) = inl same
gave d x e es true rest (inr k) = inr k
gave d x e es false rest (inl same) = inr (rest (inl same))
gave d x e es false rest (inr (inl same)) = inl same
gave d x e es false rest (inr (inr k)) = inr (rest (inr k))

pub placed_in : (d x : Delivered) (es : List Delivered) → (x ≡ d) ⊎ In x es → In x (placed d es)
placed_in d x [] (inl same) = inl same
placed_in d x [] (inr i) = absurd i
placed_in d x (e ∷ es) i = subst (λ l. In x l) (sym (placed-cons d e es)) (gave d x e es (stamp_lt d.stamp e.stamp) (placed_in d x es) i)

pub placed_up : (d : Delivered) (es : List Delivered) → Ascending es → ((e : Delivered) → In e es → e.stamp ≡ d.stamp → ⊥)
    → Ascending (placed d es)
placed_up d [] up differ = ((λ e i. absurd i), tt)
placed_up d (e ∷ es) up differ =
    subst (λ l. Ascending l) (sym (placed-cons d e es))
    (elim (stamp_lt d.stamp e.stamp) as (λ b. stamp_lt d.stamp e.stamp ≡ b → Ascending (cond b (d ∷ e ∷ es) (e ∷ placed d es))) [
      | true ↦ λ h. (
        (λ x i. elim i [
          | inl same ↦ subst (λ (y : Delivered). stamp_lt d.stamp y.stamp ≡ true) (sym same) h
          | inr j ↦ lt_trans d.stamp e.stamp x.stamp h (up.0 x j)
        ]),
        up,
      )
      | false ↦ λ h.
          let less : stamp_lt e.stamp d.stamp ≡ true = elim (cases_Bool (stamp_lt e.stamp d.stamp)) [
            | inl l ↦ l
            | inr l ↦ absurd (differ e (inl refl) (le_antisym e.stamp d.stamp l h))
          ] in (
            (λ x i. elim (in_placed d x es i) [
              | inl same ↦ subst (λ (y : Delivered). stamp_lt e.stamp y.stamp ≡ true) (sym same) less
              | inr j ↦ up.0 x j
            ]),
            placed_up d es up.1 (λ x j. differ x (inr j)),
          )
    ] refl)
