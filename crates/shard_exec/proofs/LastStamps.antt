-- The last stamp of a shard when a layer was run.
use Rattle.std.proofs.Common.{◌≡◌, ℕ, zero, suc, ◌<◌, ◌==◌, ◌⊎◌, true, false, List, [], ◌∷◌, Option, Some, None, length, slice_set}
use Rattle.std.proofs.Common.{inl, inr, refl, sym, ap, ◌∙◌, subst, eq-eqb, eqb-true}
use Rattle.std.proofs.lemmas.Bool.{or_cases, or_left, or_right}
use Rattle.std.proofs.lemmas.List.{length-set, get_or-set_same}
use Rattle.groups.proofs.Stamps.{lt_irrefl, lt_asym, le_lt}
use Rattle.groups.specs.GroupSet.{has}
use Rattle.groups.specs.Order.{In}
use Rattle.groups.specs.Stamp.{stamp_lt}
use Rattle.groups.specs.declared.stamp.Stamp.{Stamp}
use Rattle.layer_planner.specs.Layers.{StandTogether}
use Rattle.layer_planner.specs.declared.job.Job.{Job}
use Rattle.shard_exec.specs.Reached.{HasReached}
use Rattle.shard_exec.specs.Stamps.{last_of, is_above, AreFresh, raise, raised}

set_last : (lasts : List (Option Stamp)) (g : ℕ) (x : Option Stamp) (n : ℕ)
    → (last_of (slice_set lasts g x) n ≡ last_of lasts n) ⊎ ((g ≡ n) × (last_of (slice_set lasts g x) n ≡ x))
set_last [] g x n = inl refl
set_last (l ∷ ls) zero x zero = inr (refl, refl)
set_last (l ∷ ls) zero x (suc n) = inl refl
set_last (l ∷ ls) (suc g) x zero = inl refl
set_last (l ∷ ls) (suc g) x (suc n) = elim (set_last ls g x n) [ inl e ↦ inl e | inr e ↦ inr (ap suc e.0, e.1) ]

raise_last : (lasts : List (Option Stamp)) (gs : List ℕ) (stamp : Stamp) (n : ℕ)
    → (last_of (raise lasts gs stamp) n ≡ last_of lasts n)
    ⊎ ((has gs n ≡ true) × (last_of (raise lasts gs stamp) n ≡ Some stamp))
raise_last lasts [] stamp n = inl refl
raise_last lasts (g ∷ gs) stamp n = elim (raise_last (slice_set lasts g (Some stamp)) gs stamp n) [
  | inr e ↦ inr (or_right _ _ e.0, e.1)
  | inl e ↦ elim (set_last lasts g (Some stamp) n) [
    | inl d ↦ inl (e ∙ d)
    | inr d ↦ inr (or_left _ _ (eq-eqb g n d.0), e ∙ d.1)
  ]
]

-- a shard's last stamp is as it was, or that of a request of the layer which addresses the shard
pub raised_last : (lasts : List (Option Stamp)) (js : List Job) (n : ℕ)
    → (last_of (raised lasts js) n ≡ last_of lasts n)
    ⊎ ((j : Job) × In j js × (has j.groups n ≡ true) × (last_of (raised lasts js) n ≡ Some j.stamp))
raised_last lasts [] n = inl refl
raised_last lasts (j ∷ js) n = elim (raised_last (raise lasts j.groups j.stamp) js n) [
  | inr e ↦ inr (e.0, inr e.1, e.2, e.3)
  | inl e ↦ elim (raise_last lasts j.groups j.stamp n) [
    | inl d ↦ inl (e ∙ d)
    | inr d ↦ inr (j, inl refl, d.0, e ∙ d.1)
  ]
]

length-raise : (lasts : List (Option Stamp)) (gs : List ℕ) (stamp : Stamp) → length (raise lasts gs stamp) ≡ length lasts
length-raise lasts [] stamp = refl
length-raise lasts (g ∷ gs) stamp = length-raise (slice_set lasts g (Some stamp)) gs stamp ∙ length-set lasts g (Some stamp)

raise_there : (lasts : List (Option Stamp)) (gs : List ℕ) (stamp : Stamp) (n : ℕ) → n < length lasts → has gs n ≡ true
    → last_of (raise lasts gs stamp) n ≡ Some stamp
raise_there lasts [] stamp n below there = absurd (let e = there in cc)
raise_there lasts (g ∷ gs) stamp n below there = elim (raise_last (slice_set lasts g (Some stamp)) gs stamp n) [
  | inr e ↦ e.1
  | inl e ↦ elim (or_cases (g == n) (has gs n) there) [
    | inl is ↦ e ∙ subst (λ m. last_of (slice_set lasts m (Some stamp)) n ≡ Some stamp) (sym (eqb-true g n is))
        (get_or-set_same lasts n (Some stamp) None below)
    | inr later ↦ raise_there (slice_set lasts g (Some stamp)) gs stamp n
        (subst (λ m. n < m) (sym (length-set lasts g (Some stamp))) below) later
  ]
]

-- a shard's last stamp is not below that of any request of the layer which addresses the shard
pub raised_reaches : (lasts : List (Option Stamp)) (js : List Job) (n : ℕ) → n < length lasts → StandTogether js
    → (j : Job) → In j js → has j.groups n ≡ true → HasReached (last_of (raised lasts js) n) j.stamp
raised_reaches lasts [] n below together j there member = absurd there
raised_reaches lasts (k ∷ ks) n below together j (inr later) member =
    raised_reaches (raise lasts k.groups k.stamp) ks n (subst (λ m. n < m) (sym (length-raise lasts k.groups k.stamp)) below)
    together.1 j later member
raised_reaches lasts (k ∷ ks) n below together j (inl same) member =
    subst (λ (x : Job). HasReached (last_of (raised lasts (k ∷ ks)) n) x.stamp) (sym same)
    (elim (raised_last (raise lasts k.groups k.stamp) ks n) [
      | inl e ↦ (k.stamp, e ∙ raise_there lasts k.groups k.stamp n below here, lt_irrefl k.stamp)
      | inr e ↦ (e.0.stamp, e.3, lt_asym k.stamp e.0.stamp (together.0 e.0 e.1 n here e.2).2)
    ])
  where
    here : has k.groups n ≡ true
    here = ap (λ (x : Job). has x.groups n) (sym same) ∙ member

-- and not below what it was
pub raised_rises : (lasts : List (Option Stamp)) (js : List Job) (n : ℕ) (stamp : Stamp) → AreFresh lasts js
    → HasReached (last_of lasts n) stamp → HasReached (last_of (raised lasts js) n) stamp
raised_rises lasts js n stamp fresh before = elim (raised_last lasts js n) [
  | inl e ↦ (before.0, e ∙ before.1, before.2)
  | inr e ↦ (e.0.stamp, e.3, later e.0 (above lasts js e.0 n fresh e.1 e.2))
]
  where
    above : (lasts : List (Option Stamp)) (js : List Job) (j : Job) (n : ℕ) → AreFresh lasts js → In j js → has j.groups n ≡ true
        → is_above (last_of lasts n) j.stamp ≡ true
    above lasts [] j n fresh there member = absurd there
    above lasts (k ∷ ks) j n fresh (inl same) member =
        subst (λ (x : Job). is_above (last_of lasts n) x.stamp ≡ true) (sym same)
        (fresh.0 n (ap (λ (x : Job). has x.groups n) (sym same) ∙ member))
    above lasts (k ∷ ks) j n fresh (inr later) member = above lasts ks j n fresh.1 later member

    later : (j : Job) → is_above (last_of lasts n) j.stamp ≡ true → stamp_lt j.stamp stamp ≡ false
    later j is = le_then before.0 j.stamp stamp before.2 (ap (λ l. is_above l j.stamp) (sym before.1) ∙ is)
      where
        le_then : (s t u : Stamp) → stamp_lt s u ≡ false → stamp_lt s t ≡ true → stamp_lt t u ≡ false
        le_then s t u h k = lt_asym u t (le_lt u s t h k)
