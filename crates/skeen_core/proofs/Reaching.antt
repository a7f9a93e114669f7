-- What a group has reached: which requests are past, and that nothing else looks at it.
use Rattle.std.proofs.Common.{◌≡◌, ℕ, ◌≤◌, ◌==◌, ◌↔◌, ◌⊎◌, max, Bool, true, false, cond, List, [], ◌∷◌, ◌++◌, inl, inr, Option, Some, None}
use Rattle.std.proofs.Common.{refl, sym, ap, ◌∙◌, subst, arith, eqb-true, eq-eqb}
use Rattle.std.proofs.lemmas.Bool.{both_ways, cases_Bool, leb-true, leb-false, le-leb}
use Rattle.std.specs.Cmp.{nat_cmp_total, unsigned_tied}
use Rattle.std.specs.FinMap.{FinMap, get, insert, get-insert, get-empty}
use Rattle.std.specs.Ordering.{nat_cmp}
use Rattle.groups.specs.declared.request.RequestId.{RequestId}
use Rattle.groups.proofs.Lists.{In-left, In-right, In-append}
use Rattle.skeen_core.specs.declared.packet.Delivered.{Delivered}
use Rattle.skeen_core.specs.Group.{GroupState, fresh, or_zero, is_up_to, is_past, reached_by, reaching}
use Rattle.skeen_core.specs.Lawful.{Sound, Lawful}
use Rattle.skeen_core.specs.Runs.{HasReached}
use Rattle.skeen_core.proofs.Ahead.{Going}

-- ---- which requests are past

-- the request is past by these numbers
abbrev passes : FinMap nat_cmp ℕ → RequestId → Bool
passes reached i = is_up_to (get reached i.conn.0) i.seq

up_to_later : (o : Option ℕ) (s n : ℕ) → (is_up_to (Some (max (or_zero o) s)) n ≡ true) ↔ ((is_up_to o n ≡ true) ⊎ (n ≤ s))
up_to_later None s n = (
  λ e. inr (let it = leb-true n (max 0 s) e in omega arith),
  elim [ inl e ↦ absurd (both_ways _ refl e) | inr e ↦ le-leb n (max 0 s) (omega arith) ],
)
up_to_later (Some m) s n = (
  λ e. let it = leb-true n (max m s) e in elim (cases_Bool (is_up_to (Some m) n)) [
    | inl past ↦ inl past
    | inr above ↦ inr (let more = leb-false n m above in omega arith)
  ],
  elim [ inl e ↦ (let it = leb-true n m e in le-leb n (max m s) (omega arith)) | inr e ↦ le-leb n (max m s) (omega arith) ],
)

-- one more is delivered, of the connection c
past_one : (reached : FinMap nat_cmp ℕ) (c s : ℕ) (i : RequestId) →
    (passes (insert reached c (max (or_zero (get reached c)) s)) i ≡ true) ↔ ((passes reached i ≡ true) ⊎ ((c ≡ i.conn.0) × (i.seq ≤ s)))
past_one reached c s i = elim (cases_Bool (i.conn.0 == c)) [
  | inl e ↦
      let same = eqb-true i.conn.0 c e in
      let later = up_to_later (get reached c) s i.seq in
      let now : get (insert reached c most) i.conn.0 ≡ Some most = looked ∙ ap (λ b. cond b (Some most) (get reached i.conn.0)) e in
      let was : get reached i.conn.0 ≡ get reached c = ap (get reached) same in (
        λ p. elim (later.0 (ap (λ o. is_up_to o i.seq) (sym now) ∙ p)) [
          | inl before ↦ inl (ap (λ o. is_up_to o i.seq) was ∙ before)
          | inr low ↦ inr (sym same, low)
        ],
        elim [
          | inl before ↦ ap (λ o. is_up_to o i.seq) now ∙ later.1 (inl (ap (λ o. is_up_to o i.seq) (sym was) ∙ before))
          | inr low ↦ ap (λ o. is_up_to o i.seq) now ∙ later.1 (inr low.1)
        ],
      )
  | inr e ↦
      let now : get (insert reached c most) i.conn.0 ≡ get reached i.conn.0 =
      looked ∙ ap (λ b. cond b (Some most) (get reached i.conn.0)) e in (
        λ p. inl (ap (λ o. is_up_to o i.seq) (sym now) ∙ p),
        elim [
          | inl before ↦ ap (λ o. is_up_to o i.seq) now ∙ before
          | inr low ↦ absurd (both_ways _ e (eq-eqb i.conn.0 c (sym low.0)))
        ],
      )
]
  where
    most : ℕ
    most = max (or_zero (get reached c)) s

    looked : get (insert reached c (max (or_zero (get reached c)) s)) i.conn.0
        ≡ cond (i.conn.0 == c) (Some (max (or_zero (get reached c)) s)) (get reached i.conn.0)
    looked = get-insert nat_cmp_total reached c (max (or_zero (get reached c)) s) i.conn.0
        ∙ ap (λ b. cond b (Some (max (or_zero (get reached c)) s)) (get reached i.conn.0)) (unsigned_tied i.conn.0 c)

past_all : (reached : FinMap nat_cmp ℕ) (ds : List Delivered) (i : RequestId) →
    (passes (reached_by reached ds) i ≡ true) ↔ ((passes reached i ≡ true) ⊎ HasReached ds i)
past_all reached [] i = (λ p. inl p, elim [ inl p ↦ p | inr none ↦ absurd none.1 ])
past_all reached (d ∷ ds) i =
    let one = past_one reached d.id.conn.0 d.id.seq i in
    let rest = past_all (insert reached d.id.conn.0 (max (or_zero (get reached d.id.conn.0)) d.id.seq)) ds i in (
      λ p. elim (rest.0 p) [
        | inl first ↦ elim (one.0 first) [ inl before ↦ inl before | inr now ↦ inr (d, inl refl, now.0, now.1) ]
        | inr later ↦ inr (later.0, inr later.1, later.2, later.3)
      ],
      elim [
        | inl before ↦ rest.1 (inl (one.1 (inl before)))
        | inr (e, inl same, conn, low) ↦ rest.1 (inl (one.1 (inr (
          ap (λ (x : Delivered). x.id.conn.0) (sym same) ∙ conn,
          subst (λ (x : Delivered). i.seq ≤ x.id.seq) same low,
        ))))
        | inr (e, inr there, conn, low) ↦ rest.1 (inr (e, there, conn, low))
      ],
    )

pub past_reaching : (grp : GroupState) (ds : List Delivered) (i : RequestId) →
    (is_past (reaching grp ds) i ≡ true) ↔ ((is_past grp i ≡ true) ⊎ HasReached ds i)
past_reaching grp ds i = past_all grp.reached ds i

-- a new group has passed nothing
pub none_past : (i : RequestId) → is_past fresh i ≡ false
none_past i = ap (λ o. is_up_to o i.seq) (get-empty nat_cmp i.conn.0)

-- what was reached before, or since
pub reached-append : (before ds : List Delivered) (i : RequestId) → HasReached (before ++ ds) i ↔ (HasReached before i ⊎ HasReached ds i)
reached-append before ds i = (
  λ it. elim (In-append it.0 before ds it.1) [
    | inl there ↦ inl (it.0, there, it.2, it.3)
    | inr there ↦ inr (it.0, there, it.2, it.3)
  ],
  elim [
    | inl it ↦ (it.0, In-left it.0 before ds it.1, it.2, it.3)
    | inr it ↦ (it.0, In-right it.0 before ds it.1, it.2, it.3)
  ],
)

-- ---- nothing else looks at it

pub sound_reaching : (me : ℕ) (grp : GroupState) (ds : List Delivered) → Sound me grp → Sound me (reaching grp ds)
sound_reaching me grp ds sound = record { apart = sound.apart; own = sound.own; started = sound.started; tops = sound.tops }

pub lawful_reaching : (me : ℕ) (grp : GroupState) (ds : List Delivered) → Lawful me grp → Lawful me (reaching grp ds)
lawful_reaching me grp ds lawful = record {
  sound = sound_reaching me grp ds lawful.sound;
  stuck = λ d may. lawful.stuck d (record { started = may.started; stamp = may.stamp; below = may.below });
}

pub going_reaching : (me : ℕ) (grp : GroupState) (log ds : List Delivered) → Going me grp log → Going me (reaching grp ds) log
going_reaching me grp log ds going = record {
  lawful = lawful_reaching me grp ds going.lawful;
  ahead = record { clock = going.ahead.clock; below = going.ahead.below };
  ascending = going.ascending;
}
