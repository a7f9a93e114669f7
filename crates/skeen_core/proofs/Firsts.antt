-- The first request settles and stays the first: it goes at once, as if it had been put at its new place before.
use Rattle.std.proofs.Common.{◌≡◌, ℕ, ◌==◌, ◌&&◌, ◌||◌, Bool, true, false, cond, List, [], ◌∷◌, Option, Some, None}
use Rattle.std.proofs.Common.{◌<◌, length, inl, inr, refl, sym, ap, ◌∙◌, subst, arith}
use Rattle.std.proofs.lemmas.Bool.{and_parts, both_ways, cases_Bool}
use Rattle.std.proofs.lemmas.Cmp.{eq_by_cmp_equiv, tied_itself}
use Rattle.std.proofs.lemmas.Map.Keys.{sorted_head}
use Rattle.std.specs.BTreeMap.{insert_entry}
use Rattle.std.specs.FinMap.{FinMap, get, insert, get-insert, same_map}
use Rattle.std.specs.List.{AllByRecursion}
use Rattle.std.specs.List.Sorted.{IsStrictlySortedBy}
use Rattle.std.specs.Map.{keys_of, remove_entry}
use Rattle.std.specs.Ordering.{match_ordering}
use Rattle.std.specs.declared.cmp.Ordering.TheVariants.{Less, Greater}
use Rattle.groups.specs.declared.stamp.Stamp.{Stamp}
use Rattle.groups.specs.Request.{same_id, source_cmp}
use Rattle.groups.specs.Stamp.{stamp_lt}
use Rattle.groups.proofs.Ids.{source_total, source_antisym, source_tied, same_id-sym}
use Rattle.groups.proofs.Stamps.{le_antisym}
use Rattle.skeen_core.specs.Group.{has_id}
use Rattle.skeen_core.specs.Pending.{stamp_cmp, is_place, is_before, stays_first, Entry, at, forgotten, Moves, moved}
use Rattle.skeen_core.specs.declared.packet.Delivered.{Delivered}
use Rattle.skeen_core.specs.declared.pending.Pending.{Pending}
use Rattle.skeen_core.proofs.Fronts.{get_forgotten}
use Rattle.skeen_core.proofs.Places.{stamp_total, lt_less, gt_greater, same_place, is_itself}

-- ---- its new place

before_all : (s t : Stamp) (ks : List Stamp) → stamp_cmp s t ≡ Less → AllByRecursion (λ k. stamp_cmp t k ≡ Less) ks
    → AllByRecursion (λ k. stamp_cmp s k ≡ Less) ks
before_all s t [] less all = tt
before_all s t (k ∷ ks) less all = (stamp_total.trans s t k less all.0, before_all s t ks less all.1)

before_rises : (t : Stamp) (es : List Entry) → is_before t es ≡ true → IsStrictlySortedBy stamp_cmp (keys_of es)
    → IsStrictlySortedBy stamp_cmp (t ∷ keys_of es)
unfolding IsStrictlySortedBy
before_rises t [] before rise = (tt, rise)
before_rises t (e ∷ es) before rise =
    let less = lt_less t e.0 before in ((less, before_all t e.0 (keys_of es) less (sorted_head stamp_cmp e.0 (keys_of es) rise)), rise)

entered_before : (t : Stamp) (p : Pending) (es : List Entry) → is_before t es ≡ true → insert_entry stamp_cmp es t p ≡ (t, p) ∷ es
entered_before t p [] before = refl
entered_before t p (e ∷ es) before =
    ap (λ r. match_ordering r ((t, p) ∷ e ∷ es) ((e.0, p) ∷ es) (e ∷ insert_entry stamp_cmp es t p)) (lt_less t e.0 before)

module _ (s t : Stamp) (p : Pending) (e : Entry) (es : List Entry) where
  pub past_first : s ≡ e.0 → stamp_lt t s ≡ false → is_place s t ≡ false → stamp_cmp t e.0 ≡ Greater
  past_first is not_below apart = elim (cases_Bool (stamp_lt s t)) [
    | inl below ↦ gt_greater e.0 t (ap (λ u. stamp_lt u t) (sym is) ∙ below)
    | inr not_above ↦ absurd (both_ways _ apart (is_itself s t (le_antisym s t not_above not_below)))
  ]

  pub moved_here : s ≡ e.0 → is_place s t ≡ true → moved s t p (e ∷ es) ≡ (e.0, p) ∷ es
  moved_here is here =
      ap (λ b. cond b (insert_entry stamp_cmp (e ∷ es) t p) (remove_entry (is_place s) (insert_entry stamp_cmp (e ∷ es) t p))) here
      ∙ ap (λ r. match_ordering r ((t, p) ∷ e ∷ es) ((e.0, p) ∷ es) (e ∷ insert_entry stamp_cmp es t p))
      (ap (λ u. stamp_cmp u e.0) (sym (same_place s t here) ∙ is) ∙ tied_itself stamp_total e.0)

  pub moved_past : s ≡ e.0 → stamp_lt t s ≡ false → is_place s t ≡ false → moved s t p (e ∷ es) ≡ insert_entry stamp_cmp es t p
  moved_past is not_below apart =
      ap (λ b. cond b (insert_entry stamp_cmp (e ∷ es) t p) (remove_entry (is_place s) (insert_entry stamp_cmp (e ∷ es) t p))) apart
      ∙ ap (λ r. remove_entry (is_place s) (match_ordering r ((t, p) ∷ e ∷ es) ((e.0, p) ∷ es) (e ∷ insert_entry stamp_cmp es t p)))
      (past_first is not_below apart)
      ∙ ap (λ b. cond b (insert_entry stamp_cmp es t p) (e ∷ remove_entry (is_place s) (insert_entry stamp_cmp es t p)))
      (is_itself s e.0 is)

  moved_first : stays_first s t (e ∷ es) ≡ true → stamp_lt t s ≡ false → moved s t p (e ∷ es) ≡ (t, p) ∷ es
  moved_first stays not_below =
      let parts = and_parts (is_place s e.0) (is_before t es) stays in
      let is = same_place s e.0 parts.0 in
      elim (cases_Bool (is_place s t)) [
        | inl here ↦ moved_here is here ∙ ap (λ u. (u, p) ∷ es) (sym is ∙ same_place s t here)
        | inr apart ↦ moved_past is not_below apart ∙ entered_before t p es parts.1
      ]

  moves_first : stays_first s t (e ∷ es) ≡ true → IsStrictlySortedBy stamp_cmp (keys_of es)
      → ((q : Stamp) → at es q ≡ cond (is_place e.0 q) None (at (e ∷ es) q)) → Moves s t p (e ∷ es) ((t, p) ∷ es)
  moves_first stays rise left =
      let parts = and_parts (is_place s e.0) (is_before t es) stays in
      record {
        rise = before_rises t es parts.1 rise;
        at = λ q. ap (λ b. cond b (Some p) (at es q)) ((eq_by_cmp_equiv stamp_total).symm q t)
            ∙ ap (cond (is_place t q) (Some p))
            (left q ∙ ap (λ u. cond (is_place u q) None (at (e ∷ es) q)) (sym (same_place s e.0 parts.0)));
      }

-- the first entry of old was taken out
pub record Popped (old new : List Entry) : Type 0 where
  pub first : Entry
  pub was : old ≡ first ∷ new
  pub rise : IsStrictlySortedBy stamp_cmp (keys_of new)
  pub left : (q : Stamp) → at new q ≡ cond (is_place first.0 q) None (at old q)

-- if it stays the first, it has moved in front of the others
pub record GoesFirst (s t : Stamp) (p : Pending) (old new : List Entry) : Type 0 where
  pub made : moved s t p old ≡ (t, p) ∷ new
  pub moves : Moves s t p old (moved s t p old)

pub goes_first : (s t : Stamp) (p : Pending) (old new : List Entry) → Popped old new → stays_first s t old ≡ true → stamp_lt t s ≡ false
    → GoesFirst s t p old new
goes_first s t p old new popped stays not_below =
    let first : stays_first s t (popped.first ∷ new) ≡ true = ap (stays_first s t) (sym popped.was) ∙ stays in
    let left = subst (λ (l : List Entry). (q : Stamp) → at new q ≡ cond (is_place popped.first.0 q) None (at l q)) popped.was popped.left in
    let made : moved s t p old ≡ (t, p) ∷ new =
    ap (moved s t p) popped.was ∙ moved_first s t p popped.first new first not_below in record {
      made = made;
      moves = subst (λ (l : List Entry). Moves s t p old l) (sym made) (subst (λ (l : List Entry). Moves s t p l ((t, p) ∷ new))
          (sym popped.was) (moves_first s t p popped.first new first popped.rise left));
    }

pub some_first : (s t : Stamp) (es : List Entry) → stays_first s t es ≡ true → 0 < length es
some_first s t [] stays = absurd (both_ways _ refl stays)
some_first s t (e ∷ es) stays = omega arith

-- ---- its proposals

-- of what is forgotten it is the same whether a proposal has come before
pub forget_told : (d : Delivered) (ds : List Delivered) (ps : FinMap source_cmp ℕ) (from n : ℕ)
    → forgotten (d ∷ ds) (insert ps (record { id = d.id; from = from }) n) ≡ forgotten (d ∷ ds) ps
forget_told d ds ps from n = same_map source_total source_antisym _ _ (λ s.
    get_forgotten (d ∷ ds) (insert ps (record { id = d.id; from = from }) n) s
    ∙ ap (cond (has_id (d ∷ ds) s.id) None) (get-insert source_total ps (record { id = d.id; from = from }) n s
    ∙ ap (λ b. cond b (Some n) (get ps s)) (source_tied s (record { id = d.id; from = from })
    ∙ ap (λ b. b && s.from == from) (same_id-sym s.id d.id)))
    ∙ gone (same_id d.id s.id) (s.from == from) (has_id ds s.id) n (get ps s) ∙ sym (get_forgotten (d ∷ ds) ps s))
  where
    gone : (a b c : Bool) (n : ℕ) (x : Option ℕ) → cond (a || c) None (cond (a && b) (Some n) x) ≡ cond (a || c) None x
    gone true b c n x = refl
    gone false b c n x = refl
