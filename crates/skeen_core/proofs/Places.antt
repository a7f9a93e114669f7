-- Stamps as the keys of a map.
use Rattle.std.proofs.Common.{◌≡◌, ◌==◌, ◌&&◌, true, false, cond, Bool, Some, refl, sym, ap, ◌∙◌, eqb-true, nat_cmp, is_eq}
use Rattle.std.proofs.Common.{List, ◌∷◌, inl, inr}
use Rattle.std.proofs.lemmas.Bool.{and_parts, cases_Bool}
use Rattle.std.proofs.lemmas.Bool.Decides.{nat_tests}
use Rattle.std.proofs.Common.{arith}
use Rattle.std.proofs.lemmas.Cmp.{eq_by_cmp_equiv}
use Rattle.std.proofs.lemmas.Map.Keys.{sorted_head, IsDistinct-from_sorted}
use Rattle.std.proofs.lemmas.Map.Lookups.{CmpEqualImpliesEq}
use Rattle.std.specs.Cmp.{IsTotalOrder, on_total, then_total, nat_cmp_total, unsigned_tied, tied_then}
use Rattle.std.specs.List.Sorted.{IsStrictlySortedBy}
use Rattle.std.specs.Map.{keys_of}
use Rattle.std.specs.declared.cmp.Ordering.TheVariants.{Less, Greater}
use Rattle.groups.specs.Order.{In}
use Rattle.groups.specs.Stamp.{stamp_lt}
use Rattle.groups.specs.declared.stamp.Stamp.{Stamp}
use Rattle.skeen_core.specs.Pending.{stamp_cmp, is_place, Entry, at}
use Rattle.skeen_core.specs.declared.pending.Pending.{Pending}
use Rattle.skeen_core.proofs.Entries.{all_keys, same_key, key_same, found, stands}

pub stamp_total : IsTotalOrder stamp_cmp
stamp_total = then_total (on_total (λ (s : Stamp). s.clock) nat_cmp_total) (on_total (λ (s : Stamp). s.group) nat_cmp_total)

pub stamp_exact : CmpEqualImpliesEq stamp_cmp
stamp_exact s t e =
    let parts = and_parts (s.clock == t.clock) (s.group == t.group)
    (sym (sym (tied_then (nat_cmp s.clock t.clock) (nat_cmp s.group t.group))
    ∙ ap (λ b. b && is_eq (nat_cmp s.group t.group)) (unsigned_tied s.clock t.clock)
    ∙ ap (λ b. s.clock == t.clock && b) (unsigned_tied s.group t.group)) ∙ ap is_eq e) in
    let clocks = eqb-true s.clock t.clock parts.0 in let groups = eqb-true s.group t.group parts.1 in
    λ k. record { clock = clocks k; group = groups k }

pub less_lt : (s t : Stamp) → stamp_cmp s t ≡ Less → stamp_lt s t ≡ true
less_lt s t e = grind (arith, nat_tests)

pub lt_less : (s t : Stamp) → stamp_lt s t ≡ true → stamp_cmp s t ≡ Less
lt_less s t e = grind (arith, nat_tests)

pub gt_greater : (s t : Stamp) → stamp_lt s t ≡ true → stamp_cmp t s ≡ Greater
gt_greater s t e = grind (arith, nat_tests)

pub same_place : (s t : Stamp) → is_place s t ≡ true → s ≡ t
same_place s t e = same_key stamp_total stamp_exact s t e

pub is_itself : (s t : Stamp) → s ≡ t → is_place s t ≡ true
is_itself s t e = key_same stamp_total stamp_exact s t e

pub is_other : (s t : Stamp) → (s ≡ t → ⊥) → is_place s t ≡ false
is_other s t ne = elim (cases_Bool (is_place s t)) [ inl e ↦ absurd (ne (same_place s t e)) | inr e ↦ e ]

-- ---- entries in the order of their places

pub above_first : (x e : Entry) (es : List Entry) → IsStrictlySortedBy stamp_cmp (keys_of (x ∷ es)) → In e es → stamp_lt x.0 e.0 ≡ true
above_first x e es rise there = less_lt x.0 e.0
    (all_keys (λ y. stamp_cmp x.0 y ≡ Less) es e (sorted_head stamp_cmp x.0 (keys_of es) rise) there)

pub at_its_place : (es : List Entry) (e : Entry) → IsStrictlySortedBy stamp_cmp (keys_of es) → In e es → at es e.0 ≡ Some e.1
at_its_place es e rise there =
    found (eq_by_cmp_equiv stamp_total) es e (IsDistinct-from_sorted stamp_cmp (keys_of es) rise) there

pub in_place : (es : List Entry) (s : Stamp) (p : Pending) → at es s ≡ Some p → In (s, p) es
in_place es s p e = stands same_place es s p e

pub absorbed : {X : Type 0} (b : Bool) (x y z : X) → cond b x (cond b y z) ≡ cond b x z
absorbed true x y z = refl
absorbed false x y z = refl
