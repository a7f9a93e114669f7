-- Ids of requests and sources of proposals: tests, equality, and their orders.
use Rattle.std.proofs.Common.{◌≡◌, ◌==◌, ◌&&◌, true, false, refl, sym, ap, ◌∙◌, nat_cmp, is_eq, eqb-true, eq-eqb, inl, inr}
use Rattle.std.proofs.lemmas.Bool.{and_parts, and_from, both_ways, cases_Bool}
use Rattle.std.specs.Ordering.{ordering_then, eq_by_cmp}
use Rattle.std.specs.declared.cmp.Ordering.{Ordering}
use Rattle.std.specs.declared.cmp.Ordering.TheVariants.{Less, Equal, Greater}
use Rattle.std.specs.Cmp.{IsTotalOrder, on_total, then_total, nat_cmp_total, unsigned_tied}
use Rattle.std.specs.FinMap.{IsAntisymmetric}
use Rattle.groups.specs.declared.request.RequestId.{RequestId}
use Rattle.groups.specs.Request.{same_id, id_cmp, Source, source_cmp}

pub same_id-true : (i j : RequestId) → same_id i j ≡ true → i ≡ j
same_id-true i j h =
    let parts = and_parts (i.conn.0 == j.conn.0) (i.seq == j.seq) h in
    let conns = eqb-true i.conn.0 j.conn.0 parts.0 in
    let seqs = eqb-true i.seq j.seq parts.1 in
    λ k. record { conn = record { 0 = conns k }; seq = seqs k }

pub eq-same_id : (i j : RequestId) → i ≡ j → same_id i j ≡ true
eq-same_id i j e = and_from (i.conn.0 == j.conn.0) (i.seq == j.seq) (eq-eqb i.conn.0 j.conn.0 (ap (λ k. k.conn.0) e))
    (eq-eqb i.seq j.seq (ap (λ k. k.seq) e))

pub same_id-refl : (i : RequestId) → same_id i i ≡ true
same_id-refl i = eq-same_id i i refl

pub ne-same_id : (i j : RequestId) → (i ≡ j → ⊥) → same_id i j ≡ false
ne-same_id i j ne = elim (cases_Bool (same_id i j)) [ inl e ↦ absurd (ne (same_id-true i j e)) | inr e ↦ e ]

pub same_id-sym : (i j : RequestId) → same_id i j ≡ same_id j i
same_id-sym i j = elim (same_id i j) as (λ b. same_id i j ≡ b → b ≡ same_id j i) [
  | true ↦ λ e. sym (eq-same_id j i (sym (same_id-true i j e)))
  | false ↦ λ e. sym (ne-same_id j i (λ d. both_ways _ e (eq-same_id i j (sym d))))
] refl

-- ---- the orders of the finite maps

then_eq : (a b : Ordering) → is_eq (ordering_then a b) ≡ (is_eq a && is_eq b)
then_eq Less b = refl
then_eq Equal b = refl
then_eq Greater b = refl

pub id_tied : (i j : RequestId) → eq_by_cmp id_cmp i j ≡ same_id i j
id_tied i j = then_eq (nat_cmp i.conn.0 j.conn.0) (nat_cmp i.seq j.seq)
    ∙ ap (λ b. b && is_eq (nat_cmp i.seq j.seq)) (unsigned_tied i.conn.0 j.conn.0)
    ∙ ap (λ b. i.conn.0 == j.conn.0 && b) (unsigned_tied i.seq j.seq)

pub source_tied : (s t : Source) → eq_by_cmp source_cmp s t ≡ (same_id s.id t.id && s.from == t.from)
source_tied s t = then_eq (id_cmp s.id t.id) (nat_cmp s.from t.from)
    ∙ ap (λ b. b && is_eq (nat_cmp s.from t.from)) (id_tied s.id t.id) ∙ ap (λ b. same_id s.id t.id && b) (unsigned_tied s.from t.from)

pub id_total : IsTotalOrder id_cmp
id_total = then_total (on_total (λ i. i.conn.0) nat_cmp_total) (on_total (λ i. i.seq) nat_cmp_total)

pub source_total : IsTotalOrder source_cmp
source_total = then_total (on_total (λ s. s.id) id_total) (on_total (λ s. s.from) nat_cmp_total)

tied_equal : (r : Ordering) → r ≡ Equal → is_eq r ≡ true
tied_equal r e = ap is_eq e

pub id_antisym : IsAntisymmetric id_cmp
id_antisym i j e = same_id-true i j (sym (id_tied i j) ∙ tied_equal _ e)

pub source_antisym : IsAntisymmetric source_cmp
source_antisym s t e =
    let parts = and_parts (same_id s.id t.id) (s.from == t.from) (sym (source_tied s t) ∙ tied_equal _ e) in
    let ids = same_id-true s.id t.id parts.0 in let froms = eqb-true s.from t.from parts.1 in
    λ k. record { id = ids k; from = froms k }
