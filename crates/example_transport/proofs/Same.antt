-- Two deliveries that are compared field by field.
use Rattle.std.proofs.Common.{◌≡◌, Bool, true, ◌==◌, ◌&&◌, nat_eq, refl, eqb-true, eq-eqb, subst}
use Rattle.std.proofs.lemmas.Bool.{and_parts}
use Rattle.std.proofs.lemmas.Slice.Eq.{bytes_eq-Decides}
use Rattle.std.specs.Bool.{Decides}
use Rattle.std.specs.Cmp.Lexicographic.{pointwise}
use Rattle.groups.proofs.Ids.{same_id-true, same_id-refl}
use Rattle.groups.specs.Request.{same_id}
use Rattle.skeen_core.specs.declared.packet.Delivered.{Delivered}

-- as `==` does
abbrev pub same : Delivered → Delivered → Bool
same a b = same_id a.id b.id
    && (((a.stamp.clock == b.stamp.clock) && (a.stamp.group == b.stamp.group)) && pointwise nat_eq a.groups b.groups)

alike : (a b : Delivered) → same a b ≡ true → a ≡ b
alike a b h =
    let parts = and_parts _ _ h in
    let rest = and_parts _ _ parts.1 in
    let stamp = and_parts _ _ rest.0 in
    let id : a.id ≡ b.id = same_id-true a.id b.id parts.0 in
    let clock : a.stamp.clock ≡ b.stamp.clock = eqb-true _ _ stamp.0 in
    let group : a.stamp.group ≡ b.stamp.group = eqb-true _ _ stamp.1 in
    let groups : a.groups ≡ b.groups = (bytes_eq-Decides a.groups b.groups).0 rest.1 in
    λ k. record { id = id k; stamp = record { clock = clock k; group = group k }; groups = groups k }

itself : (a : Delivered) → same a a ≡ true
itself a =
    let id : same_id a.id a.id ≡ true = same_id-refl a.id in
    let clock : (a.stamp.clock == a.stamp.clock) ≡ true = eq-eqb a.stamp.clock a.stamp.clock refl in
    let group : (a.stamp.group == a.stamp.group) ≡ true = eq-eqb a.stamp.group a.stamp.group refl in
    let groups : pointwise nat_eq a.groups a.groups ≡ true = (bytes_eq-Decides a.groups a.groups).1 refl in
    rw (id, clock, group, groups) refl

-- so it tells whether they are the same
pub same-Decides : (a b : Delivered) → Decides (same a b) (a ≡ b)
same-Decides a b = (alike a b, λ e. let P : Delivered → Type 0 = λ d. same a d ≡ true in subst P e (itself a))
