use Rattle.std.proofs.Common.{rules, ◌≡◌, ℕ, ◌<◌, ◌==◌, ◌&&◌, [], true, false, cond, IsSome, length, Some, refl, sym, ap, ◌∙◌}
use Rattle.std.proofs.Common.{subst, inl, inr, eqb-true, eq-eqb}
use Rattle.std.proofs.lemmas.Bool.{cases_Bool, and_parts, or_from, or_left, or_right}
use Rattle.std.proofs.lemmas.List.{nil_from_length}
use Rattle.std.specs.FinMap.{get}
use Rattle.delivery.specs.Queues.{queue_of}
use Rattle.groups.proofs.Stamps.{final_passed}
use Rattle.groups.specs.GroupSet.{has}
use Rattle.groups.specs.Stamp.{stamp_lt}
use Rattle.groups.specs.declared.stamp.Stamp.{Stamp}
use Rattle.multicast.proofs.Groups.{state_at}
use Rattle.multicast.specs.Multicast.{group_of}
use Rattle.skeen_core.specs.Group.{GroupState, next_clock}
use Rattle.skeen_core.specs.Offers.{Offers}
use Rattle.multicast.proofs.multicast.greatest_offer.Goals as goal
use Rattle.multicast.proofs.multicast.greatest_offer.Goals.{In_ok-clock}

-- one that is left is one of the groups
inside : (c : In_ok-clock) → (g : ℕ) → has c.next.new.self g ≡ true → has c.args.addressed g ≡ true
inside c = λ g there. c.loop-group.invariant.inside g
    (ap (λ l. has l g) c.in-Some.ensures.steps ∙ or_right (c.in-Some.group == g) _ there)

-- the group that was asked
state_is : (c : In_ok-clock) → group_of c.args.groups.now.items c.in-Some.group ≡ c.index.result.now.state
state_is c =
    let gs = c.args.groups.now.items in
    let g = c.in-Some.group in
    let first : has c.loop-group.group-iterator g ≡ true =
    ap (λ l. has l g) c.in-Some.ensures.steps ∙ or_left (g == g) _ (eq-eqb g g refl) in
    let low : g < length gs = c.requires.there g (c.loop-group.invariant.inside g first) in
    let number : c.from.result ≡ g = search rules in
    state_at gs g c.index.result.now low (search rules)

-- it offers what it answered
offers : (c : In_ok-clock) → Offers (group_of c.args.groups.now.items c.in-Some.group) c.args.id c.args.floor c.in_ok-clock.clock
offers c = subst (λ (st : GroupState). Offers st c.args.id c.args.floor c.in_ok-clock.clock) (sym (state_is c)) c.in_ok-clock.ensures.offers

abbrev offered : (c : In_ok-clock) → ℕ → ℕ
offered c g = next_clock (group_of c.args.groups.now.items g) c.args.floor

-- and so does each that was passed
seen : (c : In_ok-clock) → (g : ℕ) → has c.args.addressed g ≡ true → has c.next.new.self g ≡ false →
    Offers (group_of c.args.groups.now.items g) c.args.id c.args.floor (offered c g) × (queue_of c.args.queues.now.queues g ≡ [])
seen c = λ g member passed. elim (cases_Bool (c.in-Some.group == g)) [
  | inl same ↦
      let it = offers c in
      subst (λ k. Offers (group_of c.args.groups.now.items k) c.args.id c.args.floor (offered c k) × (queue_of c.args.queues.now.queues k ≡ []))
      (eqb-true c.in-Some.group g same) (
        subst (λ n. Offers (group_of c.args.groups.now.items c.in-Some.group) c.args.id c.args.floor n) it.clock it,
        nil_from_length (queue_of c.args.queues.now.queues c.in-Some.group) (sym c.queued.ensures ∙ c.if-queued-ne0.false),
      )
  | inr other ↦ c.loop-group.invariant.seen g member
      (ap (λ l. has l g) c.in-Some.ensures.steps ∙ or_from (c.in-Some.group == g) _ other passed)
]

-- where all are said to have delivered an earlier one, those that were passed have
known : (c : In_ok-clock) → (c.loop-group.are_known && c.in_ok-clock.is_known) ≡ true → (g : ℕ) → has c.args.addressed g ≡ true
    → has c.next.new.self g ≡ false → IsSome (get (group_of c.args.groups.now.items g).reached c.args.id.conn.0)
known c all = λ g member passed.
    let parts = and_parts c.loop-group.are_known c.in_ok-clock.is_known all in
    elim (cases_Bool (c.in-Some.group == g)) [
      | inl same ↦ subst (λ k. IsSome (get (group_of c.args.groups.now.items k).reached c.args.id.conn.0)) (eqb-true c.in-Some.group g same)
          (subst (λ (st : GroupState). IsSome (get st.reached c.args.id.conn.0)) (sym (state_is c)) (c.in_ok-clock.ensures.known parts.1))
      | inr other ↦ c.loop-group.invariant.known parts.0 g member
          (ap (λ l. has l g) c.in-Some.ensures.steps ∙ or_from (c.in-Some.group == g) _ other passed)
    ]

pub loop-group-preserved-then-lt : goal.loop-group-preserved-then-lt
loop-group-preserved-then-lt c =
    let at = (goal.at.loop-group-preserved-then-lt c).In_ok-clock in
    let proposed : Stamp = record { clock = c.in_ok-clock.clock; group = c.in-Some.group } in
    let less : stamp_lt c.loop-group.greatest proposed ≡ true = search rules in
    record {
      greatest = final_passed (λ g. Some (offered at g)) _ c.loop-group.greatest proposed c.loop-group.group-iterator c.next.new.self
          c.in-Some.group c.in_ok-clock.clock c.loop-group.invariant.greatest c.in-Some.ensures.steps (ap Some (sym (offers at).clock))
          (ap (λ b. cond {A = Stamp} b proposed c.loop-group.greatest) less);
      inside = inside at;
      seen = seen at;
      known = known at;
    }

pub loop-group-preserved : goal.loop-group-preserved
loop-group-preserved c =
    let at = (goal.at.loop-group-preserved c).In_ok-clock in
    let proposed : Stamp = record { clock = c.in_ok-clock.clock; group = c.in-Some.group } in
    let not_less : stamp_lt c.loop-group.greatest proposed ≡ false = search rules in
    record {
      greatest = final_passed (λ g. Some (offered at g)) _ c.loop-group.greatest c.loop-group.greatest c.loop-group.group-iterator
          c.next.new.self c.in-Some.group c.in_ok-clock.clock c.loop-group.invariant.greatest c.in-Some.ensures.steps
          (ap Some (sym (offers at).clock)) (ap (λ b. cond {A = Stamp} b proposed c.loop-group.greatest) not_less);
      inside = inside at;
      seen = seen at;
      known = known at;
    }
