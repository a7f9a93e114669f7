use Rattle.std.proofs.Common.{rules, ◌≡◌, ◌<◌, ◌≤◌, ◌==◌, true, IsSome, length, refl, sym, ap, ◌∙◌, subst, arith}
use Rattle.std.proofs.Common.{eq-eqb}
use Rattle.std.proofs.lemmas.Bool.{or_left}
use Rattle.std.specs.FinMap.{get}
use Rattle.groups.specs.GroupSet.{has}
use Rattle.multicast.proofs.Groups.{state_at}
use Rattle.multicast.specs.Multicast.{group_of}
use Rattle.skeen_core.specs.Group.{GroupState}
use Rattle.multicast.proofs.multicast.settle_all.Goals as goal
use Rattle.multicast.proofs.multicast.settle_all.Goals.{After-from, After-index_mut}

-- the next group is one of those that are left, and it is there
record Next (c : After-from) : Type 0 where
  pub first : has c.loop-group.group-iterator c.in-Some.group ≡ true
  pub member : has c.args.addressed c.in-Some.group ≡ true
  pub low : c.in-Some.group < length c.loop-group.groups.items
  pub number : c.from.result ≡ c.in-Some.group

next : (c : After-from) → Next c
next c =
    let g = c.in-Some.group in
    let first : has c.loop-group.group-iterator g ≡ true =
    ap (λ l. has l g) c.in-Some.ensures.steps ∙ or_left (g == g) _ (eq-eqb g g refl) in
    let member = c.loop-group.invariant.within g first in
    let there = c.requires.there g member in record {
      first = first;
      member = member;
      low = omega (arith, there, c.loop-group.invariant.count);
      number = search rules;
    }

pub index_mut-requires : goal.index_mut-requires
index_mut-requires c =
    let it = next (goal.at.index_mut-requires c).After-from in
    let low = it.low in
    let number = it.number in
    search rules

-- it is as it was
state_is : (c : After-index_mut) → group_of c.args.groups.now.items c.in-Some.group ≡ c.index_mut.result.now.state
state_is c =
    let it = next (goal.at.After-index_mut c).After-from in
    let low = it.low in
    let number = it.number in
    sym (c.loop-group.invariant.left c.in-Some.group it.first)
    ∙ state_at c.loop-group.groups.items c.in-Some.group c.index_mut.result.now low (search rules)

pub unreachable-requires : goal.unreachable-requires
unreachable-requires c =
    let at = goal.at.unreachable-requires c in
    let it = next at.After-from in
    let known = subst (λ (st : GroupState). IsSome (get st.reached c.args.id.conn.0)) (state_is at.After-index_mut)
    (c.requires.known c.in-Some.group it.member) in
    absurd (let done = c.in_default.ensures.succeeds known in cc)

pub settle-requires : goal.settle-requires
settle-requires c =
    let at = goal.at.settle-requires c in
    let it = next at.After-from in
    subst (λ (st : GroupState). st.clock ≤ c.args.clock) (state_is at.After-index_mut) (c.requires.low c.in-Some.group it.member)
