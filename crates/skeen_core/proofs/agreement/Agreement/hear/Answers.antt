-- A Proposal: what the code has made is what the rule gives.
use Rattle.std.proofs.Common.{◌+◌, is_some, sym, ap, ◌∙◌, arith}
use Rattle.skeen_core.proofs.Hearings.{Hearing, Told, Settles, Done, new, waits, less, settles, no_lower, settles_free, go_few, flag_few}
use Rattle.skeen_core.proofs.Hearings.{known_done, noted_done, lowered_done, settled_done}
use Rattle.skeen_core.proofs.agreement.Agreement.hear.Goals as goal
use Rattle.skeen_core.proofs.agreement.Agreement.hear.Goals.{After-of-list, Else-is_some, After-new-in_default, In-Some-final_once}
use Rattle.skeen_core.proofs.agreement.Agreement.hear.Goals.{After-new-in_default-final_once, After-stayed}

hears : (c : After-of-list) → Hearing c.args.self.now c.self.inside.id c.self.inside.clock c.self.inside.pending.entries
    c.self.inside.proposals c.self.inside.looks c.args.id c.args.last c.of-list.result.now
hears c = record { kept = c.self.invariant; shows = c.self.view_is; may = c.requires.body; tells = c.of-list.ensures }

told : (c : Else-is_some) → Told c.self.inside.id c.self.inside.clock c.self.inside.pending.entries c.self.inside.proposals c.args.id
    c.args.last
told c = new (hears (goal.at.Else-is_some c).After-of-list)
    (ap is_some (sym c.clock_of.ensures) ∙ sym c.is_some.ensures ∙ c.if-is_some.false)

pub returns-then-is_some-clause-done : goal.returns-then-is_some-clause-done
returns-then-is_some-clause-done c = (known_done (hears (goal.at.returns-then-is_some-clause-done c).After-of-list)
    (ap is_some (sym c.clock_of.ensures) ∙ sym c.is_some.ensures ∙ c.if-is_some.true) _ c.new.ensures.items).receipt

-- ---- nothing waits for it
noted : (c : After-new-in_default) → Done c.args.self.now c.args.id c.args.last c.new-in_default.result.items c.self.inside.id
    c.self.inside.clock c.self.inside.pending.entries c.add.new.self c.from-self-inside.result
noted c =
    let d = goal.at.After-new-in_default c in
    noted_done (hears d.After-of-list) (told d.Else-is_some) _ c.clock_of-own.ensures (sym c.waiting.ensures ∙ c.in_default.is) _
    c.in_ok-add.ensures.added _ c.new-in_default.ensures.items _ (flag_few c.is_some-in_default.result _ c.from-self-inside.ensures)

pub invariant_of-self-in_default : goal.invariant_of-self-in_default
invariant_of-self-in_default c = (noted c).kept

pub returns-in_default-clause-done : goal.returns-in_default-clause-done
returns-in_default-clause-done c = (noted c).receipt

-- ---- another proposal is missing
pub lower-requires : goal.lower-requires
lower-requires c =
    let d = goal.at.lower-requires c in
    let w = waits (hears d.After-of-list) _ _ _ c.clock_of-own.ensures (sym c.waiting.ensures ∙ c.in-Some.is) in
    let fewer = less (told d.Else-is_some) w in (c.in-Some.request, w.there, omega arith)

lowered : (c : After-new-in_default-final_once) → Done c.args.self.now c.args.id c.args.last c.new-in_default-final_once.result.items
    c.self.inside.id c.self.inside.clock c.lower.new.pending.entries c.add-in_default-final_once.new.self 1
lowered c =
    let d = goal.at.After-new-in_default-final_once c in let h = hears d.After-of-list in
    let w = waits h _ _ _ c.clock_of-own.ensures (sym c.waiting.ensures ∙ c.in-Some.is) in
    lowered_done h (told d.Else-is_some) w c.in_default-final_once.ensures.few _ (c.lower.ensures c.in-Some.request w.there) _
    c.in_ok-add-2.ensures.added _ c.new-in_default-final_once.ensures.items

pub invariant_of-self-in_default-final_once : goal.invariant_of-self-in_default-final_once
invariant_of-self-in_default-final_once c = (lowered c).kept

pub returns-in_default-final_once-clause-done : goal.returns-in_default-final_once-clause-done
returns-in_default-final_once-clause-done c = (lowered c).receipt

-- ---- it was the last one

last_one : (c : In-Some-final_once) → Settles c.self.inside.id c.self.inside.clock c.self.inside.pending.entries c.self.inside.proposals
    c.args.id c.args.last c.in-Some.place c.in-Some.request c.in-Some-final_once.stamp
last_one c =
    let d = goal.at.In-Some-final_once c in let h = hears d.After-of-list in
    settles h (told d.Else-is_some) (waits h _ _ _ c.clock_of-own.ensures (sym c.waiting.ensures ∙ c.in-Some.is))
    c.in-Some-final_once.stamp c.in-Some-final_once.ensures.many c.in-Some-final_once.ensures.few

pub settle-requires-clause-free : goal.settle-requires-clause-free
settle-requires-clause-free c =
    let it = last_one (goal.at.settle-requires-clause-free c).In-Some-final_once in settles_free it.told it.waits _ it.final

pub settle-requires-clause-not_below : goal.settle-requires-clause-not_below
settle-requires-clause-not_below c =
    let it = last_one (goal.at.settle-requires-clause-not_below c).In-Some-final_once in no_lower it.told it.waits _ it.final

pub settle-requires-clause-few : goal.settle-requires-clause-few
settle-requires-clause-few c =
    let it = last_one (goal.at.settle-requires-clause-few c).In-Some-final_once in go_few it.told it.waits _ it.final _

all_settled : (c : After-stayed) → Done c.args.self.now c.args.id c.args.last c.in_ok-delivered.delivered.items c.self.inside.id
    c.max-self-inside.result c.settle.new.pending.entries c.settle.new.proposals (c.len.result + c.stayed.result)
all_settled c =
    let d = goal.at.After-stayed c in
    settled_done (hears d.After-of-list) _ (last_one d.In-Some-final_once) c.in_ok-delivered.ensures.moves _
    c.in_ok-delivered.ensures.delivered c.max-self-inside.result (omega (arith, c.max-self-inside.ensures)) _
    c.in_ok-delivered.ensures.pending _ c.in_ok-delivered.ensures.proposals
    (c.len.result + c.stayed.result) (omega (arith, c.len.ensures, c.stayed.ensures)) (omega (arith, c.len.ensures, c.stayed.ensures))

pub invariant_of-self-2 : goal.invariant_of-self-2
invariant_of-self-2 c = (all_settled (goal.at.invariant_of-self-2 c).After-stayed).kept

pub returns-clause-done : goal.returns-clause-done
returns-clause-done c = (all_settled (goal.at.returns-clause-done c).After-stayed).receipt
