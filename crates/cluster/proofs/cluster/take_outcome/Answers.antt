use Rattle.std.proofs.Common.{sym, ap, ◌∙◌, subst, Some, refl}
use Rattle.cluster.proofs.Collecting.{some_collected, above, own, from, collect_fault}
use Rattle.cluster.proofs.Effects.{collected_same}
use Rattle.cluster.specs.Clusters.{SeatView}
use Rattle.cluster.specs.Histories.{IsMade, IsFault}
use Rattle.front.specs.Making.{effect_shown}
use Rattle.cluster.specs.Outcomes.{raised}
use Rattle.front.specs.declared.effect.Effect.TheVariants.{Collected}
use Rattle.journal.specs.declared.step.Step.TheVariants.{Collect}
use Rattle.cluster.proofs.cluster.take_outcome.Goals as goal

pub unreachable-requires : goal.unreachable-requires
unreachable-requires g c =
    let made = subst (λ (s : SeatView). IsMade c.args.history.now (Collect s.conn) (effect_shown c.in-Ok.effect) c.make.new.self)
    c.seat.view_is c.in-Ok.ensures.made in
    let some = some_collected _ _ c.args.seat.now c.requires c.lawful.ensures.lawful c.in-Ok.effect made in
    c.in_default.not-Collected (Some some.0) some.1

pub unreachable-requires-in_default-collected : goal.unreachable-requires-in_default-collected
unreachable-requires-in_default-collected g c =
    let made = subst (λ (s : SeatView). IsMade c.args.history.now (Collect s.conn) (effect_shown c.in-Ok.effect) c.make.new.self)
    c.seat.view_is c.in-Ok.ensures.made in
    let some = some_collected _ _ c.args.seat.now c.requires c.lawful.ensures.lawful c.in-Ok.effect made in
    c.in_default-collected.not-Some some.0 (collected_same c.in-Collected.collected (Some some.0) (sym c.in-Collected.is ∙ some.1))

pub returns-clause-taken : goal.returns-clause-taken
returns-clause-taken g c =
    let s = c.args.seat.now in
    let seen = subst (λ (s : SeatView). IsMade c.args.history.now (Collect s.conn) (effect_shown c.in-Ok.effect) c.make.new.self)
    c.seat.view_is c.in-Ok.ensures.made in
    let made = subst (λ e. IsMade c.args.history.now (Collect s.conn) (effect_shown e) c.make.new.self)
    (c.in-Collected.is ∙ ap Collected c.in-Some.is) seen in
    record {
      outcome = c.in-Some.outcome;
      reply = refl;
      made = made;
      id = own _ _ s c.requires c.lawful.ensures.lawful c.in-Some.outcome made;
      behind = subst (λ (s : SeatView). mathlib.Core.List.IsPrefix s.seen c.args.history.now.steps) c.seat.view_is c.in-Ok.ensures.behind;
      from = from _ _ s c.requires c.lawful.ensures.lawful c.in-Some.outcome made;
      above = above _ _ s c.requires c.lawful.ensures.lawful c.in-Some.outcome made;
      seat = λ k. record {
        conn = ap (λ (s : SeatView). s.conn) c.seat.view_is k;
        floor = (c.raise.ensures ∙ ap (λ (s : SeatView). raised c.in-Some.outcome.stamp s.floor) c.seat.view_is) k;
        count = ap (λ (s : SeatView). s.count) c.seat.view_is k;
        last = ap (λ (s : SeatView). s.last) c.seat.view_is k;
        seen = c.part.ensures k;
      };
    }

pub returns-in-Err-clause-refused : goal.returns-in-Err-clause-refused
returns-in-Err-clause-refused g c =
    let why = subst (λ (s : SeatView). IsFault c.args.history.now (Collect s.conn) c.in-Err.fault) c.seat.view_is c.in-Err.ensures.fault in
    collect_fault _ c.args.seat.now c.in-Err.fault c.requires why

pub returns-in-Err-clause-room : goal.returns-in-Err-clause-room
returns-in-Err-clause-room g c = c.in-Err.ensures.room_back c.args.kept
