use Rattle.std.proofs.Common.{◌≡◌, ◌≢◌, ap, sym, ◌∙◌, subst, inl, inr, option_copied}
use Rattle.std.proofs.lemmas.Bool.{both_ways}
use Rattle.front.specs.Fronts.{FrontView}
use Rattle.cluster.specs.Clusters.{SeatView}
use Rattle.cluster.specs.Outcomes.{IsAbove}
use Rattle.router.specs.Router.{waiting}
use Rattle.cluster.proofs.cluster.awaits.Goals as goal

pub returns-then-outcome-seat-clause-refused : goal.returns-then-outcome-seat-clause-refused
returns-then-outcome-seat-clause-refused g c =
    let in' = c.seat.inside in
    let outcome = c.in-Some.outcome.now in (
      c.is_exhausted.ensures.left c.if-is_exhausted.false,
      inr (record {
        outcome = outcome;
        waits = ap (λ (s : SeatView). waiting c.args.history.now.front.router s.conn.0) (sym c.seat.view_is)
            ∙ (ap (λ (f : FrontView). waiting f.router in'.conn.0) (sym c.front.ensures)
            ∙ (sym c.waits.ensures ∙ ap option_copied c.in-Some.is));
        foreign = inl (subst (λ (s : SeatView). outcome.id.seq ≢ s.last) c.seat.view_is c.if-outcome-seat.true);
      }),
    )

pub returns-then-not-is_above-clause-refused : goal.returns-then-not-is_above-clause-refused
returns-then-not-is_above-clause-refused g c =
    let in' = c.seat.inside in
    let outcome = c.in-Some.outcome.now in (
      c.is_exhausted.ensures.left c.if-is_exhausted.false,
      inr (record {
        outcome = outcome;
        waits = ap (λ (s : SeatView). waiting c.args.history.now.front.router s.conn.0) (sym c.seat.view_is)
            ∙ (ap (λ (f : FrontView). waiting f.router in'.conn.0) (sym c.front.ensures)
            ∙ (sym c.waits.ensures ∙ ap option_copied c.in-Some.is));
        foreign = inr (λ above. both_ways _ c.if-not-is_above.true
            (c.is_above.ensures.1 (subst (λ (s : SeatView). IsAbove outcome.stamp s.floor) (sym c.seat.view_is) above)));
      }),
    )

pub returns-clause-some : goal.returns-clause-some
returns-clause-some g c = λ so.
    let in' = c.seat.inside in
    let outcome = c.in-Some.outcome.now in
    record {
      left = c.is_exhausted.ensures.left c.if-is_exhausted.false;
      outcome = outcome;
      waits = ap (λ (s : SeatView). waiting c.args.history.now.front.router s.conn.0) (sym c.seat.view_is)
          ∙ (ap (λ (f : FrontView). waiting f.router in'.conn.0) (sym c.front.ensures)
          ∙ (sym c.waits.ensures ∙ ap option_copied c.in-Some.is));
      own = subst (λ (s : SeatView). outcome.id.seq ≡ s.last) c.seat.view_is c.if-outcome-seat.false;
      above = subst (λ (s : SeatView). IsAbove outcome.stamp s.floor) c.seat.view_is (c.is_above.ensures.0 c.if-not-is_above.false);
    }
