-- A layer of one request is settled, and its connection collects what came of it: the history between is such as each is.
use Rattle.std.proofs.Common.{◌≡◌, ℕ, ◌+◌, ◌<◌, ◌≤◌, List, [], ◌∷◌, ◌++◌, length, Option, Some, refl, sym, ◌∙◌, subst, arith}
use Rattle.std.proofs.Common.{length-append}
use mathlib.Core.List.{IsPrefix}
use Rattle.cluster.proofs.Histories.{AreLegal, history, history_made, history_settled, kept_none, made_legal}
use Rattle.cluster.proofs.Histories.{was_made, was_settled}
use Rattle.cluster.proofs.Passing.{longer, one_longer, last_pushed}
use Rattle.cluster.proofs.Settling.{IsBack}
use Rattle.cluster.proofs.Taking.{lawful}
use Rattle.cluster.specs.Finishing.{FinishesOnly, HasFinished}
use Rattle.cluster.specs.Histories.{HistoryView, kept_for, IsHistory, IsMade}
use Rattle.cluster.specs.Sealed.{RanView}
use Rattle.cluster.specs.Traces.{ArePushed, IsPushed}
use Rattle.cluster.specs.declared.tape.Tape.{Tape}
use Rattle.front.specs.Connections.{outcome_shown}
use Rattle.front.specs.Finishing.{outcome_with}
use Rattle.front.specs.Fronts.{FrontView}
use Rattle.front.specs.Making.{Makes}
use Rattle.front.specs.Settling.{Settles}
use Rattle.groups.proofs.Options.{some_same}
use Rattle.groups.specs.declared.request.ConnId.{ConnId}
use Rattle.journal.specs.declared.step.Step.{Step}
use Rattle.journal.specs.declared.step.Step.TheVariants.{Run, Settle, Collect}
use Rattle.layer_results.specs.Results.{names_of}
use Rattle.layer_results.specs.declared.done.DoneRow.{DoneRow}
use Rattle.placement.specs.Layout.{Layout}
use Rattle.resp.specs.declared.reply.Reply.{Reply}
use Rattle.router.specs.Router.{waiting}
use Rattle.world.specs.Steps.{Effect, Collected}

module _ (t : Layout) (h : HistoryView) (is : IsHistory t h) (v : RanView) (back : IsBack t h v) (conn : ConnId) (new : FrontView)
    (does : FinishesOnly h.front v.done conn new) where
  abbrev row : DoneRow
  row = does.row

  -- what the connection collects
  abbrev effect : Effect
  effect = Collected (Some (outcome_shown (outcome_with row does.finishes.reply)))

  pub settles : Settles h.front v.done does.finishes.mid
  settles = subst (λ d. Settles h.front d does.finishes.mid) (sym does.only) does.finishes.settles

  collects : Makes does.finishes.mid (Collect conn) effect new
  collects = subst (λ c. Makes does.finishes.mid (Collect c) effect new) (sym does.own) does.finishes.collects

  module _ (most : ℕ) (ran : Option Tape) (same : most ≡ h.max_steps) (run : IsPushed h.trace (Run (names_of v.done)) ran) where
    -- the history once it has settled
    abbrev mid : HistoryView
    mid = history does.finishes.mid most ((h.steps ++ Run (names_of v.done) ∷ []) ++ Settle ∷ []) v.ran (longer ran (Settle ∷ []))

    is_mid : IsHistory t mid
    is_mid = history_settled t h is v back does.finishes.mid settles most (longer ran (Settle ∷ [])) ran same run (one_longer ran Settle)

    pub collect_legal : AreLegal t (mid.steps ++ Collect conn ∷ [])
    collect_legal = made_legal t mid is_mid (Collect conn) tt effect new collects

    module _ (left : length h.steps + 3 ≤ h.max_steps) (trace : Option Tape)
        (pushed : ArePushed ran (Settle ∷ Collect conn ∷ []) trace) where
      one_left : length mid.steps + kept_for mid.front.out < mid.max_steps
      one_left = omega (
        arith,
        left,
        same,
        length-append (h.steps ++ Run (names_of v.done) ∷ []) (Settle ∷ []),
        length-append h.steps (Run (names_of v.done) ∷ []),
        kept_none mid.front.out settles.out,
      )

      abbrev pub finished : HistoryView
      finished = history new most (mid.steps ++ Collect conn ∷ []) v.ran trace

      pub history_finished : IsHistory t finished
      history_finished = history_made t mid is_mid (Collect conn) tt effect new collects most trace one_left refl
          (last_pushed ran trace (Settle ∷ []) (Collect conn) pushed)

      made : IsMade mid (Collect conn) effect finished
      made = was_made t mid is_mid (Collect conn) tt effect new collects most trace one_left refl
          (last_pushed ran trace (Settle ∷ []) (Collect conn) pushed)

      pub has_finished : (seen : List Step) (reply : Reply) → row.reply ≡ Some reply → IsPrefix seen mid.steps →
          HasFinished h v.done seen reply finished
      has_finished seen reply replied behind =
          let reply_is : does.finishes.reply ≡ reply = some_same _ _ (sym does.finishes.replied ∙ replied) in
          record {
            row = row;
            only = does.only;
            mid = mid;
            settled = was_settled t h is v back does.finishes.mid settles most (longer ran (Settle ∷ [])) ran same run
                (one_longer ran Settle);
            lawful = lawful mid is_mid.world is_mid.true_in;
            waits = subst (λ r. waiting mid.front.router row.id.conn.0 ≡ Some (outcome_with row r)) reply_is does.finishes.waits;
            behind = behind;
            made = subst (λ r. IsMade mid (Collect row.id.conn) (Collected (Some (outcome_shown (outcome_with row r)))) finished) reply_is
                (subst (λ c. IsMade mid (Collect c) effect finished) does.own made);
          }
