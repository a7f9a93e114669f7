use Rattle.std.proofs.Common.{◌≡◌, ◌≢◌, ◌+◌, ◌≤◌, ◌++◌, ◌∷◌, List, [], length, refl, sym, ap, ◌∙◌, subst, append_assoc}
use mathlib.Core.List.{IsPrefix}
use Rattle.cluster.proofs.Counts.{executed_more, starved_more, cuts_more}
use Rattle.cluster.proofs.Finished.{collect_legal, has_finished, history_finished}
use Rattle.cluster.proofs.Histories.{history, history_still, left_so, of_layer, ran_more, AreLegal}
use Rattle.cluster.proofs.Settling.{IsBack, view, is_back}
use Rattle.cluster.specs.Counting.{all_executed, all_starved, as_word, executed_in}
use Rattle.cluster.specs.Finishing.{HasFinished, FinishesOnly}
use Rattle.cluster.specs.Histories.{HistoryView, IsHistory}
use Rattle.cluster.specs.Sealed.{RanView}
use Rattle.cluster.specs.Traces.{ArePushed, IsPushed}
use Rattle.groups.specs.declared.request.ConnId.{ConnId}
use Rattle.journal.specs.declared.step.Step.{Step}
use Rattle.journal.specs.declared.step.Step.TheVariants.{Run, Settle, Collect}
use Rattle.layer_results.specs.declared.done.DoneRow.{DoneRow}
use Rattle.layer_results.specs.Results.{names_of}
use Rattle.cluster.proofs.ordered.History.finish.Given.{Over}
use Rattle.cluster.proofs.ordered.History.finish.Goals.{After-is_legal-2, After-push_collected}
use Rattle.cluster.proofs.ordered.History.finish.Goals as goal

-- what is written of it: its Run, its Settle and a Collect, behind the steps before
run_finished : (steps : List Step) (came done : List DoneRow) (conn : ConnId) → came ≡ done
    → steps ++ Run (names_of came) ∷ Settle ∷ Collect conn ∷ []
    ≡ ((steps ++ Run (names_of done) ∷ []) ++ Settle ∷ []) ++ Collect conn ∷ []
run_finished steps came done conn is =
    ap (λ d. steps ++ Run (names_of d) ∷ Settle ∷ Collect conn ∷ []) is
    ∙ sym (ap (λ l. l ++ Collect conn ∷ []) (append_assoc steps (Run (names_of done) ∷ []) (Settle ∷ []))
    ∙ append_assoc steps (Run (names_of done) ∷ Settle ∷ []) (Collect conn ∷ []))

-- what stands before steps stands before two more
behind_both : (seen steps : List Step) (one other : Step) → IsPrefix seen steps → IsPrefix seen ((steps ++ one ∷ []) ++ other ∷ [])
behind_both seen steps one other before =
    let more = before.0 ++ one ∷ other ∷ [] in (
      more,
      sym (append_assoc seen before.0 (one ∷ other ∷ [])) ∙ ap (λ l. l ++ one ∷ other ∷ []) before.1
          ∙ sym (append_assoc steps (one ∷ []) (other ∷ [])),
    )

-- the history as it was, and what came back of the layer that is out
module _ (g : Over) (c : After-is_legal-2 g) where
  abbrev h : HistoryView
  h = let in' = c.self.inside in history in'.front in'.max_steps in'.told in'.ran in'.trace

  abbrev v : RanView
  v = view c.done-done.result.now c.ran.inside.ran.number c.ran.inside.told c.runs-runs.result

  some : h.front.out ≢ []
  some = subst (λ (o : HistoryView). o.front.out ≢ []) (sym c.self.view_is) (c.may_finish.ensures.out c.if-not-may_finish.false)

  number : c.ran.inside.ran.number ≡ h.front.layers
  number = ap (λ (r : RanView). r.number) c.ran.view_is ∙ c.may_finish.ensures.number c.if-not-may_finish.false
      ∙ ap (λ (o : HistoryView). o.front.layers) (sym c.self.view_is)

  left : length h.steps + 3 ≤ h.max_steps
  left = subst (λ (o : HistoryView). length o.steps + 3 ≤ o.max_steps) (sym c.self.view_is)
      (c.may_finish.ensures.left c.if-not-may_finish.false)

  back : IsBack g.T.Tabled.table h v
  back = is_back c.ran.invariant c.done-done.ensures c.runs-runs.ensures some number c.with-all_told.result c.is_legal.ensures
      (subst (λ l. IsPrefix l c.with-all_told.result) c.part.ensures c.with-all_told.ensures.that) c.with-all_told.ensures.this
      c.with-all_ran.result c.with-all_ran.ensures.that c.with-all_ran.ensures.this c.is_legal-2.ensures

  run : IsPushed h.trace (Run (names_of v.done)) c.push_run.new.trace
  run = c.in-Ok.ensures.pushed

-- what the front did, and all that was pushed
module _ (g : Over) (c : After-push_collected g) (at : After-is_legal-2 g) where
  does : FinishesOnly c.self.inside.front c.done-done.result.now c.in-Some-finish_only.conn c.finish_only.new.front
  does = c.in-Some-finish_only.ensures.finished

  pushed : ArePushed c.push_run.new.trace (Settle ∷ Collect c.in-Some-finish_only.conn ∷ []) c.push_collected.new.trace
  pushed = c.push_collected.ensures.pushed

pub finish_only-requires-clause-truth : goal.finish_only-requires-clause-truth
finish_only-requires-clause-truth g c =
    let at = (goal.at.finish_only-requires-clause-truth g c).After-is_legal-2 in
    of_layer g.T.Tabled.table (h g at) c.self.invariant.0 (v g at) (back g at)

pub invariant_of-self-in_default-finish_only : goal.invariant_of-self-in_default-finish_only
invariant_of-self-in_default-finish_only g c =
    let at = (goal.at.invariant_of-self-in_default-finish_only g c).After-is_legal-2 in
    let in' = c.self.inside in (
      history_still g.T.Tabled.table (h g at) (history c.finish_only.new.front in'.max_steps in'.told in'.ran c.take_back.new.trace)
          c.self.invariant.0 (left_so (h g at) c.finish_only.new.front c.take_back.new.trace c.in_default-finish_only.ensures.unchanged
          (c.take_back.ensures.same in'.trace (Run (names_of c.done-done.result.now)) (run g at))),
      c.self.invariant.1,
      c.self.invariant.2,
    )

pub write_all_behind-requires : goal.write_all_behind-requires
write_all_behind-requires g c =
    let at = (goal.at.write_all_behind-requires g c).After-is_legal-2 in
    let place = (goal.at.write_all_behind-requires g c).After-push_collected in
    let conn = c.in-Some-finish_only.conn in
    subst (AreLegal g.T.Tabled.table)
    (sym (run_finished c.self.inside.told c.of-came.result.value c.done-done.result.now conn c.of-came.ensures))
    (collect_legal g.T.Tabled.table (h g at) c.self.invariant.0 (v g at) (back g at) conn c.finish_only.new.front (does g place at)
    c.self.inside.max_steps c.push_run.new.trace refl (run g at))

pub invariant_of-self-2 : goal.invariant_of-self-2
invariant_of-self-2 g c =
    let at = (goal.at.invariant_of-self-2 g c).After-is_legal-2 in
    let place = (goal.at.invariant_of-self-2 g c).After-push_collected in
    let in' = c.self.inside in
    let done = c.done-done.result.now in
    let wrote = c.write_all_behind.ensures.written
    ∙ run_finished in'.told c.of-came.result.value done c.in-Some-finish_only.conn c.of-came.ensures in
    let more = ran_more g.T.Tabled.table (h g at) c.self.invariant.0 (v g at) (back g at) in (
      subst (λ f. IsHistory g.T.Tabled.table
          (history f in'.max_steps c.write_all_behind.new.self c.runs-runs.result c.push_collected.new.trace)) (sym c.keep_room.ensures)
          (subst (λ l. IsHistory g.T.Tabled.table
          (history c.finish_only.new.front in'.max_steps l c.runs-runs.result c.push_collected.new.trace)) (sym wrote)
          (history_finished g.T.Tabled.table (h g at) c.self.invariant.0 (v g at) (back g at) c.in-Some-finish_only.conn
          c.finish_only.new.front (does g place at) in'.max_steps c.push_run.new.trace refl (run g at) (left g at)
          c.push_collected.new.trace (pushed g place at))),
      cuts_more (all_executed in'.ran) (executed_in done) (all_executed c.runs-runs.result) in'.executed c.executed_in.result _
          c.self.invariant.1 (c.executed_in.ensures ∙ ap (λ l. as_word (executed_in l)) c.rows.ensures)
          c.saturating_add-self-inside.ensures (ap all_executed more ∙ executed_more in'.ran done),
      cuts_more (all_starved in'.ran) (length (names_of done)) (all_starved c.runs-runs.result) in'.starved c.starved_in.result _
          c.self.invariant.2 c.starved_in.ensures c.saturating_add-self-inside-2.ensures (ap all_starved more ∙ starved_more in'.ran done),
    )

pub returns-clause-finished : goal.returns-clause-finished
returns-clause-finished g c =
    let at = (goal.at.returns-clause-finished g c).After-is_legal-2 in
    let place = (goal.at.returns-clause-finished g c).After-push_collected in
    let in' = c.self.inside in
    let all = c.write_all_behind.ensures.written
    ∙ run_finished in'.told c.of-came.result.value c.done-done.result.now c.in-Some-finish_only.conn c.of-came.ensures in
    let done = c.done-done.ensures ∙ ap (λ (r : RanView). r.done) c.ran.view_is in
    let is = does g place at in
    let replied = c.reply_of-reply.ensures is.row (c.into_parts-done.ensures.done ∙ sym c.done-done.ensures ∙ is.only) in
    let seen = c.args.behind.now in
    let new = history c.keep_room.new.self in'.max_steps c.write_all_behind.new.self c.runs-runs.result c.push_collected.new.trace in
    subst (λ d. HasFinished c.args.self.now d seen c.reply_of-reply.result.0 new) done
    (subst (λ o. HasFinished o c.done-done.result.now seen c.reply_of-reply.result.0 new) c.self.view_is
    (subst (λ f. HasFinished (h g at) c.done-done.result.now seen c.reply_of-reply.result.0
    (history f in'.max_steps c.write_all_behind.new.self c.runs-runs.result c.push_collected.new.trace)) (sym c.keep_room.ensures)
    (subst (λ l. HasFinished (h g at) c.done-done.result.now seen c.reply_of-reply.result.0
    (history c.finish_only.new.front in'.max_steps l c.runs-runs.result c.push_collected.new.trace)) (sym all)
    (has_finished g.T.Tabled.table (h g at) c.self.invariant.0 (v g at) (back g at) c.in-Some-finish_only.conn c.finish_only.new.front is
    in'.max_steps c.push_run.new.trace refl (run g at) (left g at) c.push_collected.new.trace (pushed g place at) seen
    c.reply_of-reply.result.0 replied
    (behind_both seen in'.told (Run (names_of c.done-done.result.now)) Settle c.write_all_behind.ensures.before)))))
