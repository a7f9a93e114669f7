use Rattle.std.proofs.Common.{◌≡◌, List, ◌++◌, ◌∷◌, [], length, refl, sym, ap, ◌∙◌, subst, append_assoc}
use mathlib.Core.List.{IsPrefix}
use Rattle.cluster.proofs.Settling.{IsBack, view, is_back}
use Rattle.cluster.proofs.Counts.{executed_more, starved_more, cuts_more}
use Rattle.cluster.proofs.Histories.{history, AreLegal, of_layer, ran_more, settle_legal, history_settled, was_settled}
use Rattle.cluster.specs.Counting.{all_executed, all_starved, as_word, executed_in}
use Rattle.cluster.specs.Histories.{HistoryView, IsHistory}
use Rattle.cluster.specs.Layers.{IsSettled}
use Rattle.cluster.specs.Sealed.{RanView}
use Rattle.cluster.specs.Traces.{IsPushed}
use Rattle.journal.specs.declared.step.Step.{Step}
use Rattle.journal.specs.declared.step.Step.TheVariants.{Run, Settle}
use Rattle.layer_results.specs.Results.{names_of}
use Rattle.layer_results.specs.declared.done.DoneRow.{DoneRow}
use Rattle.cluster.proofs.ordered.History.settle.Given.{Over}
use Rattle.cluster.proofs.ordered.History.settle.Goals.{After-executed_in}
use Rattle.cluster.proofs.ordered.History.settle.Goals as goal

-- what is written of it: its Run and its Settle, behind the steps before
run_settled : (steps : List Step) (came done : List DoneRow) → came ≡ done
    → steps ++ Run (names_of came) ∷ Settle ∷ [] ≡ (steps ++ Run (names_of done) ∷ []) ++ Settle ∷ []
run_settled steps came done is =
    ap (λ d. steps ++ Run (names_of d) ∷ Settle ∷ []) is ∙ sym (append_assoc steps (Run (names_of done) ∷ []) (Settle ∷ []))

-- the history as it was, and what came back of the layer that is out
module _ (g : Over) (c : After-executed_in g) where
  abbrev h : HistoryView
  h = let in' = c.self.inside in history in'.front in'.max_steps in'.told in'.ran in'.trace

  abbrev v : RanView
  v = let parts = c.into_parts-done.result in view parts.0 c.ran.inside.ran.number c.ran.inside.told parts.1

  back : IsBack g.T.Tabled.table h v
  back = is_back c.ran.invariant c.into_parts-done.ensures.done c.into_parts-done.ensures.runs (c.if-not-is_out.ensures.0 refl)
      (sym c.number.ensures ∙ c.if-number-layers.false ∙ c.layers.ensures) c.with-all_told.result c.is_legal.ensures
      (subst (λ l. IsPrefix l c.with-all_told.result) c.part.ensures c.with-all_told.ensures.that) c.with-all_told.ensures.this
      c.with-all_ran.result c.with-all_ran.ensures.that c.with-all_ran.ensures.this c.is_legal-2.ensures

pub settle-requires-clause-truth : goal.settle-requires-clause-truth
settle-requires-clause-truth g c =
    let at = (goal.at.settle-requires-clause-truth g c).After-executed_in in
    of_layer g.T.Tabled.table (h g at) c.self.invariant.0 (v g at) (back g at)

pub write_all-requires : goal.write_all-requires
write_all-requires g c =
    let at = (goal.at.write_all-requires g c).After-executed_in in
    subst (AreLegal g.T.Tabled.table)
    (sym (run_settled c.self.inside.told c.of-came.result.value c.into_parts-done.result.0 c.of-came.ensures))
    (settle_legal g.T.Tabled.table (h g at) c.self.invariant.0 (v g at) (back g at) c.settle.new.self c.settle.ensures)

pub invariant_of-self-2 : goal.invariant_of-self-2
invariant_of-self-2 g c =
    let at = (goal.at.invariant_of-self-2 g c).After-executed_in in
    let in' = c.self.inside in
    let parts = c.into_parts-done.result in
    let run = subst (λ d. IsPushed in'.trace (Run (names_of d)) c.push_run.new.trace) (c.done.ensures ∙ sym c.into_parts-done.ensures.done)
    c.in-Ok.ensures.pushed in
    let wrote = c.write_all.ensures ∙ run_settled in'.told c.of-came.result.value parts.0 c.of-came.ensures in
    let more = ran_more g.T.Tabled.table (h g at) c.self.invariant.0 (v g at) (back g at) in (
      subst (λ l. IsHistory g.T.Tabled.table (history c.settle.new.self in'.max_steps l parts.1 c.push_keeping.new.trace))
          (sym wrote) (history_settled g.T.Tabled.table (h g at) c.self.invariant.0 (v g at) (back g at) c.settle.new.self
          c.settle.ensures in'.max_steps c.push_keeping.new.trace c.push_run.new.trace refl run c.in-Ok-push_keeping.ensures.pushed),
      cuts_more (all_executed in'.ran) (executed_in parts.0) (all_executed parts.1) in'.executed c.executed_in.result _ c.self.invariant.1
          (c.executed_in.ensures ∙ ap (λ l. as_word (executed_in l)) c.rows.ensures) c.saturating_add-self-inside.ensures
          (ap all_executed more ∙ executed_more in'.ran parts.0),
      cuts_more (all_starved in'.ran) (length (names_of parts.0)) (all_starved parts.1) in'.starved c.starved_in.result _ c.self.invariant.2
          c.starved_in.ensures c.saturating_add-self-inside-2.ensures (ap all_starved more ∙ starved_more in'.ran parts.0),
    )

pub returns-clause-settled : goal.returns-clause-settled
returns-clause-settled g c =
    let at = (goal.at.returns-clause-settled g c).After-executed_in in
    let in' = c.self.inside in
    let parts = c.into_parts-done.result in
    let run = subst (λ d. IsPushed in'.trace (Run (names_of d)) c.push_run.new.trace) (c.done.ensures ∙ sym c.into_parts-done.ensures.done)
    c.in-Ok.ensures.pushed in
    let wrote = c.write_all.ensures ∙ run_settled in'.told c.of-came.result.value parts.0 c.of-came.ensures in
    let new = history c.settle.new.self in'.max_steps c.write_all.new.self parts.1 c.push_keeping.new.trace in
    let done = c.into_parts-done.ensures.done ∙ ap (λ (r : RanView). r.done) c.ran.view_is in
    subst (λ d. IsSettled c.args.self.now d new) done (subst (λ o. IsSettled o parts.0 new) c.self.view_is
    (subst (λ l. IsSettled (h g at) parts.0 (history c.settle.new.self in'.max_steps l parts.1 c.push_keeping.new.trace)) (sym wrote)
    (was_settled g.T.Tabled.table (h g at) c.self.invariant.0 (v g at) (back g at) c.settle.new.self c.settle.ensures in'.max_steps
    c.push_keeping.new.trace c.push_run.new.trace refl run c.in-Ok-push_keeping.ensures.pushed)))
