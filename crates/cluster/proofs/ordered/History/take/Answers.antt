use Rattle.std.proofs.Common.{◌+◌, ◌<◌, ◌++◌, ◌∷◌, [], length, refl, sym, ap, ◌∙◌, subst, arith}
use Rattle.cluster.proofs.Histories.{history, take_legal, layer_sealed, history_taken, hands_out, history_still, left_so, told_as}
use Rattle.cluster.specs.Histories.{HistoryView, IsHistory, IsFault}
use Rattle.cluster.specs.Layers.{HandsOut}
use Rattle.cluster.specs.Sealed.{TakenView, IsTaken}
use Rattle.journal.specs.declared.step.Step.TheVariants.{Take}
use Rattle.cluster.proofs.ordered.History.take.Goals as goal

pub write-requires : goal.write-requires
write-requires g c =
    let in' = c.self.inside in
    take_legal g.T.Tabled.table (history in'.front in'.max_steps in'.told in'.ran in'.trace) c.self.invariant.0 c.in-Ok-take.layer
    c.take.new.self c.in-Ok-take.ensures.made

pub invariant_of-result : goal.invariant_of-result
invariant_of-result g c =
    let in' = c.self.inside in
    subst (λ l. IsTaken g.T.Tabled.table (record { layer = c.in-Ok-take.layer; number = c.layers.result; told = l }))
    (sym (c.part.ensures ∙ c.write.ensures))
    (subst (λ n. IsTaken g.T.Tabled.table (record { layer = c.in-Ok-take.layer; number = n; told = in'.told ++ Take ∷ [] }))
    (sym c.layers.ensures)
    (layer_sealed g.T.Tabled.table (history in'.front in'.max_steps in'.told in'.ran in'.trace) c.self.invariant.0 c.in-Ok-take.layer
    c.take.new.self c.in-Ok-take.ensures.made))

pub take_back-requires : goal.take_back-requires
take_back-requires g c = (c.self.inside.trace, Take, c.in-Ok.ensures.pushed, c.place-place.ensures)

pub invariant_of-self-in-Err : goal.invariant_of-self-in-Err
invariant_of-self-in-Err g c =
    let in' = c.self.inside in
    let old = history in'.front in'.max_steps in'.told in'.ran in'.trace in (
      history_still g.T.Tabled.table old (history c.take.new.self in'.max_steps in'.told in'.ran c.take_back.new.trace) c.self.invariant.0
          (left_so old c.take.new.self c.take_back.new.trace c.in-Err.ensures.unchanged
          (c.take_back.ensures.same in'.trace Take c.in-Ok.ensures.pushed)),
      c.self.invariant.1,
      c.self.invariant.2,
    )

pub invariant_of-self-in-Ok-take : goal.invariant_of-self-in-Ok-take
invariant_of-self-in-Ok-take g c =
    let in' = c.self.inside in
    let old = history in'.front in'.max_steps in'.told in'.ran in'.trace in
    let left : length in'.told + 2 < in'.max_steps =
    omega (arith, c.count.ensures, c.if-self-count.false, ap (λ (h : HistoryView). length h.steps) c.self.view_is) in (
      subst (λ l. IsHistory g.T.Tabled.table (history c.take.new.self in'.max_steps l in'.ran c.push_keeping.new.trace))
          (sym c.write.ensures) (history_taken g.T.Tabled.table old c.self.invariant.0 c.in-Ok-take.layer c.take.new.self
          c.in-Ok-take.ensures.made in'.max_steps c.push_keeping.new.trace left refl c.in-Ok.ensures.pushed),
      c.self.invariant.1,
      c.self.invariant.2,
    )

pub returns-in-Ok-take-clause-taken : goal.returns-in-Ok-take-clause-taken
returns-in-Ok-take-clause-taken g c =
    let in' = c.self.inside in
    let old = history in'.front in'.max_steps in'.told in'.ran in'.trace in
    let left : length in'.told + 2 < in'.max_steps =
    omega (arith, c.count.ensures, c.if-self-count.false, ap (λ (h : HistoryView). length h.steps) c.self.view_is) in
    let v : TakenView = record { layer = c.in-Ok-take.layer; number = c.layers.result; told = c.part.result } in
    subst (λ h. HandsOut h v (history c.take.new.self in'.max_steps c.write.new.self in'.ran c.push_keeping.new.trace)) c.self.view_is
    (subst (λ l. HandsOut old v (history c.take.new.self in'.max_steps l in'.ran c.push_keeping.new.trace)) (sym c.write.ensures)
    (hands_out g.T.Tabled.table old c.self.invariant.0 c.in-Ok-take.layer c.take.new.self c.in-Ok-take.ensures.made in'.max_steps
    c.push_keeping.new.trace left refl c.in-Ok.ensures.pushed v refl c.layers.ensures (c.part.ensures ∙ c.write.ensures)))

pub returns-in-Err-clause-fault : goal.returns-in-Err-clause-fault
returns-in-Err-clause-fault g c =
    let in' = c.self.inside in
    let old = history in'.front in'.max_steps in'.told in'.ran in'.trace in
    let left : length in'.told + 2 < in'.max_steps =
    omega (arith, c.count.ensures, c.if-self-count.false, ap (λ (h : HistoryView). length h.steps) c.self.view_is) in
    subst (λ h. IsFault h Take c.from.result) c.self.view_is
    (told_as g.T.Tabled.table old c.self.invariant.0 Take c.in-Err.fault c.from.result c.from.ensures left c.in-Err.ensures.refused)
