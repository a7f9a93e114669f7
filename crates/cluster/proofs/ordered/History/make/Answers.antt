use Rattle.std.proofs.Common.{◌+◌, ◌<◌, ◌++◌, ◌∷◌, [], length, refl, sym, ap, ◌∙◌, subst}
use Rattle.cluster.proofs.Histories.{history, AreLegal, goes_on, made_legal, history_made, was_made, history_still, left_so, told_as}
use Rattle.cluster.specs.Histories.{HistoryView, kept_for, IsHistory, IsMade, IsFault}
use Rattle.front.specs.Making.{effect_shown}
use Rattle.cluster.proofs.ordered.History.make.Goals as goal

pub write_behind-requires : goal.write_behind-requires
write_behind-requires g c =
    let in' = c.self.inside in
    subst (λ s. AreLegal g.T.Tabled.table (in'.told ++ s ∷ [])) (sym c.of-made.ensures)
    (made_legal g.T.Tabled.table (history in'.front in'.max_steps in'.told in'.ran in'.trace) c.self.invariant.0 c.args.step c.requires
    (effect_shown c.in-Ok-make.effect) c.make.new.self c.in-Ok-make.ensures.made)

pub invariant_of-self-in-Ok-make : goal.invariant_of-self-in-Ok-make
invariant_of-self-in-Ok-make g c =
    let in' = c.self.inside in
    let old = history in'.front in'.max_steps in'.told in'.ran in'.trace in
    let left = subst (λ (h : HistoryView). length h.steps + kept_for h.front.out < h.max_steps) (sym c.self.view_is)
    (c.is_exhausted.ensures.left c.if-is_exhausted.false) in
    let wrote = c.write_behind.ensures.written ∙ ap (λ s. in'.told ++ s ∷ []) c.of-made.ensures in (
      subst (λ l. IsHistory g.T.Tabled.table (history c.make.new.self in'.max_steps l in'.ran c.push_keeping.new.trace)) (sym wrote)
          (history_made g.T.Tabled.table old c.self.invariant.0 c.args.step c.requires (effect_shown c.in-Ok-make.effect) c.make.new.self
          c.in-Ok-make.ensures.made in'.max_steps c.push_keeping.new.trace left refl c.in-Ok.ensures.pushed),
      c.self.invariant.1,
      c.self.invariant.2,
    )

pub returns-in-Ok-make-clause-made : goal.returns-in-Ok-make-clause-made
returns-in-Ok-make-clause-made g c =
    let in' = c.self.inside in
    let old = history in'.front in'.max_steps in'.told in'.ran in'.trace in
    let left = subst (λ (h : HistoryView). length h.steps + kept_for h.front.out < h.max_steps) (sym c.self.view_is)
    (c.is_exhausted.ensures.left c.if-is_exhausted.false) in
    let wrote = c.write_behind.ensures.written ∙ ap (λ s. in'.told ++ s ∷ []) c.of-made.ensures in
    subst (λ h. IsMade h c.args.step (effect_shown c.in-Ok-make.effect)
    (history c.make.new.self in'.max_steps c.write_behind.new.self in'.ran c.push_keeping.new.trace)) c.self.view_is
    (subst (λ l. IsMade old c.args.step (effect_shown c.in-Ok-make.effect)
    (history c.make.new.self in'.max_steps l in'.ran c.push_keeping.new.trace)) (sym wrote)
    (was_made g.T.Tabled.table old c.self.invariant.0 c.args.step c.requires (effect_shown c.in-Ok-make.effect) c.make.new.self
    c.in-Ok-make.ensures.made in'.max_steps c.push_keeping.new.trace left refl c.in-Ok.ensures.pushed))

pub take_back-requires : goal.take_back-requires
take_back-requires g c = (c.self.inside.trace, c.args.step, c.in-Ok.ensures.pushed, c.place-place.ensures)

pub returns-in-Err-clause-fault : goal.returns-in-Err-clause-fault
returns-in-Err-clause-fault g c =
    let in' = c.self.inside in
    let old = history in'.front in'.max_steps in'.told in'.ran in'.trace in
    let left = subst (λ (h : HistoryView). length h.steps + kept_for h.front.out < h.max_steps) (sym c.self.view_is)
    (c.is_exhausted.ensures.left c.if-is_exhausted.false) in
    subst (λ h. IsFault h c.args.step c.from.result) c.self.view_is
    (told_as g.T.Tabled.table old c.self.invariant.0 c.args.step c.in-Err.fault c.from.result c.from.ensures
    (goes_on old c.args.step c.requires left) c.in-Err.ensures.refused)

pub invariant_of-self-in-Err-make : goal.invariant_of-self-in-Err-make
invariant_of-self-in-Err-make g c =
    let in' = c.self.inside in
    let old = history in'.front in'.max_steps in'.told in'.ran in'.trace in (
      history_still g.T.Tabled.table old (history c.make.new.self in'.max_steps in'.told in'.ran c.take_back.new.trace) c.self.invariant.0
          (left_so old c.make.new.self c.take_back.new.trace c.in-Err.ensures.unchanged
          (c.take_back.ensures.same in'.trace c.args.step c.in-Ok.ensures.pushed)),
      c.self.invariant.1,
      c.self.invariant.2,
    )
