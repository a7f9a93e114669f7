use Rattle.std.proofs.Common.{[], refl, sym, ap, subst}
use Rattle.cluster.proofs.Histories.{history_new}
use Rattle.cluster.specs.Counting.{all_executed, all_starved, as_word}
use Rattle.cluster.specs.Traces.{IsTraceOf}
use Rattle.front.specs.Fronts.{IsNew}
use Rattle.cluster.proofs.ordered.History.new.Goals.{then-keeps, else-keeps}
use Rattle.cluster.proofs.ordered.History.new.Goals as goal

pub invariant_of-result : goal.invariant_of-result
invariant_of-result g c = (
  history_new g.T.Tabled.table c.args.max_steps c.in_ok-front.front c.args.told c.args.ran c.if-keeps.trace c.requires.some c.requires.few
      (subst (λ t. IsNew t c.in_ok-front.front) c.requires.table c.in_ok-front.ensures) c.requires.told c.requires.ran
      (elim c.if-keeps.branch [
        | then-keeps w ↦ subst (λ t. IsTraceOf t [] c.args.max_steps) (sym w.trace-is)
            (record { before = []; split = sym w.new-then-keeps.ensures.steps; counted = refl }, w.new-then-keeps.ensures.max)
        | else-keeps w ↦ subst (λ t. IsTraceOf t [] c.args.max_steps) (sym w.trace-is) tt
      ]),
  ap (λ r. as_word (all_executed r)) (sym c.requires.ran),
  ap (λ r. as_word (all_starved r)) (sym c.requires.ran),
)
