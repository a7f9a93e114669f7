use Rattle.std.proofs.Common.{[], ◌∷◌, ◌||◌, sym, ap, ◌∙◌}
use Rattle.groups.specs.GroupSet.{has}
use Rattle.groups.specs.GroupSetLaws.{has-with}
use Rattle.layer_planner.specs.Units.{line_up}
use Rattle.layer_planner.proofs.Gathering.{eqb_sym}
use Rattle.layer_planner.proofs.firsts.begins.Goals as goal

pub returns-clause-begun : goal.returns-clause-begun
returns-clause-begun c = λ g.
    ap (λ l. has l g) c.with.ensures ∙ has-with c.args.begun.now c.in-Some.group g
    ∙ ap (λ b. b || has c.args.begun.now g) (eqb_sym c.in-Some.group g)
    ∙ ap (λ gs. line_up (g ∷ []) gs || has c.args.begun.now g) (sym c.in-Some.ensures)
