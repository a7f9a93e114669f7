use Rattle.std.proofs.Common.{◌≡◌, ℕ, [], length, min, sym, ap, ◌∙◌, arith}
use Rattle.std.specs.Int.NonZero.{non_zero_usize_get}
use Rattle.layer_planner.specs.Parts.{planned, parts_of}
use Rattle.layer_planner.specs.Units.{units}
use Rattle.layer_planner.proofs.FirstPlaces.{no_units, no_jobs}
use Rattle.layer_planner.proofs.planning.plan.Goals as goal

none_planned : (workers : ℕ) → planned workers [] ≡ []
none_planned workers =
    let none = ap (λ l. length l) no_units in
    let z : min workers (length (units [])) ≡ 0 = omega (arith, none) in
    ap (λ n. parts_of n []) z

pub returns-then-is_empty-clause-dealt : goal.returns-then-is_empty-clause-dealt
returns-then-is_empty-clause-dealt c = c.new.ensures.items
    ∙ sym (ap (planned (non_zero_usize_get c.args.workers)) (no_jobs c.args.layer.now (sym c.is_empty.ensures ∙ c.if-is_empty.true))
    ∙ none_planned (non_zero_usize_get c.args.workers))
