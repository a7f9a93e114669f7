-- What came of the layers of a history.
use Rattle.std.proofs.Common.{◌≡◌, ◌<◌, List, ◌++◌, length, slice_get, Some, sym, ap, ◌∙◌, subst, arith}
use Rattle.std.proofs.lemmas.Grind.{flat_map-append}
use Rattle.journal.specs.declared.step.Step.{Step}
use Rattle.order_laws.proofs.Layers.{layers_are_in_turn, settles_counted}
use Rattle.order_laws.proofs.Lists.{get_before, shorter_begins}
use Rattle.order_laws.proofs.Yielding.{yields_of, begins}
use Rattle.order_laws.specs.Layers.{Yields, run_by, settled_by, all_of}
use Rattle.order_laws.specs.Runs.{SettledAreCounted, Begins, RunsStay, SettledStay, RunsAgree, LaterRunBehind}
use Rattle.placement.specs.Layout.{Layout}
use Rattle.world.specs.Steps.{opening, Leads}
use Rattle.world.specs.World.{World, Ended}
use Rattle.world_laws.proofs.Lists.{in_place}
use Rattle.world_laws.proofs.Worlds.{good_world}

pub settled_are_counted : SettledAreCounted
settled_are_counted t steps w settled yields = settles_counted t opening w steps settled yields

begins_so : (what : World → Step → World → List (List Ended)) → Begins what
begins_so what t steps more old new layers all a b = let rest = begins what t opening old new steps more layers all a b in (rest.0, rest.1)

pub runs_stay : RunsStay
runs_stay = begins_so run_by

pub settled_stay : SettledStay
settled_stay = begins_so settled_by

pub runs_agree : RunsAgree
runs_agree t one other all v w x few more leads p q a b less =
    let every = yields_of run_by t opening x all leads in
    shorter_begins few more every.0
    (runs_stay t one p.0 v x few every.0 a (subst (λ l. Yields run_by t opening l every.0 x) (sym p.1) every.1))
    (runs_stay t other q.0 w x more every.0 b (subst (λ l. Yields run_by t opening l every.0 x) (sym q.1) every.1)) less

-- what has ended begins what has ended then
pub ended_grows : (t : Layout) (seen more : List Step) (old new : World) → Leads t opening seen old → Leads t opening (seen ++ more) new →
    (rest : List Ended) × (new.ended ≡ old.ended ++ rest)
ended_grows t seen more old new before after =
    let a = layers_are_in_turn t seen old before in
    let b = layers_are_in_turn t (seen ++ more) new after in
    let rest = runs_stay t seen more old new a.ran b.ran a.runs b.runs in
    (all_of rest.0, b.ended ∙ ap all_of (sym rest.1) ∙ flat_map-append (λ l. l) a.ran rest.0 ∙ ap (λ l. l ++ all_of rest.0) (sym a.ended))

pub later_run_behind : LaterRunBehind
later_run_behind t seen more old new before after place e there later = grind (arith, early)
  where
    early : place < length old.ended → ⊥
    early less =
        let grown = ended_grows t seen more old new before after in
        let at_place = get_before old.ended grown.0 place e less (subst (λ l. slice_get l place ≡ Some e) grown.1 there) in
        let good = good_world t seen old before in
        let task = good.run.tasks e (in_place old.ended place e at_place) in
        omega (arith, later, (good.requests.fresh e.id task.0 task.1).1)
