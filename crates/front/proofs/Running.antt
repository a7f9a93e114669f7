-- A layer that is run: the front shows the world after it as well.
use Rattle.std.proofs.Common.{◌≡◌, ◌≢◌, List, [], refl, sym, ap, ◌∙◌, subst}
use Rattle.front.proofs.Showing.{is_after, packets_same}
use Rattle.front.specs.Fronts.{FrontView, IsOut, FrontShows}
use Rattle.front.specs.Making.{SeesNoRun}
use Rattle.groups.specs.declared.skip_id.SkipId.{SkipId}
use Rattle.journal.specs.declared.step.Step.TheVariants.{Run}
use Rattle.skeen_core.specs.declared.packet.Delivered.{Delivered}
use Rattle.front.proofs.WorldRunning.{connections_run}
use Rattle.world.specs.Steps.{Effect, RunsLayer}
use Rattle.world.specs.World.{World, Ended, Layer, Taken, HasRun}
use Rattle.world_laws.proofs.Layers.{run_of_layer}
use Rattle.world_laws.specs.Good.{all_delivered}

-- a layer that isn't empty isn't so when it has run
some_ran : (es : List Ended) (ds : List Delivered) → all_delivered es ≡ ds → ds ≢ [] → es ≢ []
some_ran es ds same some none = some (sym same ∙ ap all_delivered none)

-- what is out is what has run
out_ran : (l : Layer) (ds : List Delivered) (es : List Ended) (out : List Delivered) → l ≡ Taken ds → all_delivered es ≡ ds →
    IsOut l out → IsOut (HasRun es) out
out_ran l ds es out is same shows =
    let taken = subst (λ x. IsOut x out) is shows in (taken.0 ∙ sym same, some_ran es ds same taken.1)

shows_run : (f : FrontView) (w : World) (starved : List SkipId) (effect : Effect) (w' : World) → RunsLayer w starved effect w' →
    FrontShows f w → FrontShows f w'
shows_run f w starved effect w' runs shows = subst (λ v. FrontShows f v) (sym runs.after) (record {
  connections = connections_run w runs.layer runs.outcomes runs.there same f.router shows.connections;
  multicast = packets_same f.table f.multicast w _ refl refl refl shows.multicast;
  out = out_ran w.layer runs.layer runs.outcomes f.out runs.there same shows.out;
})
  where
    same : all_delivered runs.outcomes ≡ runs.layer
    same = run_of_layer w.asked starved w.contents runs.layer runs.outcomes runs.in_turn

pub sees_no_run : (f : FrontView) → SeesNoRun f
sees_no_run f h w at' starved effect w' made =
    is_after f f h w w' (Run starved) effect refl at' made (shows_run f w starved effect w' made at'.shows)
