-- The outcomes of a layer go to their connections, one after another.
use Rattle.std.specs.List.{AllZip}
use Rattle.std.specs.Prelude.{◌≡◌, ℕ, List, [], ◌++◌, Some, option_map}
use Rattle.front.specs.Settling.{IsToldBy}
use Rattle.groups.specs.Order.{In}
use Rattle.journal.specs.declared.step.Step.{Step}
use Rattle.layer_results.specs.declared.done.DoneRow.{DoneRow}
use Rattle.placement.specs.Layout.{Layout}
use Rattle.resp.specs.Content.{content}
use Rattle.router.specs.Router.{RouterView}
use Rattle.router.specs.declared.outcome.Outcome as kept
use Rattle.skeen_core.specs.Group.{EachOnce}
use Rattle.front.specs.Connections.{ShowsConnections}
use Rattle.world.specs.Steps.{opening, reply_of, settled, Leads}
use Rattle.world.specs.World.{World, Standing, Closed, Ended, HasRun}
use Rattle.world_laws.specs.Order.{ids_of}

-- the world where the outcomes of these are done, those of these are behind, and connections stand so
abbrev pub half_settled : World → List Ended → List Ended → (ℕ → Standing) → World
half_settled w done back standing = record w { standing = standing; layer = HasRun back; ended = done ++ back }

-- of a layer that has run, in a reached world, the outcomes behind are still to go
pub record IsSettling (t : Layout) (w : World) (done back : List Ended) (standing : ℕ → Standing) (r : RouterView) : Type 0 where
  pub steps : List Step
  pub leads : Leads t opening steps w
  pub layer : List Ended
  pub has_run : w.layer ≡ HasRun layer
  pub among : (e : Ended) → In e back → In e layer
  pub run : (e : Ended) → In e layer → In e w.ended
  pub once : EachOnce (ids_of (done ++ back))
  pub closed : (c : ℕ) → w.standing c ≡ Closed → standing c ≡ Closed
  pub shows : ShowsConnections r (half_settled w done back standing)

-- so much the connection of the row's request is given: the reply, or that there was no memory, with the stamp
pub record Gives (row : DoneRow) (o : kept.Outcome) : Type 0 where
  pub id : o.id ≡ row.id
  pub reply : content o.reply ≡ reply_of (option_map content row.reply)
  pub stamp : o.stamp ≡ Some row.stamp

-- these outcomes may go now
pub record MayGo (rows : List DoneRow) (r : RouterView) : Type 0 where
  pub table : Layout
  pub world : World
  pub done : List Ended
  pub es : List Ended
  pub standing : ℕ → Standing
  pub told : AllZip IsToldBy es rows
  pub settling : IsSettling table world done es standing r

-- and have gone
abbrev pub HaveGone : List DoneRow → RouterView → RouterView → Type 0
HaveGone rows old new = (t : Layout) (w : World) (done es : List Ended) (standing : ℕ → Standing) →
    AllZip IsToldBy es rows → IsSettling t w done es standing old →
    IsSettling t w (done ++ es) [] (settled es standing) new
