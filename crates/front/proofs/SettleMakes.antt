-- Settle of a front is the world's.
use Rattle.std.proofs.Common.{◌≡◌, ◌+◌, List, [], ◌∷◌, ◌++◌, length, refl, sym, subst, arith, length-append}
use Rattle.std.specs.List.{AllZip}
use Rattle.front.proofs.Settled.{before, all_settled, settle_starts, settle_ends}
use Rattle.front.proofs.Showing.{is_after, packets_same}
use Rattle.front.specs.Fronts.{FrontView, FrontIsAt, HasNotRun, IsFront}
use Rattle.front.specs.Outcomes.{MayGo, HaveGone}
use Rattle.front.specs.Settling.{IsToldBy, IsTrueOf, Settles}
use Rattle.journal.specs.declared.step.Step.{Step}
use Rattle.journal.specs.declared.step.Step.TheVariants.{Settle}
use Rattle.layer_results.specs.declared.done.DoneRow.{DoneRow}
use Rattle.placement.specs.Layout.{IsTable}
use Rattle.router.specs.Router.{RouterView}
use Rattle.skeen_core.specs.declared.packet.Delivered.{Delivered}
use Rattle.world.specs.Steps.{Made, Steps}
use Rattle.world.specs.Steps as world
use Rattle.world.specs.World.{World, Ended, HasRun}

-- the front that has settled a layer, with these parts
abbrev pub front_after : FrontView → RouterView → List Delivered → FrontView
front_after old r out = record old { router = r; out = out; steps = old.steps + 1; layers = old.layers + 1 }

-- the outcomes may go
pub may_go : (old : FrontView) (done : List DoneRow) → IsTrueOf old done → MayGo done old.router
may_go old done is = record {
  table = old.table;
  world = is.world;
  done = before old.table is.history is.world is.ended is.at.leads is.has_run;
  es = is.ended;
  standing = is.world.standing;
  told = is.told;
  settling = settle_starts old.table is.history is.world is.ended is.at.leads is.has_run old.router is.at.shows.connections;
}

module _ (old : FrontView) (done : List DoneRow) (r : RouterView) (gone : HaveGone done old.router r) where
  module _ (h : List Step) (w : World) (at' : FrontIsAt old h w) (es : List Ended) (has_run : w.layer ≡ HasRun es)
      (told : AllZip IsToldBy es done) where
    abbrev after : World
    after = all_settled old.table h w es at'.leads has_run

    made : Steps old.table w Settle Made after
    made = record { outcomes = es; there = has_run; answers = refl; after = refl }

    pub settles_there : (w' : World) × Steps old.table w Settle Made w' × FrontIsAt (front_after old r []) (h ++ Settle ∷ []) w'
    settles_there = (
      after,
      made,
      is_after old (front_after old r []) h w after Settle Made refl at' made (record {
        connections = settle_ends old.table h w es at'.leads has_run r
            (gone old.table w (before old.table h w es at'.leads has_run) es w.standing told
            (settle_starts old.table h w es at'.leads has_run old.router at'.shows.connections));
        multicast = packets_same old.table old.multicast w after refl refl refl at'.shows.multicast;
        out = refl;
      }),
    )

  settles_none : Settles old done (front_after old r [])
  settles_none = record { table = refl; steps = refl; layers = refl; out = refl; from_each = settles_there }

  -- the same, of a list that is empty
  pub settles : (out : List Delivered) → out ≡ [] → Settles old done (front_after old r out)
  settles out none = subst (λ ds. Settles old done (front_after old r ds)) (sym none) settles_none

-- the front that has settled it is as each front is
pub once_settled : (old new : FrontView) (done : List DoneRow) → IsFront old → IsTrueOf old done → Settles old done new → IsFront new
once_settled old new done is truth settles =
    let next = settles.from_each truth.history truth.world truth.at truth.ended truth.has_run truth.told in
    record {
      is_table = subst IsTable (sym settles.table) is.is_table;
      history = truth.history ++ Settle ∷ [];
      world = next.0;
      at = next.2;
      count = counted;
      not_run = none_run next.0 next.1;
    }
  where
    counted : length (truth.history ++ Settle ∷ []) ≡ new.steps + new.layers
    counted =
        let long = length-append truth.history (Settle ∷ []) in
        let count = truth.count in
        let steps = settles.steps in
        let layers = settles.layers in
        omega arith

    none_run : (w' : World) → world.Settles truth.world Made w' → HasNotRun w'.layer
    none_run w' step = subst (λ (v : World). HasNotRun v.layer) (sym step.after) tt
