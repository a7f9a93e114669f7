-- What a front shows after a step that settles nothing, and that it is then as each front is.
use Rattle.std.proofs.Common.{◌≡◌, ◌+◌, List, [], ◌∷◌, ◌++◌, length, refl, sym, ap, ◌∙◌, subst, arith, length-append}
use Rattle.front.proofs.Histories.{leads_more}
use Rattle.front.specs.Fronts.{FrontView, IsOut, FrontShows, FrontIsAt, HasNotRun, IsFront, roomless}
use Rattle.front.specs.Making.{IsStep, Makes}
use Rattle.journal.specs.declared.step.Step.{Step}
use Rattle.journal.specs.declared.step.Step.TheVariants.{Take, Run, Settle}
use Rattle.multicast.specs.Multicast.{MulticastView}
use Rattle.order_laws.proofs.Layers.{others_leave_layers}
use Rattle.placement.specs.Layout.{Layout, IsTable}
use Rattle.router.specs.Router.{RouterView}
use Rattle.front.specs.Connections.{ShowsConnections}
use Rattle.front.specs.Multicast.{ShowsMulticast}
use Rattle.world.specs.Steps.{opening, Effect, Steps, Leads}
use Rattle.world.specs.World.{World, Layer}

-- ---- room

pub with_room : (t : Layout) (m : MulticastView) (w : World) → ShowsMulticast t (roomless m) w → ShowsMulticast t m w
with_room t m w shows =
    record { count = shows.count; groups = shows.groups; packets = shows.packets; queues = shows.queues }

-- ---- a step that settles nothing

-- the front once router and multicast made a step
abbrev pub stepped : FrontView → RouterView → MulticastView → FrontView
stepped f r m = record f { router = r; multicast = m; steps = f.steps + 1 }

pub is_stepped : (f : FrontView) (r : RouterView) (m : MulticastView) → IsStep f (stepped f r m)
is_stepped f r m = record { table = refl; steps = refl; layers = refl }

-- what the groups show is what they and their packets and queues are
pub packets_same : (t : Layout) (m : MulticastView) (w w' : World) → w'.group ≡ w.group → w'.packets ≡ w.packets → w'.queue ≡ w.queue →
    ShowsMulticast t m w → ShowsMulticast t m w'
packets_same t m w w' group packets queue shows = record {
  count = shows.count;
  groups = λ g. shows.groups g ∙ sym (ap (λ h. h g) group);
  packets = shows.packets ∙ sym packets;
  queues = λ g. shows.queues g ∙ sym (ap (λ h. h g) queue);
}

-- a step that leaves the layer alone
pub by_messages : (f : FrontView) (r : RouterView) (m : MulticastView) (w w' : World) → w'.layer ≡ w.layer → FrontShows f w →
    ShowsConnections r w' → ShowsMulticast f.table m w' → FrontShows (stepped f r m) w'
by_messages f r m w w' layer shows connections packets = record {
  connections = connections;
  multicast = packets;
  out = subst (λ (l : Layer). IsOut l f.out) (sym layer) shows.out;
}

-- the front is at the world that the step leads to
pub is_after : (old new : FrontView) (h : List Step) (w w' : World) (step : Step) (effect : Effect) → new.table ≡ old.table →
    FrontIsAt old h w → Steps old.table w step effect w' → FrontShows new w' → FrontIsAt new (h ++ step ∷ []) w'
is_after old new h w w' step effect table at' made shows = record {
  leads = subst (λ t. Leads t opening (h ++ step ∷ []) w') (sym table)
      (leads_more old.table opening w w' h step effect at'.leads made);
  shows = shows;
}

-- ---- each front

abbrev pub NoRun : Step → Type 0
NoRun (Run starved) = ⊥
NoRun step = Unit {0}

-- only a Run leaves a layer that has run
pub still_unrun : (t : Layout) (w w' : World) (step : Step) (effect : Effect) → NoRun step → Steps t w step effect w' →
    HasNotRun w.layer → HasNotRun w'.layer
still_unrun t w w' Take effect plain made not_run = subst (λ (v : World). HasNotRun v.layer) (sym made.after) tt
still_unrun t w w' (Run starved) effect plain made not_run = absurd plain
still_unrun t w w' Settle effect plain made not_run = subst (λ (v : World). HasNotRun v.layer) (sym made.after) tt
still_unrun t w w' step effect plain made not_run =
    subst HasNotRun (sym (others_leave_layers t w w' step effect tt made).0) not_run

-- the front after a step is as each front is
module _ (old new : FrontView) (is : IsFront old) (step : Step) (plain : NoRun step) (counts : IsStep old new) where
  pub goes_on : (effect : Effect) (w' : World) → Steps old.table is.world step effect w' →
      FrontIsAt new (is.history ++ step ∷ []) w' → IsFront new
  goes_on effect w' made at' = record {
    is_table = subst IsTable (sym counts.table) is.is_table;
    history = is.history ++ step ∷ [];
    world = w';
    at = at';
    count = counted;
    not_run = still_unrun old.table is.world w' step effect plain made is.not_run;
  }
    where
      counted : length (is.history ++ step ∷ []) ≡ new.steps + new.layers
      counted =
          let long = length-append is.history (step ∷ []) in
          let count = is.count in
          let steps = counts.steps in
          let layers = counts.layers in
          omega arith

pub once_made : (old new : FrontView) → IsFront old → (step : Step) → NoRun step → (effect : Effect) → Makes old step effect new →
    IsFront new
once_made old new is step plain effect makes =
    let next = makes.from_each is.history is.world is.at in
    goes_on old new is step plain makes.is_step effect next.0 next.1 next.2
