-- Take of a front is the world's.
use Rattle.std.proofs.Common.{◌≡◌, ◌≢◌, ◌+◌, List, [], ◌∷◌, inl, refl, sym, ◌∙◌, subst}
use Rattle.delivery.specs.Queues.{queue_of}
use Rattle.delivery.specs.Ready.{QueueOf, IsReady, IsLayer}
use Rattle.delivery.proofs.Layers.{one_is_ready}
use Rattle.front.proofs.Showing.{is_after, goes_on}
use Rattle.front.proofs.Taking.{take_starts, take_ends, take_queues}
use Rattle.front.specs.Fronts.{FrontView, IsOut, FrontIsAt, IsFront, roomless}
use Rattle.front.specs.Refusing.{Refuses, RefusesNot}
use Rattle.front.specs.Taking.{IsTaking, Takes}
use Rattle.journal.specs.declared.step.Step.{Step}
use Rattle.journal.specs.declared.step.Step.TheVariants as step
use Rattle.layer_planner.specs.declared.job.Job.{Job}
use Rattle.multicast.specs.Multicast.{MulticastView, LosesLayer}
use Rattle.placement.specs.Layout.{Layout}
use Rattle.router.specs.Router.{RouterView}
use Rattle.skeen_core.specs.declared.packet.Delivered.{Delivered}
use Rattle.front.specs.Layers.{AreJobs}
use Rattle.world.specs.Steps.{Made, taken, OwnFault, Busy, NoConn, NoPacket, InFlight, NoLayer, Refused, IsInFlight}
use Rattle.world.specs.World.{World, Layer, NoneTaken, Taken, HasRun}
use Rattle.world_laws.specs.Good.{all_delivered}

-- the front once this layer was taken
abbrev pub taken_front : FrontView → RouterView → MulticastView → List Delivered → FrontView
taken_front f r m ds = record f { router = r; multicast = m; out = ds; steps = f.steps + 1 }

-- ---- whether a layer is out

-- where none is out the world has none
none_there : (l : Layer) (out : List Delivered) → IsOut l out → out ≡ [] → l ≡ NoneTaken
none_there NoneTaken out shows none = refl
none_there (Taken ds) out shows none = absurd (shows.1 (sym shows.0 ∙ none))
none_there (HasRun es) out shows none = absurd (none_ran es (sym shows.0 ∙ none) shows.1)
  where
    none_ran : (es : List _) → all_delivered es ≡ [] → es ≢ [] → ⊥
    none_ran [] none some = some refl
    none_ran (e ∷ es) none some = cc

pub none_out : (f : FrontView) → f.out ≡ [] → (h : List Step) (w : World) → FrontIsAt f h w → w.layer ≡ NoneTaken
none_out f none h w at' = none_there w.layer f.out at'.shows.out none

some_there : (l : Layer) (out : List Delivered) → IsOut l out → out ≢ [] → IsInFlight l
some_there NoneTaken out shows some = absurd (some shows)
some_there (Taken ds) out shows some = tt
some_there (HasRun es) out shows some = tt

pub take_in_flight : (f : FrontView) → f.out ≢ [] → Refuses f step.Take InFlight
take_in_flight f some h w at' = some_there w.layer f.out at'.shows.out some

queues_are : (f : FrontView) (h : List Step) (w : World) → FrontIsAt f h w → queue_of f.multicast.queues ≡ w.queue
queues_are f h w at' = λ k g. at'.shows.multicast.queues g k

-- no layer is out and one could be taken: a Take has no fault of its own
pub take_memory : (f : FrontView) → f.out ≡ [] → (((d : Delivered) → ¬ IsReady (queue_of f.multicast.queues) d) → ⊥) →
    RefusesNot f step.Take
take_memory f none some = λ h w at' fault refused.
    by_fault w (none_out f none h w at')
    (λ none. some (subst (λ (q : QueueOf). (d : Delivered) → ¬ IsReady q d) (sym (queues_are f h w at')) none)) fault refused
  where
    by_fault : (w : World) → w.layer ≡ NoneTaken → (((d : Delivered) → ¬ IsReady w.queue d) → ⊥) → (fault : OwnFault) →
        ¬ Refused w step.Take fault
    by_fault w free some Busy refused = refused
    by_fault w free some NoConn refused = refused
    by_fault w free some NoPacket refused = refused
    by_fault w free some InFlight refused = subst IsInFlight free refused
    by_fault w free some NoLayer refused = some refused.1

-- where no request is ready there is no layer to be taken
pub take_unready : (f : FrontView) → f.out ≡ [] → ((d : Delivered) → ¬ IsReady (queue_of f.multicast.queues) d) →
    Refuses f step.Take NoLayer
take_unready f none unready = λ h w at'. (
  none_out f none h w at',
  subst (λ (q : QueueOf). (d : Delivered) → ¬ IsReady q d) (queues_are f h w at') unready,
)

pub take_no_layer : (f : FrontView) → f.out ≡ [] → IsLayer (queue_of f.multicast.queues) [] → Refuses f step.Take NoLayer
take_no_layer f none ready = take_unready f none (λ d is. ready.all d (inl is))

-- a layer that isn't empty has a ready request
pub some_ready : (queue : QueueOf) (ds : List Delivered) → IsLayer queue ds → ds ≢ [] → ((d : Delivered) → ¬ IsReady queue d) → ⊥
some_ready queue [] layer some none = some refl
some_ready queue (d ∷ ds) layer some none = let one = one_is_ready queue d (layer.only d (inl refl)) in none one.0 one.1

-- ---- it is taken

module _ (old : FrontView) (none : old.out ≡ []) (ds : List Delivered) (ready : IsLayer (queue_of old.multicast.queues) ds) where
  -- in each world that the front is at these may be taken
  starts : (h : List Step) (w : World) → FrontIsAt old h w → IsTaking old.table w [] ds old.router
  starts h w at' = take_starts old.table h w ds old.router at'.leads (none_out old none h w at')
      (subst (λ (q : QueueOf). IsLayer q ds) (queues_are old h w at') ready) at'.shows.connections

  pub take_may_start : IsFront old → (t : Layout) × (w : World) × IsTaking t w [] ds old.router
  take_may_start is = (old.table, is.world, starts is.history is.world is.at)

  module _ (some : ds ≢ []) (r : RouterView) (m : MulticastView) (jobs : List Job)
      (takes : (t : Layout) (w : World) → IsTaking t w [] ds old.router → IsTaking t w ds [] r × AreJobs w.asked ds jobs)
      (loses : LosesLayer old.multicast ds m) where
    pub take_makes : Takes old jobs (taken_front old r m ds)
    take_makes = record {
      is_step = record { table = refl; steps = refl; layers = refl };
      from_each = λ h w at'.
          let last = takes old.table w (starts h w at') in
          let ends = take_ends old.table w ds r last.0 some in (
            ends.0,
            last.1,
            is_after old (taken_front old r m ds) h w (taken w ds) step.Take Made refl at' ends.0 (record {
              connections = ends.1;
              multicast = take_queues old.table w ds old.multicast m at'.shows.multicast loses;
              out = (refl, some);
            }),
          );
    }

-- the same, of lists that lie in slices, and of a layer that was gathered
pub take_made : (old : FrontView) (none : old.out ≡ []) (ds taken-ds lost : List Delivered) →
    IsLayer (queue_of old.multicast.queues) ds → ds ≢ [] → (r : RouterView) (m : MulticastView) (jobs layer : List Job) →
    taken-ds ≡ ds → lost ≡ ds → layer ≡ jobs →
    ((t : Layout) (w : World) → IsTaking t w [] taken-ds old.router → IsTaking t w taken-ds [] r × AreJobs w.asked taken-ds jobs) →
    LosesLayer old.multicast lost m → Takes old layer (taken_front old r m ds)
take_made old none ds taken-ds lost ready some r m jobs layer slice slice' gathered takes loses =
    subst (λ js. Takes old js (taken_front old r m ds)) (sym gathered)
    (take_makes old none ds ready some r m jobs
    (λ t w is.
    let after = takes t w (subst (λ xs. IsTaking t w [] xs old.router) (sym slice) is) in (
      subst (λ xs. IsTaking t w xs [] r) slice after.0,
      subst (λ xs. AreJobs w.asked xs jobs) slice after.1,
    ))
    (subst (λ xs. LosesLayer old.multicast xs m) slice' loses))

-- the front is then as each front is
pub once_taken_out : (old new : FrontView) (jobs : List Job) → IsFront old → Takes old jobs new → IsFront new
once_taken_out old new jobs is takes =
    let next = takes.from_each is.history is.world is.at in
    goes_on old new is step.Take tt takes.is_step Made (taken is.world new.out) next.0 next.2

pub loses_roomless : (old new : MulticastView) (ds : List Delivered) → LosesLayer old ds new → LosesLayer (roomless old) ds (roomless new)
loses_roomless old new ds loses = record { groups = loses.groups; packets = loses.packets; queue = loses.queue }
