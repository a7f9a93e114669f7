-- Taking a layer out of the router, one request after another, is a step of the world.
use Rattle.std.proofs.Common.{◌≡◌, ◌≢◌, ℕ, ◌==◌, true, cond, List, [], ◌∷◌, ◌++◌, inl, inr, length, Some, None, refl, sym, ap, ◌∙◌, subst}
use Rattle.std.proofs.Common.{eq-eqb, append-nil}
use Rattle.std.proofs.lemmas.Bool.{both_ways}
use Rattle.std.proofs.Math.Seq.{append_snoc}
use Rattle.delivery.proofs.Layers.{taken_somewhere}
use Rattle.delivery.specs.Ready.{IsLayer, left_in}
use Rattle.journal.specs.declared.step.Step.{Step}
use Rattle.multicast.specs.Multicast.{MulticastView, group_of, LosesLayer}
use Rattle.placement.specs.Layout.{Layout}
use Rattle.router.specs.Connection.{is_under_way, with_standing}
use Rattle.router.specs.Router.{RouterView, connection, pending_in, pending_at, Changes}
use Rattle.router.specs.declared.connection.Connection.{Connection}
use Rattle.router.specs.declared.connection.Standing.TheVariants as router
use Rattle.groups.proofs.Options.{some_same}
use Rattle.skeen_core.proofs.Lawful.{id_there, named}
use Rattle.groups.proofs.Lists.{In-left, In-right}
use Rattle.groups.proofs.Stamps.{lt_irrefl}
use Rattle.skeen_core.specs.Group.{has_id}
use Rattle.groups.specs.Order.{In}
use Rattle.groups.specs.Stamp.{stamp_lt}
use Rattle.skeen_core.specs.declared.packet.Delivered.{Delivered}
use Rattle.groups.specs.declared.request.RequestId.{RequestId}
use Rattle.front.proofs.WorldConnections.{Alike, connection_alike, each_of, kept_here, kept_at, IsPending, IsTakenOr, kept_waits}
use Rattle.front.proofs.WorldConnections.{StandsUnderWay, stands_under_way}
use Rattle.front.specs.Connections.{Waits, InLayer, id_of, ShowsConnection, ShowsKept, IsKeptFor, ShowsSessions, ShowsConnections}
use Rattle.front.specs.Multicast.{ShowsMulticast}
use Rattle.front.specs.Taking.{with_layer, IsTaking}
use Rattle.worded.specs.declared.worded.Worded.{Worded}
use Rattle.world.specs.Steps.{opening, Made, taken, Takes, Leads}
use Rattle.world.specs.World.{World, Request, Ended, Layer, NoneTaken, Taken}
use Rattle.world_laws.proofs.ConditionLaws.{delivered_same}
use Rattle.world_laws.proofs.Layers.{ascending_cross, in_delivered, taken_once}
use Rattle.world_laws.proofs.Values.{same_request}
use Rattle.world_laws.proofs.Worlds.{keeps_take, good_world}
use Rattle.world_laws.specs.Good.{Named, run_in, log_of, delivered_of, all_delivered, WorldGood}

-- ---- requests in front and behind

has_left : (ds es : List Delivered) (i : RequestId) → has_id ds i ≡ true → has_id (ds ++ es) i ≡ true
has_left ds es i there =
    let one = named ds i there in
    subst (λ j. has_id (ds ++ es) j ≡ true) one.id (id_there (ds ++ es) one.one (In-left one.one ds es one.there))

some_member : (ds back : List Delivered) (d : Delivered) → ds ++ d ∷ back ≡ [] → ⊥
some_member ds back d none = subst (λ l. In d l) none (In-right d ds (d ∷ back) (inl refl))

-- a layer is taken from a world
takes_layer : (w : World) (ds : List Delivered) → w.layer ≡ NoneTaken → IsLayer w.queue ds → ds ≢ [] →
    Takes w Made (taken w ds)
takes_layer w ds none layer some = record {
  layer = ds;
  free = none;
  ready = layer;
  some = some;
  answers = refl;
  after = refl;
}

-- the connection's request was taken out of the router
abbrev pub WasTaken : RouterView → RouterView → ℕ → Type 0
WasTaken r r' c = (v : Connection) × (connection r c ≡ Some v) × Changes r r' c (Some (with_standing v router.Taken))

-- ---- the next request

module _ (t : Layout) (w : World) (front : List Delivered) (d : Delivered) (back : List Delivered) (r : RouterView)
    (is : IsTaking t w front (d ∷ back) r) where
  good : WorldGood t w
  good = good_world t is.steps w is.leads

  in_layer : In d (front ++ d ∷ back)
  in_layer = In-right d front (d ∷ back) (inl refl)

  -- what the layer takes was delivered somewhere
  in_log : (e : Delivered) → In e (front ++ d ∷ back) → (g : ℕ) × In e (log_of w g)
  in_log e there =
      let at = taken_somewhere w.queue e (is.layer.only e there) in
      (at.0, In-right e (w.gone at.0) (w.queue at.0) at.2)

  asked : (q : Request) × (w.asked d.id ≡ Some q)
  asked =
      let log = in_log d in_layer in
      let named = ((good.skeen.groups log.0).known d log.1).named in
      (named.0, named.1)

  -- it hasn't ended: once it is taken it was taken once
  not_ended : Named w.ended d.id → ⊥
  not_ended ended =
      let takes = takes_layer w (front ++ d ∷ back) is.none is.layer (some_member front back d) in
      let next = keeps_take t w (taken w (front ++ d ∷ back)) Made takes good in
      taken_once t w.asked w.proposed next_gone w.seq w.last (all_delivered w.ended) (front ++ d ∷ back)
      good.requests next.taken (delivered_of ended.0) d (in_delivered w.ended ended.0 ended.1) in_layer ended.2
    where
      next_gone : ℕ → List Delivered
      next_gone = (taken w (front ++ d ∷ back)).gone

  -- nor is it in front
  not_in_front : has_id front d.id ≡ true → ⊥
  not_in_front there =
      let one = named front d.id there in
      let log = in_log one.one (In-left one.one front (d ∷ back) one.there) in
      let here = in_log d in_layer in
      let same = delivered_same t w good log.0 here.0 one.one d log.1 here.1 one.id in
      let less = ascending_cross front (d ∷ back) is.layer.ascending one.one d one.there (inl refl) in
      both_ways _ (lt_irrefl d.stamp) (subst (λ (x : Delivered). stamp_lt x.stamp d.stamp ≡ true) same less)

  abbrev before : World
  before = with_layer w (Taken front)

  abbrev after : World
  after = with_layer w (Taken (front ++ d ∷ []))

  -- the router keeps its connection
  kept_for : IsKeptFor r d.id
  kept_for = elim (is.shows.under_way d.id asked.0 asked.1) [
    | inl done ↦ absurd (not_ended
        (subst (λ (l : List Ended). Named l d.id) (sym (done.1 ∙ append-nil done.0)) done.2))
    | inr kept ↦ kept
  ]

  -- where it waits
  is_pending : IsPending kept_for.v.standing before d.id
  is_pending =
      let shown = kept_at r before d.id.conn.0 kept_for.v kept_for.kept is.shows in
      let this : id_of d.id.conn.0 kept_for.v.seq ≡ d.id =
      same_request (id_of d.id.conn.0 kept_for.v.seq) d.id refl kept_for.seq in
      elim (subst (λ i. IsTakenOr kept_for.v.standing before i) this
      (kept_waits kept_for.v before d.id.conn.0 kept_for.under_way shown)) [
        | inl waits ↦ waits
        | inr out ↦ absurd (not_in_front out)
      ]

  -- so the router has its task with its words
  pub take_pending : (asked : Worded) × (pending_at (connection r d.id.conn.0) d.id.seq ≡ Some asked) × Waits w d.id asked
  take_pending = (
    is_pending.0,
    ap (λ o. pending_at o d.id.seq) kept_for.kept
        ∙ ap (λ s. pending_in s (kept_for.v.seq == d.id.seq)) is_pending.1
        ∙ ap (λ b. cond b (Some is_pending.0) None) (eq-eqb kept_for.v.seq d.id.seq kept_for.seq),
    is_pending.2,
  )

  alike_taken : (c : ℕ) → Alike before after c
  alike_taken c = record {
    standing = refl;
    seq = refl;
    floor = λ free. refl;
    asked = λ seq. refl;
    layer = λ seq there. has_left front (d ∷ []) (id_of c seq) there;
  }

  -- its connection has given it away
  taken_here : (v : Connection) → v.seq ≡ d.id.seq → v.seq ≡ w.seq d.id.conn.0 → StandsUnderWay v before d.id.conn.0 →
      ShowsConnection (Some (with_standing v router.Taken)) after d.id.conn.0
  taken_here v this seq stands = (
    seq,
    elim stands [
      | inl waits ↦ inl (waits.0, (waits.1, out))
      | inr shut ↦ inr (shut.0, (shut.1, out))
    ],
  )
    where
      out : has_id (front ++ d ∷ []) (id_of d.id.conn.0 v.seq) ≡ true
      out = subst (λ i. has_id (front ++ d ∷ []) i ≡ true)
          (sym (same_request (id_of d.id.conn.0 v.seq) d.id refl this))
          (id_there (front ++ d ∷ []) d (In-right d front (d ∷ []) (inl refl)))

  pub take_next : (r' : RouterView) (v : Connection) → connection r d.id.conn.0 ≡ Some v →
      Changes r r' d.id.conn.0 (Some (with_standing v router.Taken)) → IsTaking t w (front ++ d ∷ []) back r'
  take_next r' v there changes = record {
    steps = is.steps;
    leads = is.leads;
    none = is.none;
    layer = subst (λ ds. IsLayer w.queue ds) (sym (append_snoc front d back)) is.layer;
    shows = record {
      opened = changes.opened ∙ is.shows.opened;
      sessions = subst (λ kept. ShowsSessions kept w.standing w.session) (sym changes.sessions) is.shows.sessions;
      each = each_of r r' before after d.id.conn.0 (Some (with_standing v router.Taken)) changes.at
          (λ c other. alike_taken c) is.shows.each
          (taken_here v seq here.0 (stands_under_way v before d.id.conn.0 busy here));
      under_way = λ i q asked. elim (is.shows.under_way i q asked) [
        | inl done ↦ inl done
        | inr kept ↦ inr (kept_here r r' d.id.conn.0 v (Some (with_standing v router.Taken)) i there changes.at
            (λ waits. (with_standing v router.Taken, refl, refl, refl)) kept)
      ];
    };
  }
    where
      same : kept_for.v ≡ v
      same = some_same kept_for.v v (sym kept_for.kept ∙ there)

      here : ShowsKept v before d.id.conn.0
      here = kept_at r before d.id.conn.0 v there is.shows

      busy : is_under_way v.standing ≡ true
      busy = subst (λ (u : Connection). is_under_way u.standing ≡ true) same kept_for.under_way

      seq : v.seq ≡ d.id.seq
      seq = subst (λ (u : Connection). u.seq ≡ d.id.seq) same kept_for.seq

-- ---- the first and the last

-- the request ended before this layer
abbrev SettledUnder : World → Layer → RequestId → Type 0
SettledUnder w l i = (done : List Ended) × (w.ended ≡ done ++ run_in l) × Named done i

-- a world with no layer, before the first request of the next one is taken
pub take_starts : (t : Layout) (steps : List Step) (w : World) (ds : List Delivered) (r : RouterView) → Leads t opening steps w →
    w.layer ≡ NoneTaken → IsLayer w.queue ds → ShowsConnections r w → IsTaking t w [] ds r
take_starts t steps w ds r leads none layer shows = record {
  steps = steps;
  leads = leads;
  none = none;
  layer = layer;
  shows = record {
    opened = shows.opened;
    sessions = shows.sessions;
    each = λ c. connection_alike (connection r c) w (with_layer w (Taken [])) c (alike c) (shows.each c);
    under_way = λ i q asked. elim (shows.under_way i q asked) [
      | inl done ↦ inl (subst (λ l. SettledUnder w l i) none done)
      | inr kept ↦ inr kept
    ];
  };
}
  where
    alike : (c : ℕ) → Alike w (with_layer w (Taken [])) c
    alike c = record {
      standing = refl;
      seq = refl;
      floor = λ free. refl;
      asked = λ seq. refl;
      layer = λ seq there. absurd (subst (λ (l : Layer). InLayer l (id_of c seq)) none there);
    }

pub take_ends : (t : Layout) (w : World) (ds : List Delivered) (r : RouterView) → IsTaking t w ds [] r → ds ≢ [] →
    Takes w Made (taken w ds) × ShowsConnections r (taken w ds)
take_ends t w ds r is some = (
  takes_layer w ds is.none (subst (λ l. IsLayer w.queue l) (append-nil ds) is.layer) some,
  record {
    opened = is.shows.opened;
    sessions = is.shows.sessions;
    each = λ c. connection_alike (connection r c) (with_layer w (Taken ds)) (taken w ds) c (alike c) (is.shows.each c);
    under_way = is.shows.under_way;
  },
)
  where
    alike : (c : ℕ) → Alike (with_layer w (Taken ds)) (taken w ds) c
    alike c = record {
      standing = refl;
      seq = refl;
      floor = λ free. refl;
      asked = λ seq. refl;
      layer = λ seq there. there;
    }

-- where the multicast loses the layer, so do the world's queues
pub take_queues : (t : Layout) (w : World) (ds : List Delivered) (m m' : MulticastView) → ShowsMulticast t m w →
    LosesLayer m ds m' → ShowsMulticast t m' (taken w ds)
take_queues t w ds m m' shows loses = record {
  count = ap length loses.groups ∙ shows.count;
  groups = λ g. ap (λ gs. group_of gs g) loses.groups ∙ shows.groups g;
  packets = loses.packets ∙ shows.packets;
  queues = λ g. loses.queue g ∙ ap (λ l. left_in ds l) (shows.queues g);
}
