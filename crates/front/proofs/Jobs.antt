-- The requests of a layer, ready to be run.
use Rattle.std.proofs.Common.{◌≡◌, true, List, [], ◌∷◌, ◌++◌, inl, inr, Some, None, refl, sym, ap, ◌∙◌, subst}
use Rattle.delivery.proofs.Layers.{layers_are_units, taken_somewhere}
use Rattle.groups.specs.GroupSet.{has}
use Rattle.groups.specs.Units.{MayFollow, AreUnits}
use Rattle.groups.specs.declared.stamp.Stamp.{Stamp}
use Rattle.layer_planner.specs.Layers.{StandTogether, MayStand}
use Rattle.layer_planner.specs.declared.job.Job.{Job}
use Rattle.placement.specs.Layout.{Layout}
use Rattle.router.specs.Router.{RouterView, connection, pending_at}
use Rattle.shard_workers.proofs.Zips.{zip_push}
use Rattle.groups.proofs.Options.{some_same}
use Rattle.groups.proofs.Lists.{In-right}
use Rattle.skeen_core.proofs.Lawful.{None≢Some}
use Rattle.groups.specs.Order.{In}
use Rattle.groups.specs.Stamp.{final}
use Rattle.skeen_core.specs.declared.packet.Delivered.{Delivered}
use Rattle.front.proofs.Taking.{WasTaken, take_pending, take_next}
use Rattle.front.specs.Connections.{Waits}
use Rattle.front.specs.Layers.{IsJob, AreJobs}
use Rattle.front.specs.Taking.{IsTaking}
use Rattle.front.proofs.WorldJobs.{all_jobs, job_waits, JobOf}
use Rattle.worded.specs.declared.worded.Worded.{Worded}
use Rattle.world.specs.World.{World}
use Rattle.world_laws.proofs.OrderLaws.{final_is_told}
use Rattle.world_laws.proofs.Worlds.{good_world}
use Rattle.world_laws.specs.Good.{Asked}
use Rattle.world_laws.specs.Order.{HasFinal}

-- ---- out of the router

module _ (t : Layout) (w : World) (front : List Delivered) (d : Delivered) (back : List Delivered) (r : RouterView)
    (is : IsTaking t w front (d ∷ back) r) where
  -- the router has the next request
  pub take_some : pending_at (connection r d.id.conn.0) d.id.seq ≡ None → ⊥
  take_some none = let pending = take_pending t w front d back r is in None≢Some pending.0 (sym none ∙ pending.1)

  -- once it gave it out there is one more job
  pub take_one : (r' : RouterView) (asked : Worded) (js : List Job) (j : Job) →
      pending_at (connection r d.id.conn.0) d.id.seq ≡ Some asked → WasTaken r r' d.id.conn.0 → AreJobs w.asked front js →
      j.id ≡ d.id → j.stamp ≡ d.stamp → j.groups ≡ d.groups → j.asked ≡ asked →
      IsTaking t w (front ++ d ∷ []) back r' × AreJobs w.asked (front ++ d ∷ []) (js ++ j ∷ [])
  take_one r' asked js j given was are id stamp groups same =
      let pending = take_pending t w front d back r is in
      let one : pending.0 ≡ asked = some_same pending.0 asked (sym pending.1 ∙ given) in
      let waits : Waits w d.id asked = subst (λ a. Waits w d.id a) one pending.2 in (
        take_next t w front d back r is r' was.0 was.1 was.2,
        zip_push (IsJob w.asked) front js d j are (job_waits w d asked j waits id stamp groups same),
      )

-- ---- their units

job_of : (asked : Asked) (ds : List Delivered) (js : List Job) → AreJobs asked ds js → (j : Job) → In j js → JobOf ds j
job_of asked ds [] are j there = absurd there
job_of asked [] (k ∷ js) are j there = absurd are
job_of asked (d ∷ ds) (k ∷ js) are j (inl same) = record {
  request = d;
  there = inl refl;
  groups = ap (λ (x : Job). x.groups) same ∙ are.0.groups;
  stamp = ap (λ (x : Job). x.stamp) same ∙ are.0.stamp;
}
job_of asked (d ∷ ds) (k ∷ js) are j (inr there) =
    let rest = job_of asked ds js are.1 j there in
    record { request = rest.request; there = inr rest.there; groups = rest.groups; stamp = rest.stamp }

-- a job may follow another where its request may
may_follow : (d e : Delivered) (j k : Job) → j.groups ≡ d.groups → j.stamp ≡ d.stamp → k.groups ≡ e.groups → k.stamp ≡ e.stamp →
    MayFollow d.groups d.stamp e.groups e.stamp → MayFollow j.groups j.stamp k.groups k.stamp
may_follow d e j k groups stamp others later may =
    subst (λ gs. MayFollow gs j.stamp k.groups k.stamp) (sym groups)
    (subst (λ (s : Stamp). MayFollow d.groups s k.groups k.stamp) (sym stamp)
    (subst (λ gs. MayFollow d.groups d.stamp gs k.stamp) (sym others)
    (subst (λ (s : Stamp). MayFollow d.groups d.stamp e.groups s) (sym later) may)))

stand : (asked : Asked) (ds : List Delivered) (js : List Job) → AreJobs asked ds js →
    AreUnits (λ (d : Delivered). d.groups) (λ (d : Delivered). d.stamp) ds → StandTogether js
stand asked ds [] are units = tt
stand asked [] (j ∷ js) are units = absurd are
stand asked (d ∷ ds) (j ∷ js) are units = (
  λ k there.
      let other = job_of asked ds js are.1 k there in
      may_follow d other.request j k are.0.groups are.0.stamp other.groups other.stamp (units.0 other.request other.there),
  stand asked ds js are.1 units.1,
)

module _ (t : Layout) (w : World) (ds : List Delivered) (r : RouterView) (is : IsTaking t w [] ds r) where
  -- the stamp of a request that is ready or lined up is of one of its own groups
  own_stamp : (d : Delivered) → In d ds → has d.groups d.stamp.group ≡ true
  own_stamp d there =
      let at = taken_somewhere w.queue d (is.layer.only d there) in
      let known = ((good_world t is.steps w is.leads).skeen.groups at.0).known d
      (In-right d (w.gone at.0) (w.queue at.0) at.2) in
      let q = known.named.0 in
      let settled : HasFinal w d.id q d.stamp =
      record { submitted = known.named.1; stamp = ap (final (w.proposed d.id)) known.named.2 ∙ known.stamp } in
      ap (λ gs. has gs d.stamp.group) (sym known.named.2) ∙ (final_is_told t is.steps w is.leads d.id q d.stamp settled).0

  -- those that come of them may be one layer
  pub jobs_may_stand : (js : List Job) → AreJobs w.asked ds js → MayStand js
  jobs_may_stand js are = record {
    together = stand w.asked ds js are (layers_are_units w.queue ds is.layer);
    stamps = all_jobs (λ (j : Job). has j.groups j.stamp.group ≡ true) w.asked ds js are
        (λ d j there job. ap (λ gs. has gs j.stamp.group) job.groups ∙ ap (λ (s : Stamp). has d.groups s.group) job.stamp
        ∙ own_stamp d there);
  }
