-- What is put down of a step is what the worlds before and behind it tell.
use Rattle.std.proofs.Common.{◌≡◌, ◌∙◌, ℕ, ◌+◌, nat_lt, false, List, [], ◌∷◌, ◌++◌, Option, Some, None, length, map, drop}
use Rattle.std.proofs.Common.{refl, sym, ap, subst, arith, slice_get, inl, inr}
use Rattle.std.proofs.lemmas.List.{append-nil}
use Rattle.std.proofs.lemmas.List.Elements.{filter_agree}
use Rattle.std.proofs.lemmas.Option.{same_Some, slice_get-map}
use Rattle.std.specs.Prelude.{is_some, option_map}
use Rattle.groups.specs.declared.request.RequestId.{RequestId}
use Rattle.groups.specs.declared.skip_id.SkipId.{SkipId}
use Rattle.journal.specs.declared.step.Step.{Step}
use Rattle.journal.specs.declared.step.Step.TheVariants as step
use Rattle.keyspace.specs.Map.{Map}
use Rattle.layer_planner.specs.declared.job.Job.{Job}
use Rattle.picture.proofs.Lasts.{jobs-more, jobs-run}
use Rattle.picture.proofs.Runs.{told_more, made_more, last_more, submitted_layer, collected_layer}
use Rattle.picture.specs.Arrivals.{delivered_by, delivered_from, delivery_in, delivery_of, receipt_in, received_by, received_from}
use Rattle.picture.specs.Flights.{arrival_in, coming_in}
use Rattle.picture.specs.Layers.{is_answered, job_of, last_jobs, layer_in, layers_by, replied_by, replied_to, reply_at}
use Rattle.picture.specs.Layers.{reply_in, run_at, taken_at, with_last, with_run, with_taken}
use Rattle.picture.specs.Notes.{IsBefore, IsOther, Notes, arriving_in, ids_of, job_noted, receipt_noted, replies_noted}
use Rattle.picture.specs.Ran.{HasTold, IsLast}
use Rattle.picture.specs.Run.{Moment, flight_in, flight_of, last_of, made_by, told_by}
use Rattle.picture.specs.declared.layers.Layers.{Layers}
use Rattle.picture.specs.declared.recorder.Before.{Before}
use Rattle.picture.specs.declared.recorder.Before.TheVariants as before
use Rattle.picture.specs.declared.recorder.Recorder.{Recorder}
use Rattle.picture_shapes.specs.declared.facts.PacketFacts.{PacketFacts}
use Rattle.placement.specs.Layout.{Layout}
use Rattle.router.specs.Connection.{outcome_in}
use Rattle.router.specs.Router.{outcome_at}
use Rattle.router.specs.declared.connection.Connection.{Connection}
use Rattle.router.specs.declared.connection.Standing.{Standing}
use Rattle.router.specs.declared.connection.Standing.TheVariants as router
use Rattle.skeen_core.specs.declared.packet.Delivered.{Delivered}
use Rattle.skeen_core.specs.declared.packet.Packet.{Packet}
use Rattle.system.specs.Halves.{Shows, ShowsStage, effect_shown}
use Rattle.system.specs.Halves as halves
use Rattle.system.specs.Reads.{clock_of, connection_of, layer_of, queues_of, waiting_for}
use Rattle.system.specs.System.{SystemView}
use Rattle.system.specs.declared.effect.Effect.{Effect}
use Rattle.system.specs.declared.effect.Effect.TheVariants as effect
use Rattle.system.specs.declared.stage.Stage.{Stage}
use Rattle.system.specs.declared.stage.Stage.TheVariants as stage
use Rattle.front.specs.Connections.{ShowsClosed, ShowsConnection, ShowsOpen, outcome_shown}
use Rattle.front.specs.Layers.{AreJobs}
use Rattle.world.specs.Steps.{RunInTurn, RunsLayer, Steps, answer_to, map_after, opening, remembered, starved_among}
use Rattle.world.specs.Steps as world
use Rattle.world.specs.World.{World, Ended, NoneTaken, Taken, HasRun}
use Rattle.world_laws.specs.Good.{Asked}

-- ---- what the system shows

waits_open : (st : Standing) (v : Connection) (w : World) (c : ℕ) → ShowsOpen st v w c →
    is_some (outcome_in st) ≡ is_answered (w.standing c)
waits_open router.Idle v w c is = sym (ap is_answered is.0)
waits_open (router.Waiting asked) v w c is = sym (ap is_answered is.0)
waits_open router.Taken v w c is = sym (ap is_answered is.0)
waits_open (router.Answered o) v w c is = sym (ap is_answered is.0)

waits_closed : (st : Standing) (v : Connection) (w : World) (c : ℕ) → ShowsClosed st v w c →
    is_some (outcome_in st) ≡ is_answered (w.standing c)
waits_closed router.Idle v w c is = absurd is
waits_closed (router.Waiting asked) v w c is = sym (ap is_answered is.0)
waits_closed router.Taken v w c is = sym (ap is_answered is.0)
waits_closed (router.Answered o) v w c is = absurd is

-- an outcome waits where one does in the world
waits_as : (o : Option Connection) (w : World) (c : ℕ) → ShowsConnection o w c → is_some (outcome_at o) ≡ is_answered (w.standing c)
waits_as None w c is = sym (ap is_answered is)
waits_as (Some v) w c is = elim is.1 [
  | inl open' ↦ waits_open v.standing v w c open'.1
  | inr shut ↦ waits_closed v.standing v w c shut.1
]

-- the jobs of a layer that was taken are its requests
jobs_told : (asked : Asked) (ds : List Delivered) (js : List Job) → AreJobs asked ds js → map job_noted js ≡ map job_of ds
jobs_told asked [] [] are = refl
jobs_told asked [] (j ∷ js) are = absurd are
jobs_told asked (d ∷ ds) [] are = absurd are
jobs_told asked (d ∷ ds) (j ∷ js) are =
    let job = are.0 in
    let rest = jobs_told asked ds js are.1 in
    λ i. record { id = job.id i; stamp = job.stamp i; groups = job.groups i; starved = false } ∷ rest i

same_taken : (xs ys : List Delivered) → Taken xs ≡ Taken ys → xs ≡ ys
same_taken xs ys is = cc

stage_jobs : (st : Stage) (w : World) (ds : List Delivered) → ShowsStage st w → w.layer ≡ Taken ds → AreJobs w.asked ds (halves.layer_of st)
stage_jobs stage.Free w ds is taken = let apart : NoneTaken ≡ Taken ds = sym is ∙ taken in cc
stage_jobs (stage.Taken jobs) w ds is taken = subst (λ l. AreJobs w.asked l jobs) (same_taken is.0 ds (sym is.1 ∙ taken)) is.2
stage_jobs (stage.HasRun outcomes) w ds is taken = let apart : HasRun is.0 ≡ Taken ds = sym is.1 ∙ taken in cc

ids-jobs : (ds : List Delivered) → ids_of (map job_of ds) ≡ map (λ (d : Delivered). d.id) ds
ids-jobs [] = refl
ids-jobs (d ∷ ds) = ap (λ ids. d.id ∷ ids) (ids-jobs ds)

ids-run : (asked : Asked) (starved : List SkipId) (m : Map) (ds : List Delivered) (es : List Ended) → RunInTurn asked starved m ds es →
    map (λ (d : Delivered). d.id) ds ≡ map (λ (e : Ended). e.id) es
ids-run asked starved m [] es run = sym (ap (map (λ (e : Ended). e.id)) run)
ids-run asked starved m (d ∷ ds) [] run = absurd run
ids-run asked starved m (d ∷ ds) (e ∷ es) run =
    let rest = ids-run asked starved (map_after e.reply e.task m) ds es run.1 in λ i. (sym run.0.2 i).id ∷ rest i

-- ---- a step

-- what the step behind so many, between these worlds, adds to what was put down
pub record Tells (n : ℕ) (w : World) (s : Step) (w' : World) (old new : Recorder) : Type 0 where
  pub receipts : map receipt_in new.arrivals.receipts.items ≡ map receipt_in old.arrivals.receipts.items ++ received_by n w s w'
  pub deliveries : map delivery_in new.arrivals.deliveries.items ≡ map delivery_in old.arrivals.deliveries.items ++ delivered_by n w s w'
  pub layers : map layer_in new.layers.layers.items ≡ layers_by n w s w' (map layer_in old.layers.layers.items)
  pub replies : map reply_in new.layers.replies.items ≡ map reply_in old.layers.replies.items ++ replied_by n w s w'
  pub last : IsLast w'.layer (map layer_in new.layers.layers.items)

module _ (t : Layout) (w w' : World) (n : ℕ) (before' after : SystemView) (shows : Shows before'.halves w) (shown : Shows after.halves w')
    (old new : Recorder) (last : IsLast w.layer (map layer_in old.layers.layers.items)) where
  no_receipts : new.arrivals ≡ old.arrivals → map receipt_in new.arrivals.receipts.items ≡ map receipt_in old.arrivals.receipts.items ++ []
  no_receipts same = ap (λ a. map receipt_in a.receipts.items) same ∙ sym (append-nil (map receipt_in old.arrivals.receipts.items))

  no_deliveries : new.arrivals ≡ old.arrivals →
      map delivery_in new.arrivals.deliveries.items ≡ map delivery_in old.arrivals.deliveries.items ++ []
  no_deliveries same = ap (λ a. map delivery_in a.deliveries.items) same ∙ sym (append-nil (map delivery_in old.arrivals.deliveries.items))

  no_replies : new.layers.replies ≡ old.layers.replies →
      map reply_in new.layers.replies.items ≡ map reply_in old.layers.replies.items ++ []
  no_replies same = ap (λ rs. map reply_in rs.items) same ∙ sym (append-nil (map reply_in old.layers.replies.items))

  kept_last : w'.layer ≡ w.layer → new.layers ≡ old.layers → IsLast w'.layer (map layer_in new.layers.layers.items)
  kept_last layer same =
      subst (λ l. IsLast l (map layer_in new.layers.layers.items)) (sym layer)
      (subst (λ (ls : Layers). IsLast w.layer (map layer_in ls.layers.items)) (sym same) last)

  -- a step of another kind
  other : (b : Before) (e : Effect) → IsOther b → Notes n b e after old new → (new.arrivals ≡ old.arrivals) × (new.layers ≡ old.layers)
  other before.Open e is put = put
  other (before.Submit words title) e is put = put
  other (before.Deliver arriving) e is put = absurd is
  other before.Take e is put = absurd is
  other before.Run e is put = absurd is
  other before.Settle e is put = absurd is
  other (before.Collect conn) e is put = put
  other (before.Close conn) e is put = put
  other before.Repeat e is put = put

  -- a packet comes
  clocks : (g : ℕ) → clock_of before' g ≡ (w.group g).clock
  clocks g = ap (λ state. state.clock) (shows.multicast.groups g)

  clocks' : (g : ℕ) → clock_of after g ≡ (w'.group g).clock
  clocks' g = ap (λ state. state.clock) (shown.multicast.groups g)

  come : (p : PacketFacts) (packet : Packet) (e : Effect) (k : ℕ) → flight_in p ≡ flight_of packet → slice_get w.packets k ≡ Some packet →
      w'.layer ≡ w.layer → Notes n (before.Deliver (Some (arriving_in before' p))) e after old new → Tells n w (step.Deliver k) w' old new
  come p packet e k same there layer put =
      let to : p.to ≡ packet.to = ap (λ f. f.to) same in
      let receipt : receipt_noted n (arriving_in before' p) after ∷ [] ≡ received_from n w (Some packet) w' =
      λ i. record {
        step = n;
        flight = same i;
        clock = (ap (clock_of after) to ∙ clocks' packet.to) i;
        rose = nat_lt ((ap (clock_of before') to ∙ clocks packet.to) i) ((ap (clock_of after) to ∙ clocks' packet.to) i);
      } ∷ [] in
      let deliveries : map (delivery_of n p.to) (drop (length (queues_of before' p.to)) (queues_of after p.to))
      ≡ delivered_from n w (Some packet) w' =
      ap (λ g. map (delivery_of n g) (drop (length (queues_of before' g)) (queues_of after g))) to
      ∙ ap (λ l. map (delivery_of n packet.to) (drop (length l) (queues_of after packet.to))) (shows.multicast.queues packet.to)
      ∙ ap (λ l. map (delivery_of n packet.to) (drop (length (w.queue packet.to)) l)) (shown.multicast.queues packet.to) in
      record {
        receipts = put.0.receipts ∙ ap (λ l. map receipt_in old.arrivals.receipts.items ++ l)
            (receipt ∙ ap (λ o. received_from n w o w') (sym there));
        deliveries = put.0.deliveries ∙ ap (λ l. map delivery_in old.arrivals.deliveries.items ++ l)
            (deliveries ∙ ap (λ o. delivered_from n w o w') (sym there));
        layers = ap (λ ls. map layer_in ls.layers.items) put.1;
        replies = no_replies (ap (λ ls. ls.replies) put.1);
        last = kept_last layer put.1;
      }

  comes : (landed : Option PacketFacts) (packet : Packet) (e : Effect) (k : ℕ) → option_map flight_in landed ≡ Some (flight_of packet) →
      slice_get w.packets k ≡ Some packet → w'.layer ≡ w.layer →
      Notes n (before.Deliver (option_map (arriving_in before') landed)) e after old new → Tells n w (step.Deliver k) w' old new
  comes None packet e k same there layer put = cc
  comes (Some p) packet e k same there layer put = come p packet e k (same_Some (flight_in p) (flight_of packet) same) there layer put

  -- a layer is taken
  takes : (ds : List Delivered) (e : Effect) → w'.layer ≡ Taken ds → Notes n before.Take e after old new → Tells n w step.Take w' old new
  takes ds e taken put =
      let ls = map layer_in old.layers.layers.items in
      let jobs = jobs_told w'.asked ds (layer_of after) (stage_jobs after.halves.stage w' ds shown.stage taken) in
      let layers : map layer_in new.layers.layers.items ≡ ls ++ taken_at n (map job_of ds) ∷ [] =
      put.1.layers ∙ ap (λ js. ls ++ taken_at n js ∷ []) jobs in
      record {
        receipts = no_receipts put.0;
        deliveries = no_deliveries put.0;
        layers = layers ∙ ap (λ l. with_taken n l ls) (sym taken);
        replies = no_replies put.1.replies;
        last = subst (λ l. IsLast l (map layer_in new.layers.layers.items)) (sym taken)
            (ap (λ l. ids_of (last_jobs l)) layers ∙ ap ids_of (jobs-more ls (taken_at n (map job_of ds))) ∙ ids-jobs ds);
      }

  -- it is run
  runs : (skip starved : List SkipId) (ds : List Delivered) (es : List Ended) → w.layer ≡ Taken ds → w'.layer ≡ HasRun es →
      starved ≡ starved_among es → map (λ (d : Delivered). d.id) ds ≡ map (λ (x : Ended). x.id) es →
      Notes n before.Run (effect.Ran starved) after old new → Tells n w (step.Run skip) w' old new
  runs skip starved ds es taken run named ids put =
      let ls = map layer_in old.layers.layers.items in
      record {
        receipts = no_receipts put.0;
        deliveries = no_deliveries put.0;
        layers = put.1.layers ∙ ap (λ l. with_last (run_at n l) ls) named ∙ ap (λ l. with_run n l ls) (sym run);
        replies = no_replies put.1.replies;
        last = subst (λ l. IsLast l (map layer_in new.layers.layers.items)) (sym run)
            (ap (λ l. ids_of (last_jobs l)) put.1.layers ∙ jobs-run n starved ls ∙ subst (λ l. IsLast l ls) taken last ∙ ids);
      }

  -- it is settled
  settles : (es : List Ended) (e : Effect) → w.layer ≡ HasRun es → w'.layer ≡ NoneTaken → Notes n before.Settle e after old new →
      Tells n w step.Settle w' old new
  settles es e run none put =
      let ls = map layer_in old.layers.layers.items in
      let alike : (id : RequestId) → is_some (waiting_for after id.conn.0) ≡ is_answered (w'.standing id.conn.0) =
      (λ id. waits_as (connection_of after id.conn.0) w' id.conn.0 (shown.connections.each id.conn.0)) in
      let ids : ids_of (last_jobs ls) ≡ map (λ (x : Ended). x.id) es = subst (λ l. IsLast l ls) run last in
      record {
        receipts = no_receipts put.0;
        deliveries = no_deliveries put.0;
        layers = put.1.layers;
        replies = put.1.replies ∙ ap (λ l. map reply_in old.layers.replies.items ++ l)
            (ap (replies_noted n after) ids
            ∙ ap (map (reply_at n))
            (filter_agree (λ (id : RequestId). is_some (waiting_for after id.conn.0))
            (λ (id : RequestId). is_answered (w'.standing id.conn.0)) alike (map (λ (x : Ended). x.id) es))
            ∙ ap (λ l. replied_to n l w') (sym run));
        last = subst (λ l. IsLast l (map layer_in new.layers.layers.items)) (sym none) tt;
      }

  ran : (skip : List SkipId) (e : Effect) → RunsLayer w skip (effect_shown e) w' → Notes n before.Run e after old new →
      Tells n w (step.Run skip) w' old new
  ran skip (effect.Opened conn) is put = let a : world.Opened conn.0 ≡ world.Ran (starved_among is.outcomes) = is.answers in cc
  ran skip (effect.Submitted id) is put = let a : world.Submitted id ≡ world.Ran (starved_among is.outcomes) = is.answers in cc
  ran skip (effect.Ran starved) is put =
      let a : world.Ran starved ≡ world.Ran (starved_among is.outcomes) = is.answers in
      let named : starved ≡ starved_among is.outcomes = cc in
      runs skip starved is.layer is.outcomes is.there (ap (λ v. v.layer) is.after) named
      (ids-run w.asked skip w.contents is.layer is.outcomes is.in_turn) put
  ran skip (effect.Collected outcome) is put =
      let a : world.Collected (option_map outcome_shown outcome) ≡ world.Ran (starved_among is.outcomes) = is.answers in cc
  ran skip effect.Made is put = let a : world.Made ≡ world.Ran (starved_among is.outcomes) = is.answers in cc

  -- nothing is told
  plain : (same : (new.arrivals ≡ old.arrivals) × (new.layers ≡ old.layers)) → w'.layer ≡ w.layer → (s : Step) →
      received_by n w s w' ≡ [] → delivered_by n w s w' ≡ [] → replied_by n w s w' ≡ [] →
      layers_by n w s w' (map layer_in old.layers.layers.items) ≡ map layer_in old.layers.layers.items → Tells n w s w' old new
  plain same layer s receipts deliveries replies layers = record {
    receipts = no_receipts same.0 ∙ ap (λ l. map receipt_in old.arrivals.receipts.items ++ l) (sym receipts);
    deliveries = no_deliveries same.0 ∙ ap (λ l. map delivery_in old.arrivals.deliveries.items ++ l) (sym deliveries);
    layers = ap (λ ls. map layer_in ls.layers.items) same.1 ∙ sym layers;
    replies = no_replies (ap (λ ls. ls.replies) same.1) ∙ ap (λ l. map reply_in old.layers.replies.items ++ l) (sym replies);
    last = kept_last layer same.1;
  }

  pub tells : (s : Step) (e : Effect) (b : Before) (landed : Option PacketFacts) → Steps t w s (effect_shown e) w' →
      IsBefore s landed before' b → option_map flight_in landed ≡ coming_in (arrival_in s) (map flight_of w.packets) →
      Notes n b e after old new → Tells n w s w' old new
  tells step.Open e b landed is was lands put = plain (other b e was put) (ap (λ v. v.layer) is.after) step.Open refl refl refl refl
  tells (step.Submit conn words) e b landed is was lands put =
      plain (other b e was put) (ap (λ v. v.layer) is.after
      ∙ submitted_layer t (remembered w conn.0 words) conn.0 (answer_to w conn.0 words))
      (step.Submit conn words) refl refl refl refl
  tells (step.Deliver k) e b landed is was lands put =
      comes landed is.packet e k (lands ∙ slice_get-map flight_of w.packets k ∙ ap (option_map flight_of) is.there) is.there
      (ap (λ v. v.layer) is.after) (subst (λ x. Notes n x e after old new) was put)
  tells step.Take e b landed is was lands put =
      takes is.layer e (ap (λ v. v.layer) is.after) (subst (λ x. Notes n x e after old new) was put)
  tells (step.Run skip) e b landed is was lands put = ran skip e is (subst (λ x. Notes n x e after old new) was put)
  tells step.Settle e b landed is was lands put =
      settles is.outcomes e is.there (ap (λ v. v.layer) is.after) (subst (λ x. Notes n x e after old new) was put)
  tells (step.Collect conn) e b landed is was lands put =
      plain (other b e was put) (collected_layer (w.standing conn.0) w w' conn.0 (effect_shown e) is) (step.Collect conn) refl refl refl
      refl
  tells (step.Close conn) e b landed is was lands put =
      plain (other b e was put) (ap (λ v. v.layer) is.after) (step.Close conn) refl refl refl refl
  tells (step.Repeat k) e b landed is was lands put =
      plain (other b e was put) (ap (λ v. v.layer) is.after) (step.Repeat k) refl refl refl refl

-- ---- a run

pub told_next : (run : List Moment) (n : ℕ) (s : Step) (w' : World) (old new : Recorder) → n ≡ length run → HasTold run old →
    Tells n (last_of opening run) s w' old new → HasTold (run ++ record { step = s; after = w' } ∷ []) new
told_next run n s w' old new at told tells =
    let m : Moment = record { step = s; after = w' } in
    let w = last_of opening run in
    let now : 0 + length run ≡ n = omega (arith, at) in
    record {
      receipts = tells.receipts ∙ ap (λ l. l ++ received_by n w s w') told.receipts
          ∙ sym (told_more received_by 0 opening run m ∙ ap (λ k. told_by received_by 0 opening run ++ received_by k w s w') now);
      deliveries = tells.deliveries ∙ ap (λ l. l ++ delivered_by n w s w') told.deliveries
          ∙ sym (told_more delivered_by 0 opening run m ∙ ap (λ k. told_by delivered_by 0 opening run ++ delivered_by k w s w') now);
      layers = tells.layers ∙ ap (layers_by n w s w') told.layers
          ∙ sym (made_more layers_by 0 opening run m [] ∙ ap (λ k. layers_by k w s w' (made_by layers_by 0 opening run [])) now);
      replies = tells.replies ∙ ap (λ l. l ++ replied_by n w s w') told.replies
          ∙ sym (told_more replied_by 0 opening run m ∙ ap (λ k. told_by replied_by 0 opening run ++ replied_by k w s w') now);
      last = subst (λ v. IsLast v.layer (map layer_in new.layers.layers.items)) (sym (last_more opening run m)) tells.last;
    }
