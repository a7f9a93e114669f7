-- Each kind of step leads from a good world to a good one.
use Rattle.std.proofs.Common.{◌≡◌, ℕ, ◌<◌, true, List, [], ◌∷◌, ◌++◌, inl, inr, Some, None, ◌==◌, refl, sym, ap, ◌∙◌}
use Rattle.std.proofs.Common.{subst, arith, append-nil, eqb-true, eq-eqb}
use Rattle.std.proofs.lemmas.Bool.{cases_Bool, cases_eq, or_left, cond-false}
use Rattle.groups.specs.GroupSet.{has}
use Rattle.journal.specs.declared.step.Step.{Step}
use Rattle.journal.specs.declared.step.Step.TheVariants.{Open, Submit, Deliver, Take, Run, Settle, Collect, Close, Repeat}
use Rattle.placement.specs.Layout.{Layout}
use Rattle.resp.specs.Content.{Content}
use Rattle.skeen_core.proofs.Ahead.{going_fresh}
use Rattle.skeen_core.proofs.Finite.{started-fresh, heard-fresh}
use Rattle.skeen_core.proofs.Lawful.{None≢Some}
use Rattle.skeen_core.proofs.RunLaws.{reached_fresh}
use Rattle.groups.proofs.Lists.{In-left, In-right}
use Rattle.skeen_core.specs.Group.{fresh}
use Rattle.groups.specs.Order.{In}
use Rattle.groups.specs.Stamp.{final}
use Rattle.groups.specs.declared.request.RequestId.{RequestId}
use Rattle.groups.specs.declared.stamp.Stamp.{Stamp}
use Rattle.groups.specs.declared.skip_id.SkipId.{SkipId}
use Rattle.sessions.specs.Session.{Answer, Now, Go}
use Rattle.tasks.specs.Tasks.{Task, task_groups}
use Rattle.world.specs.Steps.{opening, Effect, Opens, next_id, clock_of, final_clock, final_clock_of, floor_of, multicast, answered}
use Rattle.world.specs.Steps.{submitted_to, submitted, answer_to, remembered, Submits, received, Comes, Repeats, Takes, RunsLayer, Settles, Collects, Closes}
use Rattle.world.specs.Steps.{Steps, Makes, Leads}
use Rattle.world.specs.World.{World, Request, Standing, Closed, Idle, Waiting, Answered, Ended, HasRun}
use Rattle.world_laws.specs.Good.{Among, GroupGood, log_of, SkeenGood, ShapedFor, delivered_of, all_delivered, all_taken, TakenGood}
use Rattle.world_laws.specs.Good.{EarlierEnded, PastIsOut, Pending, ConnectionsGood, WorldGood}
use Rattle.world_laws.proofs.Arrivals.{arrival}
use Rattle.world_laws.proofs.Connections.{not_pending, connections_open, connections_answered, connections_multicast, connections_collect}
use Rattle.world_laws.proofs.Connections.{connections_close, connections_run, connections_settle, named_left, earlier_multicast}
use Rattle.world_laws.proofs.Layers.{log_taken, taken_layer, taken_run, run_layer_good, run_more, all_delivered-append, in_delivered}
use Rattle.world_laws.proofs.Layers.{taken_once}
use Rattle.world_laws.proofs.Lists.{in_place}
use Rattle.world_laws.proofs.Receipts.{SkeenOf, skeen_arrives, among_arrives, skeen_repeated}
use Rattle.world_laws.proofs.Requests.{asks_more, skeen_multicast, next_is_new, Rested, requests_multicast, requests_counted}
use Rattle.world_laws.proofs.Requests.{requests_proposed, taken_more}
use Rattle.groups.proofs.Options.{some_same}
use Rattle.world_laws.proofs.Values.{same_request, idle_open, idle_not_waiting, closed_not_answered}

-- ---- the opening

group_opening : (me : ℕ) → GroupGood (λ i. None) (λ i g. None) me fresh []
group_opening me = record {
  going = going_fresh me;
  heard = λ i h n e. absurd (None≢Some n (sym (heard-fresh i h) ∙ e));
  clock = λ i n e. absurd (None≢Some n e);
  apart = λ i j n e d. absurd (None≢Some n e);
  started = λ i gs e. absurd (None≢Some gs (sym (started-fresh i) ∙ e));
  past = reached_fresh;
  begun = λ i n e. absurd (None≢Some n e);
  known = λ d there. absurd there;
  member = λ d there. absurd there;
}

pub good_opening : (t : Layout) → WorldGood t opening
good_opening t = record {
  skeen = record {
    sent = λ p there. absurd there;
    coming = λ i q g named member. absurd (None≢Some q named);
    made = λ i g n e. absurd (None≢Some n e);
    groups = group_opening;
  };
  requests = record {
    shaped = λ i q e. absurd (None≢Some q e);
    fresh = λ i q e. absurd (None≢Some q e);
    lasts = λ c i e. absurd (None≢Some i e);
    latest = λ i q e. absurd (None≢Some q e);
    floors = λ i j q r conns less e d. absurd (None≢Some q e);
  };
  taken = record { known = λ d there. absurd there; passed = λ d there. absurd there; order = tt };
  connections = record {
    unopened = λ c less. (refl, refl, refl);
    settled = [];
    split = refl;
    pending = λ i q e. absurd (None≢Some q e);
    outcomes = λ c o e. absurd (closed_not_answered o e);
  };
  sessions = λ c less. refl;
  earlier = λ i j q r conns less e d. absurd (None≢Some q e);
  past = λ i q g named member past. absurd (None≢Some q named);
  run = record { tasks = λ e there. absurd there; replies = tt; map = refl };
}

-- ---- what is past

-- of a connection's requests each has ended before the next one is asked, so what is past was delivered itself
pub past_is_out : (w : World) → SkeenOf w → TakenGood w.asked w.proposed w.gone (all_taken w.ended w.layer) →
    EarlierEnded w.asked w.ended → PastIsOut w.asked w.group (log_of w)
past_is_out w skeen taken earlier i q g named member past =
    let it = ((skeen.groups g).past i).0 past in
    let asked = ((skeen.groups g).known it.0 it.1).named in
    elim (cases_eq i.seq it.0.id.seq) [
      | inl same ↦ (it.0, it.1, same_request it.0.id i it.2 (sym same))
      | inr other ↦
          let less : i.seq < it.0.id.seq = (let low = it.3 in omega arith) in
          let done = earlier i it.0.id q asked.0 (sym it.2) less named asked.1 in
          let there : In (delivered_of done.0) (all_taken w.ended w.layer) = In-left _ (all_delivered w.ended) _
          (in_delivered w.ended done.0 done.1) in
          let known = (taken.known (delivered_of done.0) there).named in
          let same : known.0 ≡ q = some_same known.0 q (sym known.1 ∙ ap w.asked done.2 ∙ named) in
          let addressed : has done.0.groups g ≡ true = subst (λ gs. has gs g ≡ true)
          (sym (ap (λ (x : Request). x.groups) same) ∙ known.2) member in
          (delivered_of done.0, In-left _ (w.gone g) (w.queue g) (taken.passed (delivered_of done.0) there g addressed), done.2)
    ]

-- ---- Open

pub keeps_open : (t : Layout) (old new : World) (effect : Effect) → Opens old effect new → WorldGood t old → WorldGood t new
keeps_open t old new effect step good = subst (λ w. WorldGood t w) (sym step.after) (record {
  skeen = good.skeen;
  requests = good.requests;
  taken = good.taken;
  connections =
      connections_open old.opened old.standing old.seq old.last old.asked old.ended old.layer good.requests.fresh good.connections;
  sessions = λ c less. good.sessions c (omega arith);
  earlier = good.earlier;
  past = good.past;
  run = good.run;
})

-- ---- Submit

pub good_answered : (t : Layout) (old : World) (c : ℕ) (reply : Content) → old.standing c ≡ Idle → WorldGood t old →
    WorldGood t (answered old c reply)
good_answered t old c reply idle good = record {
  skeen = good.skeen;
  requests = requests_counted t old.asked old.proposed old.seq old.last c good.requests;
  taken = good.taken;
  connections = connections_answered old.opened old.standing old.seq old.last old.asked old.ended old.layer c
      (record { id = next_id old c; reply = reply; stamp = None }) idle refl refl good.connections;
  sessions = good.sessions;
  earlier = good.earlier;
  past = good.past;
  run = good.run;
}

-- the last request of a connection that waits for none has its final stamp
pub rested : (t : Layout) (w : World) (c : ℕ) (s : Standing) → w.standing c ≡ s → (s ≡ Closed → ⊥) → (s ≡ Waiting → ⊥) → WorldGood t w →
    Rested w.asked w.proposed w.last c (floor_of w c)
rested t w c s is_at lively not_waiting good = record {
  stamp = λ l q is named.
      let at_c = (good.requests.lasts c l is).0 in
      elim (good.connections.pending l q named) [
        | inl done ↦
            let there : In (delivered_of done.0) (all_taken w.ended w.layer) = In-left _ (all_delivered w.ended) _
            (in_delivered w.ended done.0 (subst (λ es. In done.0 es) (sym good.connections.split)
            (In-left done.0 good.connections.settled _ done.1))) in
            let known = good.taken.known (delivered_of done.0) there in
            let same : known.named.0 ≡ q = some_same known.named.0 q (sym known.named.1 ∙ ap w.asked done.2 ∙ named) in
            let stamp : final (w.proposed l) q.groups ≡ Some done.0.stamp =
            ap (λ (x : Request). final (w.proposed l) x.groups) (sym same) ∙ ap (λ gs. final (w.proposed l) gs) known.named.2
            ∙ ap (λ i. final (w.proposed i) done.0.groups) (sym done.2) ∙ known.stamp in
            (done.0.stamp, stamp, sym (floor_is l q done.0.stamp is named stamp))
        | inr pending ↦ absurd (not_pending w.standing w.seq l s (ap w.standing at_c ∙ is_at) lively not_waiting pending)
      ];
}
  where
    floor_is : (l : RequestId) (q : Request) (s : Stamp) → w.last c ≡ Some l → w.asked l ≡ Some q →
        final (w.proposed l) q.groups ≡ Some s → floor_of w c ≡ s.clock
    floor_is l q s is named stamp = ap (final_clock_of w) is ∙ ap (final_clock w.proposed l) named ∙ ap clock_of stamp

pub good_multicast : (t : Layout) (old : World) (c : ℕ) (q : Request) → old.standing c ≡ Idle → q.floor ≡ floor_of old c → ShapedFor t q →
    WorldGood t old → WorldGood t (multicast old c q)
good_multicast t old c q idle floor shaped good =
    let none = next_is_new t old.asked old.proposed old.seq old.last c good.requests in
    let more = asks_more old.asked (next_id old c) q none in
    let skeen = skeen_multicast old.asked old.proposed old.packets old.group (log_of old) (next_id old c) q good.skeen none in
    let taken = taken_more old.asked _ old.proposed old.proposed old.gone (all_taken old.ended old.layer) more (λ i h n e. e) good.taken in
    let earlier = earlier_multicast old.opened old.standing old.seq old.last old.asked old.ended old.layer c q idle good.requests.fresh
    good.connections good.earlier in
    record {
      skeen = skeen;
      requests = requests_multicast t old.asked old.proposed old.packets old.group
          (log_of old) old.seq old.last c q good.skeen good.requests
          (subst (λ n. Rested old.asked old.proposed old.last c n) (sym floor)
          (rested t old c Idle idle idle_open idle_not_waiting good)) shaped;
      taken = taken;
      connections = connections_multicast old.opened old.standing old.seq old.last old.asked old.ended old.layer c q idle good.connections;
      sessions = good.sessions;
      earlier = earlier;
      past = past_is_out (multicast old c q) skeen taken earlier;
      run = run_more old.asked _ old.ended old.contents more good.run;
    }

good_submitted_to : (t : Layout) (old : World) (c : ℕ) (task : Task) (gs : List ℕ) → task_groups t task ≡ gs →
    old.standing c ≡ Idle → WorldGood t old → WorldGood t (submitted_to old c task gs)
good_submitted_to t old c task [] is idle good = good_answered t old c _ idle good
good_submitted_to t old c task (g ∷ gs) is idle good =
    good_multicast t old c (record { floor = floor_of old c; groups = g ∷ gs; task = task }) idle refl
    (record { groups = is; some = (g, or_left (g == g) (has gs g) (eq-eqb g g refl)) }) good

good_submitted : (t : Layout) (old : World) (c : ℕ) (r : Answer) → old.standing c ≡ Idle → WorldGood t old →
    WorldGood t (submitted t old c r)
good_submitted t old c (Go task) idle good = good_submitted_to t old c task (task_groups t task) refl idle good
good_submitted t old c (Now reply) idle good = good_answered t old c _ idle good

-- what a connection remembers makes no difference to the rest
pub good_remembered : (t : Layout) (old : World) (c : ℕ) (words : List (List ℕ)) → old.standing c ≡ Idle → WorldGood t old →
    WorldGood t (remembered old c words)
good_remembered t old c words idle good = record {
  skeen = good.skeen;
  requests = good.requests;
  taken = good.taken;
  connections = good.connections;
  sessions = λ d less. elim (cases_Bool (d == c)) [
    | inl e ↦ absurd (idle_open (sym idle ∙ ap old.standing (sym (eqb-true d c e)) ∙ (good.connections.unopened d less).0))
    | inr e ↦ cond-false (d == c) _ (old.session d) e ∙ good.sessions d less
  ];
  earlier = good.earlier;
  past = good.past;
  run = good.run;
}

pub keeps_submit : (t : Layout) (old new : World) (c : ℕ) (words : List (List ℕ)) (effect : Effect) → Submits t old c words effect new →
    WorldGood t old → WorldGood t new
keeps_submit t old new c words effect step good = subst (λ w. WorldGood t w) (sym step.after)
    (good_submitted t (remembered old c words) c (answer_to old c words) step.idle (good_remembered t old c words step.idle good))

-- ---- Deliver

pub keeps_deliver : (t : Layout) (old new : World) (k : ℕ) (effect : Effect) → Comes old k effect new → WorldGood t old → WorldGood t new
keeps_deliver t old new k effect step good =
    let arrives = arrival t old new k effect step good in
    subst (λ w. SkeenOf w → Among old.proposed w.proposed → WorldGood t w) (sym step.after) after
    (skeen_arrives old new k step.packet step.there arrives good.skeen) (among_arrives old new k step.packet arrives)
  where
    after : SkeenOf (received old k step.packet step.sent step.delivered step.state) →
        Among old.proposed (received old k step.packet step.sent step.delivered step.state).proposed →
        WorldGood t (received old k step.packet step.sent step.delivered step.state)
    after skeen among =
        let taken = taken_more old.asked old.asked old.proposed _ old.gone (all_taken old.ended old.layer) (λ i q e. e) among good.taken in
        record {
          skeen = skeen;
          requests = requests_proposed t old.asked old.proposed _ old.seq old.last among good.requests;
          taken = taken;
          connections = good.connections;
          sessions = good.sessions;
          earlier = good.earlier;
          past = past_is_out (received old k step.packet step.sent step.delivered step.state) skeen taken good.earlier;
          run = good.run;
        }

-- ---- Repeat

pub keeps_repeat : (t : Layout) (old new : World) (k : ℕ) (effect : Effect) → Repeats old k effect new → WorldGood t old → WorldGood t new
keeps_repeat t old new k effect step good = subst (λ w. WorldGood t w) (sym step.after) (record {
  skeen = skeen_repeated old step.packet (in_place old.packets k step.packet step.there) good.skeen;
  requests = good.requests;
  taken = good.taken;
  connections = good.connections;
  sessions = good.sessions;
  earlier = good.earlier;
  past = good.past;
  run = good.run;
})

-- ---- Take, Run, Settle

pub keeps_take : (t : Layout) (old new : World) (effect : Effect) → Takes old effect new → WorldGood t old → WorldGood t new
keeps_take t old new effect step good = subst (λ w. WorldGood t w) (sym step.after) (record {
  skeen = subst (λ log. SkeenGood old.asked old.proposed old.packets old.group log) (log_taken old.gone old.queue step.layer) good.skeen;
  requests = good.requests;
  taken = taken_layer old.asked old.proposed old.packets old.group old.gone old.queue old.ended step.layer good.skeen step.ready
      (subst (λ l. TakenGood old.asked old.proposed old.gone (all_taken old.ended l)) step.free good.taken);
  connections =
      let before = subst (λ l. ConnectionsGood old.opened old.standing old.seq old.last old.asked old.ended l) step.free good.connections in
      record {
        unopened = before.unopened;
        settled = before.settled;
        split = before.split;
        pending = before.pending;
        outcomes = before.outcomes;
      };
  sessions = good.sessions;
  earlier = good.earlier;
  past = subst (λ log. PastIsOut old.asked old.group log) (log_taken old.gone old.queue step.layer) good.past;
  run = good.run;
})

pub keeps_run : (t : Layout) (old new : World) (starved : List SkipId) (effect : Effect) → RunsLayer old starved effect new →
    WorldGood t old → WorldGood t new
keeps_run t old new starved effect step good = subst (λ w. WorldGood t w) (sym step.after) (record {
  skeen = good.skeen;
  requests = good.requests;
  taken = subst (λ ds. TakenGood old.asked old.proposed old.gone ds)
      (taken_run old.asked starved old.contents old.ended step.outcomes step.layer step.in_turn)
      (subst (λ l. TakenGood old.asked old.proposed old.gone (all_taken old.ended l)) step.there good.taken);
  connections = connections_run old.opened old.standing old.seq old.last old.asked old.ended step.outcomes step.layer
      (subst (λ l. ConnectionsGood old.opened old.standing old.seq old.last old.asked old.ended l) step.there good.connections);
  sessions = good.sessions;
  earlier = λ i j q r conns less e d. named_left old.ended step.outcomes i (good.earlier i j q r conns less e d);
  past = good.past;
  run = run_layer_good old.asked starved old.contents old.ended step.outcomes step.layer step.in_turn good.run;
})

-- the requests of a layer that was run are those that their connections wait for
pub run_is_pending : (t : Layout) (w : World) (es : List Ended) → w.layer ≡ HasRun es → WorldGood t w → (e : Ended) → In e es →
    Pending w.standing w.seq e.id
run_is_pending t w es is good e there =
    let connections = subst (λ l. ConnectionsGood w.opened w.standing w.seq w.last w.asked w.ended l) is good.connections in
    let at_end : In e w.ended = subst (λ l. In e l) (sym connections.split) (In-right e connections.settled es there) in
    let named = good.run.tasks e at_end in
    elim (connections.pending e.id named.0 named.1) [
      | inr pending ↦ pending
      | inl done ↦
          let split : all_taken w.ended (HasRun es) ≡ all_delivered connections.settled ++ all_delivered es =
          append-nil (all_delivered w.ended) ∙ ap all_delivered connections.split ∙ all_delivered-append connections.settled es in
          let taken = subst (λ ds. TakenGood w.asked w.proposed w.gone ds) split
          (subst (λ l. TakenGood w.asked w.proposed w.gone (all_taken w.ended l)) is good.taken) in
          absurd (taken_once t w.asked w.proposed w.gone w.seq w.last (all_delivered connections.settled)
          (all_delivered es) good.requests taken (delivered_of done.0) (delivered_of e)
          (in_delivered connections.settled done.0 done.1) (in_delivered es e there) done.2)
    ]

pub keeps_settle : (t : Layout) (old new : World) (effect : Effect) → Settles old effect new → WorldGood t old → WorldGood t new
keeps_settle t old new effect step good = subst (λ w. WorldGood t w) (sym step.after) (record {
  skeen = good.skeen;
  requests = good.requests;
  taken = subst (λ l. TakenGood old.asked old.proposed old.gone (all_taken old.ended l)) step.there good.taken;
  connections = connections_settle old.opened old.standing old.seq old.last old.asked old.ended step.outcomes
      (run_is_pending t old step.outcomes step.there good)
      (subst (λ l. ConnectionsGood old.opened old.standing old.seq old.last old.asked old.ended l) step.there good.connections);
  sessions = good.sessions;
  earlier = good.earlier;
  past = good.past;
  run = good.run;
})

-- ---- Collect, Close

keeps_collects : (t : Layout) (old new : World) (c : ℕ) (s : Standing) (effect : Effect) → old.standing c ≡ s →
    Collects s old c effect new → WorldGood t old → WorldGood t new
keeps_collects t old new c Closed effect is step good = absurd step
keeps_collects t old new c Idle effect is step good = subst (λ w. WorldGood t w) (sym step.1) good
keeps_collects t old new c Waiting effect is step good = subst (λ w. WorldGood t w) (sym step.1) good
keeps_collects t old new c (Answered o) effect is step good = subst (λ w. WorldGood t w) (sym step.1) (record {
  skeen = good.skeen;
  requests = good.requests;
  taken = good.taken;
  connections = connections_collect old.opened old.standing old.seq old.last old.asked old.ended old.layer c o is good.connections;
  sessions = good.sessions;
  earlier = good.earlier;
  past = good.past;
  run = good.run;
})

pub keeps_collect : (t : Layout) (old new : World) (c : ℕ) (effect : Effect) → Collects (old.standing c) old c effect new →
    WorldGood t old → WorldGood t new
keeps_collect t old new c effect step good = keeps_collects t old new c (old.standing c) effect refl step good

pub keeps_close : (t : Layout) (old new : World) (c : ℕ) (effect : Effect) → Closes old c effect new → WorldGood t old → WorldGood t new
keeps_close t old new c effect step good = subst (λ w. WorldGood t w) (sym step.after) (record {
  skeen = good.skeen;
  requests = good.requests;
  taken = good.taken;
  connections = connections_close old.opened old.standing old.seq old.last old.asked old.ended old.layer c good.connections;
  sessions = good.sessions;
  earlier = good.earlier;
  past = good.past;
  run = good.run;
})

-- ---- all steps

pub keeps : (t : Layout) (old new : World) (step : Step) (effect : Effect) → Steps t old step effect new → WorldGood t old → WorldGood t new
keeps t old new Open effect s good = keeps_open t old new effect s good
keeps t old new (Submit conn words) effect s good = keeps_submit t old new conn.0 words effect s good
keeps t old new (Deliver k) effect s good = keeps_deliver t old new k effect s good
keeps t old new Take effect s good = keeps_take t old new effect s good
keeps t old new (Run starved) effect s good = keeps_run t old new starved effect s good
keeps t old new Settle effect s good = keeps_settle t old new effect s good
keeps t old new (Collect conn) effect s good = keeps_collect t old new conn.0 effect s good
keeps t old new (Close conn) effect s good = keeps_close t old new conn.0 effect s good
keeps t old new (Repeat k) effect s good = keeps_repeat t old new k effect s good

pub keeps_all : (t : Layout) (old new : World) (steps : List Step) (effects : List Effect) → Makes t old steps effects new →
    WorldGood t old → WorldGood t new
keeps_all t old new [] effects made good = subst (λ w. WorldGood t w) (sym made.1) good
keeps_all t old new (s ∷ ss) [] made good = absurd made
keeps_all t old new (s ∷ ss) (e ∷ es) made good = keeps_all t made.0 new ss es made.2 (keeps t old made.0 s e made.1 good)

-- every world of a history is good
pub good_world : (t : Layout) (steps : List Step) (w : World) → Leads t opening steps w → WorldGood t w
good_world t steps w leads = keeps_all t opening w steps leads.0 leads.1 (good_opening t)
