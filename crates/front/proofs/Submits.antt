-- A submit of the router is a step of the world.
use Rattle.std.proofs.Common.{◌≡◌, ℕ, suc, ◌==◌, true, false, cond, List, [], ◌∷◌, inl, inr, Option, Some, None, refl, sym, ap, ◌∙◌, subst}
use Rattle.std.proofs.Common.{eq-eqb}
use Rattle.std.proofs.lemmas.Bool.{both_ways, cases_Bool, cond-true, cond-false}
use Rattle.std.specs.FinMap.{empty}
use Rattle.placement.specs.Layout.{Layout, IsTable}
use Rattle.resp.specs.Content.{Content}
use Rattle.router.specs.Connection.{Answer as Told, is_under_way}
use Rattle.router.specs.Router.{RouterView, connection, session_at, Turns}
use Rattle.router.specs.Submitting.{groups_by, StandsAs, StandsBy, Submits, next_id}
use Rattle.router.specs.declared.connection.Connection.{Connection}
use Rattle.router.specs.declared.connection.Standing.{Standing}
use Rattle.router.specs.declared.connection.Standing.TheVariants as router
use Rattle.router.specs.declared.outcome.Outcome as kept
use Rattle.router.specs.declared.submission.Submission.{Submission}
use Rattle.groups.proofs.Ids.{same_id-true, eq-same_id}
use Rattle.groups.specs.Request.{same_id}
use Rattle.groups.specs.declared.request.RequestId.{RequestId}
use Rattle.sessions.specs.Session.{Answer, Now, Go, asks}
use Rattle.sessions.specs.declared.session.Session.{Session}
use Rattle.tasks.proofs.Keyless.{addresses, keyless_effect}
use Rattle.tasks.specs.Tasks.{Task, task_groups, deed_effect, keyless_reply, AddressesBy}
use Rattle.front.proofs.WorldConnections.{Alike, each_of, kept_here, kept_open}
use Rattle.front.proofs.Sessions.{sessions_turn}
use Rattle.front.specs.Connections.{outcome_shown, id_of, ShowsOpen, ShowsConnection, ShowsConnections}
use Rattle.world.specs.Steps.{next_id as world_id, with_asked, final_clock, final_clock_of, floor_of, answered, multicast, submitted}
use Rattle.world.specs.Steps.{submitted_to, in_session, answer_to, remembered}
use Rattle.world.specs.World.{World, Request, Outcome, Closed, Idle, Waiting, Answered}
use Rattle.worded.specs.declared.worded.Worded.{Worded}
use Rattle.world_laws.proofs.Values.{answered_open, idle_open}
use Rattle.world_laws.specs.Good.{AskedGood}

-- the submitting connection, as the router has it before and after, and what it remembers then
pub record Submitter (old new : RouterView) (w : World) (c : ℕ) (session : Session) (was now : Connection) : Type 0 where
  pub kept : connection old c ≡ Some was
  pub idle : was.standing ≡ router.Idle
  pub seq : now.seq ≡ suc (w.seq c)
  pub live : now.is_open ≡ true
  pub floor : now.floor ≡ floor_of w c
  pub changes : Turns old new c (Some now) session

not_busy : (was : Connection) → was.standing ≡ router.Idle → is_under_way was.standing ≡ true → ⊥
not_busy was idle busy = both_ways _ (ap is_under_way idle) busy

waiting_open : Waiting ≡ Closed → ⊥
waiting_open e = cc

abbrev to_outcome : Told → Outcome
to_outcome a = record { id = a.id; reply = a.reply; stamp = a.stamp }

-- ---- answered at once

alike_answered : (w : World) (c : ℕ) (session : Session) (reply : Content) (d : ℕ) → (d == c) ≡ false →
    Alike w (answered (in_session w c session) c reply) d
alike_answered w c session reply d other = record {
  standing = cond-false (d == c) _ (w.standing d) other;
  seq = cond-false (d == c) (suc (w.seq c)) (w.seq d) other;
  floor = λ free. refl;
  asked = λ seq. refl;
  layer = λ seq there. there;
}

shows_answered : (old new : RouterView) (w : World) (c : ℕ) (session : Session) (was now : Connection) (o : kept.Outcome)
    (reply : Content) → ShowsConnections old w → Submitter old new w c session was now →
    now.standing ≡ router.Answered o →
    outcome_shown o ≡ record { id = id_of c (suc (w.seq c)); reply = reply; stamp = None } →
    ShowsConnections new (answered (in_session w c session) c reply)
shows_answered old new w c session was now o reply shows s is says = record {
  opened = s.changes.opened ∙ shows.opened;
  each = each_of old new w (answered (in_session w c session) c reply) c (Some now) s.changes.at (alike_answered w c session reply)
      shows.each (
        s.seq ∙ sym (cond-true (c == c) (suc (w.seq c)) (w.seq c) (eq-eqb c c refl)),
        inl (
          s.live,
          subst (λ t. ShowsOpen t now (answered (in_session w c session) c reply) c) (sym is)
              (cond-true (c == c) _ (w.standing c) (eq-eqb c c refl) ∙ ap Answered (sym says), s.floor),
        ),
      );
  sessions = sessions_turn (session_at old) w.standing w.session shows.sessions (session_at new) c _ session (answered_open _)
      s.changes.sessions;
  under_way = λ i q asked. elim (shows.under_way i q asked) [
    | inl settled ↦ inl settled
    | inr kept ↦ inr
        (kept_here old new c was (Some now) i s.kept s.changes.at (λ busy. absurd (not_busy was s.idle busy)) kept)
  ];
}

-- ---- sent to groups

module _ (t : Layout) (w : World) (c : ℕ) (session : Session) (r : Request) (good : AskedGood t w.asked w.proposed w.seq w.last) where
  -- the world once the request was sent
  abbrev sent_world : World
  sent_world = multicast (in_session w c session) c r

  other_id : (d seq : ℕ) → (d == c) ≡ false → same_id (id_of d seq) (id_of c (suc (w.seq c))) ≡ false
  other_id d seq other = elim (cases_Bool (same_id (id_of d seq) (id_of c (suc (w.seq c))))) [
    | inl e ↦ absurd (both_ways _ other (eq-eqb d c (ap (λ i. i.conn.0) (same_id-true _ _ e))))
    | inr e ↦ e
  ]

  floor_else : (d : ℕ) → (d == c) ≡ false → floor_of sent_world d ≡ floor_of w d
  floor_else d other = ap (final_clock_of sent_world) (cond-false (d == c) _ (w.last d) other)
      ∙ by_last (w.last d) refl
    where
      by_last : (o : Option RequestId) → w.last d ≡ o → final_clock_of sent_world o ≡ final_clock_of w o
      by_last None e = refl
      by_last (Some i) e =
          let conn = (good.lasts d i e).0 in
          let unlike : (i.conn.0 == c) ≡ false = ap (λ n. n == c) conn ∙ other in
          ap (final_clock w.proposed i) (cond-false' i (other_id i.conn.0 i.seq unlike))
        where
          cond-false' : (i : RequestId) → same_id (id_of i.conn.0 i.seq) (id_of c (suc (w.seq c))) ≡ false →
              with_asked w.asked (id_of c (suc (w.seq c))) r i ≡ w.asked i
          cond-false' i e = ap (λ b. cond b (Some r) (w.asked i)) e

  alike_multicast : (d : ℕ) → (d == c) ≡ false → Alike w sent_world d
  alike_multicast d other = record {
    standing = cond-false (d == c) Waiting (w.standing d) other;
    seq = cond-false (d == c) (suc (w.seq c)) (w.seq d) other;
    floor = λ free. floor_else d other;
    asked = λ seq. ap (λ b. cond b (Some r) (w.asked (id_of d seq))) (other_id d seq other);
    layer = λ seq there. there;
  }

  shows_multicast : (old new : RouterView) (was now : Connection) (asked : Worded) → ShowsConnections old w →
      Submitter old new w c session was now →
      now.standing ≡ router.Waiting asked → r.task ≡ asked.batch →
      ShowsConnections new sent_world
  shows_multicast old new was now asked shows s is task = record {
    opened = s.changes.opened ∙ shows.opened;
    each = each_of old new w sent_world c (Some now) s.changes.at alike_multicast shows.each (
      s.seq ∙ sym (cond-true (c == c) (suc (w.seq c)) (w.seq c) (eq-eqb c c refl)),
      inl (
        s.live,
        subst (λ t. ShowsOpen t now sent_world c) (sym is) (
          cond-true (c == c) Waiting (w.standing c) (eq-eqb c c refl),
          (
            r,
            ap (λ b. cond b (Some r) (w.asked (id_of c now.seq)))
                (eq-same_id (id_of c now.seq) (id_of c (suc (w.seq c))) (ap (id_of c) s.seq)),
            task,
          ),
        ),
      ),
    );
    sessions = sessions_turn (session_at old) w.standing w.session shows.sessions (session_at new) c Waiting session waiting_open
        s.changes.sessions;
    under_way = λ i q asked. elim (cases_Bool (same_id i (id_of c (suc (w.seq c))))) [
      | inl e ↦
          let id = same_id-true _ _ e in
          inr (record {
            v = now;
            kept = ap (connection new) (ap (λ j. j.conn.0) id) ∙ s.changes.at c
                ∙ ap (λ b. cond b (Some now) (connection old c)) (eq-eqb c c refl);
            seq = s.seq ∙ sym (ap (λ j. j.seq) id);
            under_way = ap is_under_way is;
          })
      | inr e ↦ elim (shows.under_way i q (sym (ap (λ b. cond b (Some r) (w.asked i)) e) ∙ asked)) [
        | inl settled ↦ inl settled
        | inr kept ↦ inr
            (kept_here old new c was (Some now) i s.kept s.changes.at (λ busy. absurd (not_busy was s.idle busy)) kept)
      ]
    ];
  }

-- ---- what comes of the words

module _ (t : Layout) (w : World) (c : ℕ) (session : Session) (good : AskedGood t w.asked w.proposed w.seq w.last) where
  -- a task that addresses groups waits, and the world has sent it to them
  waits_as : (old new : RouterView) (was now : Connection) (task : Task) (asked : Worded) →
      (g : ℕ) (gs : List ℕ) → task_groups t task ≡ g ∷ gs →
      ShowsConnections old w → Submitter old new w c session was now → now.standing ≡ router.Waiting asked → asked.batch ≡ task →
      ShowsConnections new (submitted_to (in_session w c session) c task (task_groups t task))
  waits_as old new was now task asked g gs groups shows s is same =
      subst (λ all. ShowsConnections new (submitted_to (in_session w c session) c task all)) (sym groups)
      (shows_multicast t w c session
      (record { floor = floor_of w c; groups = g ∷ gs; task = task }) good old new was now asked shows s is
      (sym same))

  -- the words are answered, or a task is to be run; the router has done so, and so has the world
  by_answer : (old new : RouterView) (was now : Connection) (answer : Answer) →
      IsTable t → ShowsConnections old w → Submitter old new w c session was now →
      StandsBy (id_of c (suc (w.seq c))) answer now.standing → ShowsConnections new (submitted t (in_session w c session) c answer)
  by_answer old new was now (Now reply) table shows s stands = by_standing now.standing refl stands
    where
      by_standing : (x : Standing) → now.standing ≡ x → StandsBy (id_of c (suc (w.seq c))) (Now reply) x →
          ShowsConnections new (answered (in_session w c session) c reply)
      by_standing (router.Answered o) e says = shows_answered old new w c session was now o _ shows s e (ap to_outcome says)
      by_standing x e says = absurd says
  by_answer old new was now (Go task) table shows s stands =
      by_standing (keyless_reply task) refl (addresses t table task) now.standing refl stands
    where
      by_standing : (reply : Option Content) → keyless_reply task ≡ reply → AddressesBy reply (task_groups t task) → (x : Standing) →
          now.standing ≡ x → StandsAs (id_of c (suc (w.seq c))) task reply x →
          ShowsConnections new (submitted_to (in_session w c session) c task (task_groups t task))
      by_standing (Some reply) keyless none (router.Answered o) e says =
          subst (λ gs. ShowsConnections new (submitted_to (in_session w c session) c task gs)) (sym none)
          (shows_answered old new w c session was now o (deed_effect (task, []) empty).1 shows s e
          (ap to_outcome says ∙ ap (λ r. to_outcome (record { id = id_of c (suc (w.seq c)); reply = r; stamp = None }))
          (sym (keyless_effect task reply keyless))))
      by_standing None keyless some (router.Waiting asked) e says = waits_as old new was now task asked some.0 some.1 some.2 shows s e says
      by_standing reply keyless addressed x e says = absurd says

module _ (t : Layout) (w : World) (c : ℕ) (good : AskedGood t w.asked w.proposed w.seq w.last) (words : List (List ℕ)) where
  pub shows_submitted : (old new : RouterView) (sent : Submission) → IsTable t →
      Submits t c words old sent new → ShowsConnections old w →
      (w.standing c ≡ Idle) × (sent.id ≡ world_id w c) × (sent.floor ≡ floor_of w c)
      × ShowsConnections new (submitted t (remembered w c words) c (answer_to w c words))
      × (sent.groups ≡ groups_by t (answer_to w c words))
  shows_submitted old new sent table submits shows =
      let was = submits.was in
      let here = kept_open was w c submits.live (subst (λ x. ShowsConnection x w c) submits.kept (shows.each c)) in
      let idle : (w.standing c ≡ Idle) × (was.floor ≡ floor_of w c) =
      subst (λ s. ShowsOpen s was w c) submits.idle here.1 in
      let id : next_id c was ≡ id_of c (suc (w.seq c)) = ap (λ n. id_of c (suc n)) here.0 in
      let session : session_at old c ≡ w.session c = shows.sessions.of_open c (λ is. idle_open (sym idle.0 ∙ is)) in
      let come : asks (session_at old c) words ≡ asks (w.session c) words = ap (λ x. asks x words) session in (
        idle.0,
        submits.id ∙ id,
        submits.floor ∙ idle.1,
        by_answer t w c (asks (w.session c) words).0 good old new was submits.now (answer_to w c words) table shows
            (record {
              kept = submits.kept;
              idle = submits.idle;
              seq = submits.seq ∙ ap suc here.0;
              live = submits.still;
              floor = submits.same_floor ∙ idle.1;
              changes = subst (λ a. Turns old new c (Some submits.now) a.0) come submits.changes;
            })
            (subst (λ i. StandsBy i (answer_to w c words) submits.now.standing) id
            (subst (λ a. StandsBy (next_id c was) a.1 submits.now.standing) come submits.standing)),
        submits.groups ∙ ap (λ a. groups_by t a.1) come,
      )
