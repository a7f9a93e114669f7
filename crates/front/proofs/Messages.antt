-- Submit, Deliver and Repeat of a front are steps of the world.
use Rattle.std.proofs.Common.{◌≡◌, ℕ, zero, suc, Bool, ◌≤◌, true, false, cond, List, [], ◌∷◌, ◌++◌, length, ◌⊎◌, refl, sym, ap, ◌∙◌, subst}
use Rattle.std.proofs.Common.{arith, append-nil}
use Rattle.delivery.specs.Queues.{queue_of}
use Rattle.tasks.specs.Tasks.{Task, task_groups}
use Rattle.front.proofs.Showing.{stepped, is_stepped, by_messages, is_after, packets_same}
use Rattle.front.specs.Fronts.{FrontView, FrontShows, roomless}
use Rattle.front.specs.Making.{Makes}
use Rattle.groups.specs.GroupSet.{chosen}
use Rattle.groups.specs.declared.request.ConnId.{ConnId}
use Rattle.groups.specs.declared.request.RequestId.{RequestId}
use Rattle.journal.specs.declared.step.Step.{Step}
use Rattle.journal.specs.declared.step.Step.TheVariants.{Submit, Deliver, Repeat}
use Rattle.multicast.specs.Multicast.{MulticastView, IsSame, Begins, Delivers, Repeats, group_of, starts_to}
use Rattle.placement.specs.Layout.{Layout, IsTable}
use Rattle.resp.specs.Content.{Content}
use Rattle.router.specs.Router.{RouterView, connection, session_at}
use Rattle.router.specs.Submitting.{Submits, groups_by}
use Rattle.router.specs.declared.submission.Submission.{Submission}
use Rattle.sessions.specs.Session.{Answer, Now, Go, asks}
use Rattle.sessions.specs.declared.session.Session.{Session}
use Rattle.skeen_core.specs.declared.packet.Body.TheVariants.{Start}
use Rattle.skeen_core.specs.declared.packet.Packet.{Packet}
use Rattle.front.proofs.WorldConnections.{Alike, connection_alike}
use Rattle.front.proofs.Delivering.{shows_deliver, shows_repeat}
use Rattle.front.proofs.Submits.{shows_submitted}
use Rattle.front.specs.Connections.{InLayer, IsSettled, IsKeptFor, ShowsSessions, ShowsConnections}
use Rattle.front.specs.Multicast.{ShowsMulticast}
use Rattle.world.specs.Steps.{Made, Submitted, opening, next_id, starts, multicast, answered, in_session, submitted, answer_to, remembered}
use Rattle.world.specs.Steps.{submitted_to, floor_of, Comes, Leads, Steps}
use Rattle.world.specs.Steps as world
use Rattle.world.specs.World.{World, Request}
use Rattle.world_laws.proofs.Floors.{floors_stay}
use Rattle.world_laws.proofs.Worlds.{good_world}

-- ---- Submit

-- a set of the first so many groups has at most as many
length-chosen : (test : ℕ → Bool) (a m : ℕ) → length (chosen test a m) ≤ m
unfolding chosen
length-chosen test a zero = omega arith
length-chosen test a (suc m) =
    let rest = length-chosen test (suc a) m in
    elim (test a) as (λ b. length (cond b (a ∷ chosen test (suc a) m) (chosen test (suc a) m)) ≤ suc m) [
      | true ↦ omega arith
      | false ↦ omega arith
    ]

-- what is to be run addresses no more groups than there are
pub groups_few : (t : Layout) (answer : Answer) → length (groups_by t answer) ≤ t.shards
groups_few t (Go task) = length-chosen _ 0 t.shards
groups_few t (Now reply) = omega arith

-- room is no part of what is shown
pub begins_roomless : (old mid new : MulticastView) (id : RequestId) (floor : ℕ) (groups : List ℕ) → IsSame old mid →
    Begins mid id floor groups new → Begins (roomless old) id floor groups (roomless new)
begins_roomless old mid new id floor groups same begins = record {
  groups = begins.groups ∙ same.groups;
  packets = begins.packets ∙ ap (λ (ps : List Packet). ps ++ starts_to id floor groups groups) same.packets;
  queues = begins.queues ∙ same.queues;
}

starts_same : (id : RequestId) (q : Request) (gs : List ℕ) → starts_to id q.floor q.groups gs ≡ starts id q gs
starts_same id q [] = refl
starts_same id q (g ∷ gs) = ap (λ (ps : List Packet). record { to = g; id = id; body = Start q.floor q.groups } ∷ ps) (starts_same id q gs)

module _ (t : Layout) (old m : MulticastView) (w : World) (c : ℕ) (shows : ShowsMulticast t old w) where
  -- one Start goes to each group
  shows_starts : (sent : Submission) (q : Request) → Begins old sent.id sent.floor sent.groups m → sent.id ≡ next_id w c →
      sent.floor ≡ q.floor → sent.groups ≡ q.groups → ShowsMulticast t m (multicast w c q)
  shows_starts sent q begins id floor groups = record {
    count = ap length begins.groups ∙ shows.count;
    groups = λ g. ap (λ gs. group_of gs g) begins.groups ∙ shows.groups g;
    packets = begins.packets ∙ ap (λ ps. old.packets ++ ps) sent_as ∙ ap (λ ps. ps ++ starts (next_id w c) q q.groups) shows.packets;
    queues = λ g. ap (λ qs. queue_of qs g) begins.queues ∙ shows.queues g;
  }
    where
      sent_as : starts_to sent.id sent.floor sent.groups sent.groups ≡ starts (next_id w c) q q.groups
      sent_as =
          ap (λ i. starts_to i sent.floor sent.groups sent.groups) id
          ∙ ap (λ n. starts_to (next_id w c) n sent.groups sent.groups) floor
          ∙ ap (λ gs. starts_to (next_id w c) q.floor gs gs) groups
          ∙ starts_same (next_id w c) q q.groups

  -- none goes to no group
  shows_none : (sent : Submission) (reply : Content) → Begins old sent.id sent.floor sent.groups m → sent.groups ≡ [] →
      ShowsMulticast t m (answered w c reply)
  shows_none sent reply begins none = record {
    count = ap length begins.groups ∙ shows.count;
    groups = λ g. ap (λ gs. group_of gs g) begins.groups ∙ shows.groups g;
    packets = begins.packets ∙ ap (λ gs. old.packets ++ starts_to sent.id sent.floor sent.groups gs) none ∙ append-nil old.packets
        ∙ shows.packets;
    queues = λ g. ap (λ qs. queue_of qs g) begins.queues ∙ shows.queues g;
  }

module _ (old : FrontView) (r : RouterView) (m : MulticastView) (w : World) (c : ℕ) (sent : Submission) (shows : FrontShows old w)
    (begins : Begins old.multicast sent.id sent.floor sent.groups m) (id : sent.id ≡ next_id w c) (floor : sent.floor ≡ floor_of w c)
    (session : Session) where
  abbrev w' : World
  w' = in_session w c session

  packets : ShowsMulticast old.table old.multicast w'
  packets = packets_same old.table old.multicast w w' refl refl refl shows.multicast

  -- an answer at once goes to no group
  shows_reply : (reply : Content) → sent.groups ≡ [] → ShowsConnections r (answered w' c reply) →
      FrontShows (stepped old r m) (answered w' c reply)
  shows_reply reply groups connections =
      by_messages old r m w (answered w' c reply) refl shows connections
      (shows_none old.table old.multicast m w' c packets sent reply begins groups)

  by_groups : (task : Task) (gs : List ℕ) → sent.groups ≡ gs → ShowsConnections r (submitted_to w' c task gs) →
      FrontShows (stepped old r m) (submitted_to w' c task gs)
  by_groups task [] groups connections = shows_reply _ groups connections
  by_groups task (g ∷ gs) groups connections =
      let q : Request = record { floor = floor_of w c; groups = g ∷ gs; task = task } in
      by_messages old r m w (multicast w' c q) refl shows connections
      (shows_starts old.table old.multicast m w' c packets sent q begins id floor groups)

  by_answer : (answer : Answer) → sent.groups ≡ groups_by old.table answer → ShowsConnections r (submitted old.table w' c answer) →
      FrontShows (stepped old r m) (submitted old.table w' c answer)
  by_answer (Now reply) groups connections = shows_reply reply groups connections
  by_answer (Go task) groups connections = by_groups task (task_groups old.table task) groups connections

pub submit_makes : (old : FrontView) (r : RouterView) (m : MulticastView) (conn : ConnId) (words : List (List ℕ)) (sent : Submission) →
    IsTable old.table → Submits old.table conn.0 words old.router sent r →
    Begins old.multicast sent.id sent.floor sent.groups m →
    Makes old (Submit conn words) (Submitted sent.id) (stepped old r m)
submit_makes old r m conn words sent table submits begins = record {
  is_step = is_stepped old r m;
  from_each = λ h w at'.
      let good = good_world old.table h w at'.leads in
      let as_world = shows_submitted old.table w conn.0 good.requests words old.router r sent table submits at'.shows.connections in
      let asked = asks (w.session conn.0) words in
      let after = submitted old.table (remembered w conn.0 words) conn.0 (answer_to w conn.0 words) in
      let made : Steps old.table w (Submit conn words) (Submitted sent.id) after = record {
        idle = as_world.0;
        answers = ap Submitted as_world.1;
        after = refl;
      } in (
        after,
        made,
        is_after old (stepped old r m) h w after (Submit conn words) (Submitted sent.id) refl at' made
            (by_answer old r m w conn.0 sent at'.shows begins as_world.1 as_world.2 asked.0 asked.1 as_world.4 as_world.3),
      );
}

-- ---- Deliver

pub delivers_roomless : (old new : MulticastView) (place : ℕ) → Delivers old place new → Delivers (roomless old) place (roomless new)
delivers_roomless old new place d = record {
  packet = d.packet;
  sent = d.sent;
  delivered = d.delivered;
  state = d.state;
  there = d.there;
  receives = d.receives;
  packets = d.packets;
  group = d.group;
  queue = d.queue;
  count = d.count;
}

-- a packet that comes changes nothing that the router shows
module _ (t : Layout) (h : List Step) (w w' : World) (k : ℕ) (leads : Leads t opening h w) (comes : Comes w k Made w') where
  alike_received : (c : ℕ) → Alike w w' c
  alike_received c = record {
    standing = ap (λ (v : World). v.standing c) comes.after;
    seq = ap (λ (v : World). v.seq c) comes.after;
    floor = λ free. floors_stay t h w w' (Deliver k) Made leads comes c free (ap (λ (v : World). v.last c) comes.after);
    asked = λ seq. ap (λ (v : World). v.asked (record { conn = record { 0 = c }; seq = seq })) comes.after;
    layer = λ seq there. subst (λ l. InLayer l (record { conn = record { 0 = c }; seq = seq }))
        (sym (ap (λ (v : World). v.layer) comes.after)) there;
  }

  shows_received : (r : RouterView) → ShowsConnections r w → ShowsConnections r w'
  shows_received r shows = record {
    opened = shows.opened ∙ sym (ap (λ (v : World). v.opened) comes.after);
    sessions = subst (λ (v : World). ShowsSessions (session_at r) v.standing v.session) (sym comes.after) shows.sessions;
    each = λ c. connection_alike (connection r c) w w' c (alike_received c) (shows.each c);
    under_way = λ id q asked. subst (λ (v : World). IsSettled v id ⊎ IsKeptFor r id) (sym comes.after)
        (shows.under_way id q (sym (ap (λ (v : World). v.asked id) comes.after) ∙ asked));
  }

pub deliver_makes : (old : FrontView) (m : MulticastView) (place : ℕ) → Delivers old.multicast place m →
    Makes old (Deliver place) Made (stepped old old.router m)
deliver_makes old m place delivers = record {
  is_step = is_stepped old old.router m;
  from_each = λ h w at'.
      let as_world = shows_deliver old.table old.multicast w at'.shows.multicast m place delivers in
      let comes : Comes w place Made as_world.0 = as_world.1 in (
        as_world.0,
        comes,
        is_after old (stepped old old.router m) h w as_world.0 (Deliver place) Made refl at' comes
            (by_messages old old.router m w as_world.0 (ap (λ (v : World). v.layer) comes.after) at'.shows
            (shows_received old.table h w as_world.0 place at'.leads comes old.router at'.shows.connections) as_world.2),
      );
}

-- ---- Repeat

pub repeats_roomless : (old new : MulticastView) (place : ℕ) → Repeats old place new → Repeats (roomless old) place (roomless new)
repeats_roomless old new place d =
    record { packet = d.packet; there = d.there; groups = d.groups; packets = d.packets; queues = d.queues }

-- nor does one that is repeated
module _ (w w' : World) (k : ℕ) (repeats : world.Repeats w k Made w') where
  shows_repeated : (r : RouterView) → ShowsConnections r w → ShowsConnections r w'
  shows_repeated r shows = subst (ShowsConnections r) (sym repeats.after) (record {
    opened = shows.opened;
    sessions = shows.sessions;
    each = λ c. connection_alike (connection r c) w _ c
        (record { standing = refl; seq = refl; floor = λ free. refl; asked = λ seq. refl; layer = λ seq there. there }) (shows.each c);
    under_way = shows.under_way;
  })

pub repeat_makes : (old : FrontView) (m : MulticastView) (place : ℕ) → Repeats old.multicast place m →
    Makes old (Repeat place) Made (stepped old old.router m)
repeat_makes old m place repeats = record {
  is_step = is_stepped old old.router m;
  from_each = λ h w at'.
      let as_world = shows_repeat old.table old.multicast w at'.shows.multicast m place repeats in
      let made : world.Repeats w place Made as_world.0 = as_world.1 in (
        as_world.0,
        made,
        is_after old (stepped old old.router m) h w as_world.0 (Repeat place) Made refl at' made
            (by_messages old old.router m w as_world.0 (ap (λ (v : World). v.layer) made.after) at'.shows
            (shows_repeated w as_world.0 place made old.router at'.shows.connections) as_world.2),
      );
}
