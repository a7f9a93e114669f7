-- The router's calls are steps of the world.
use Rattle.std.proofs.Common.{◌≡◌, ℕ, suc, ◌+◌, ◌==◌, true, false, cond, ◌⊎◌, inl, inr, Option, Some, None, option_map, MatchOption, refl}
use Rattle.std.proofs.Common.{sym, ap, ◌∙◌, subst, arith, eqb-true, eq-eqb}
use Rattle.std.proofs.lemmas.Bool.{both_ways, cases_Bool, cond-true, cond-false}
use Rattle.placement.specs.Layout.{Layout}
use Rattle.router.specs.Connection.{just_opened, is_under_way, with_standing, closed, outcome_in}
use Rattle.router.specs.Router.{RouterView, connection, session_at, Changes, Collects, Closes, once_closed}
use Rattle.router.specs.declared.connection.Connection.{Connection}
use Rattle.router.specs.declared.connection.Standing.{Standing}
use Rattle.router.specs.declared.connection.Standing.TheVariants as router
use Rattle.router.specs.declared.outcome.Outcome as kept
use Rattle.groups.proofs.Options.{some_same}
use Rattle.groups.specs.declared.request.RequestId.{RequestId}
use Rattle.sessions.specs.declared.session.Session.TheVariants.{Free}
use Rattle.front.specs.Connections.{outcome_shown, Waits, InLayer, id_of, ShowsOpen, ShowsClosed, ShowsKept, ShowsConnection, IsKeptFor}
use Rattle.front.specs.Connections.{ShowsSessions, ShowsConnections}
use Rattle.front.proofs.Sessions.{sessions_close, sessions_open, sessions_at}
use Rattle.front.proofs.Standings.{closed_stands, kept_live, open_stands}
use Rattle.world.specs.Steps.{Collects as WorldCollects, at, final_clock_of, floor_of, Collected}
use Rattle.world.specs.World.{Standing as Stand, World, Request, Outcome, Closed, Idle, Waiting, Answered}
use Rattle.worded.specs.declared.worded.Worded.{Worded}
use Rattle.world_laws.proofs.Values.{idle_open, answered_open}
use Rattle.world_laws.specs.Conditions.{IsFree}
use Rattle.world_laws.specs.Good.{AskedGood, WorldGood}

-- ---- a connection that a step leaves alone

-- what two worlds have in common at a connection
pub record Alike (old new : World) (c : ℕ) : Type 0 where
  pub standing : new.standing c ≡ old.standing c
  pub seq : new.seq c ≡ old.seq c
  -- a floor counts only where no request is under way
  pub floor : IsFree (old.standing c) → floor_of new c ≡ floor_of old c
  pub asked : (seq : ℕ) → new.asked (id_of c seq) ≡ old.asked (id_of c seq)
  pub layer : (seq : ℕ) → InLayer old.layer (id_of c seq) → InLayer new.layer (id_of c seq)

waits_alike : (old new : World) (c seq : ℕ) (asked : Worded) → Alike old new c → Waits old (id_of c seq) asked →
    Waits new (id_of c seq) asked
waits_alike old new c seq asked same w = (w.0, same.asked seq ∙ w.1, w.2)

open_alike : (s : Standing) (v : Connection) (old new : World) (c : ℕ) → Alike old new c → ShowsOpen s v old c →
    ShowsOpen s v new c
open_alike router.Idle v old new c same shows =
    (same.standing ∙ shows.0, shows.1 ∙ sym (same.floor (subst IsFree (sym shows.0) tt)))
open_alike (router.Waiting asked) v old new c same shows =
    (same.standing ∙ shows.0, waits_alike old new c v.seq asked same shows.1)
open_alike router.Taken v old new c same shows = (same.standing ∙ shows.0, same.layer v.seq shows.1)
open_alike (router.Answered o) v old new c same shows =
    (same.standing ∙ shows.0, shows.1 ∙ sym (same.floor (subst IsFree (sym shows.0) tt)))

closed_alike : (s : Standing) (v : Connection) (old new : World) (c : ℕ) → Alike old new c → ShowsClosed s v old c →
    ShowsClosed s v new c
closed_alike (router.Waiting asked) v old new c same shows =
    (same.standing ∙ shows.0, waits_alike old new c v.seq asked same shows.1)
closed_alike router.Taken v old new c same shows = (same.standing ∙ shows.0, same.layer v.seq shows.1)
closed_alike s v old new c same shows = absurd shows

pub connection_alike : (o : Option Connection) (old new : World) (c : ℕ) → Alike old new c → ShowsConnection o old c →
    ShowsConnection o new c
connection_alike None old new c same shows = same.standing ∙ shows
connection_alike (Some v) old new c same (s, inl open') =
    (s ∙ sym same.seq, inl (open'.0, open_alike v.standing v old new c same open'.1))
connection_alike (Some v) old new c same (s, inr shut) =
    (s ∙ sym same.seq, inr (shut.0, closed_alike v.standing v old new c same shut.1))

-- a connection that is changed, and all others
module _ (old new : RouterView) (was is : World) (c : ℕ) (now : Option Connection) where
  pub each_of : ((d : ℕ) → connection new d ≡ cond (d == c) now (connection old d)) →
      ((d : ℕ) → (d == c) ≡ false → Alike was is d) →
      ((d : ℕ) → ShowsConnection (connection old d) was d) → ShowsConnection now is c → (d : ℕ) →
      ShowsConnection (connection new d) is d
  each_of changes others before here d =
      subst (λ o. ShowsConnection o is d) (sym (changes d))
      (elim (d == c) as (λ b. (d == c) ≡ b → ShowsConnection (cond b now (connection old d)) is d) [
        | true ↦ λ e. subst (λ n. ShowsConnection now is n) (sym (eqb-true d c e)) here
        | false ↦ λ e. connection_alike (connection old d) was is d (others d e) (before d)
      ] refl)

-- a connection that is kept for a request of another one
pub kept_else : (old new : RouterView) (c : ℕ) (now : Option Connection) (i : RequestId) →
    ((d : ℕ) → connection new d ≡ cond (d == c) now (connection old d)) →
    (i.conn.0 == c) ≡ false → IsKeptFor old i → IsKeptFor new i
kept_else old new c now i changes other kept = record {
  v = kept.v;
  kept = changes i.conn.0 ∙ ap (λ b. cond b now (connection old i.conn.0)) other ∙ kept.kept;
  seq = kept.seq;
  under_way = kept.under_way;
}

-- ---- a connection whose request is under way

-- how a connection that the router keeps stands
pub kept_at : (r : RouterView) (w : World) (c : ℕ) (v : Connection) → connection r c ≡ Some v → ShowsConnections r w →
    ShowsKept v w c
kept_at r w c v there shows = subst (λ x. ShowsConnection x w c) there (shows.each c)

-- under a request that is under way stands one that waits and isn't taken, or one that was taken
abbrev pub IsPending : Standing → World → RequestId → Type 0
IsPending s w i = (asked : Worded) × (s ≡ router.Waiting asked) × Waits w i asked

abbrev pub IsTakenOr : Standing → World → RequestId → Type 0
IsTakenOr s w i = IsPending s w i ⊎ InLayer w.layer i

open_waits : (s : Standing) (v : Connection) (w : World) (c : ℕ) → is_under_way s ≡ true → ShowsOpen s v w c →
    (w.standing c ≡ Waiting) × IsTakenOr s w (id_of c v.seq)
open_waits (router.Waiting asked) v w c busy shows = (shows.0, inl (asked, refl, shows.1))
open_waits router.Taken v w c busy shows = (shows.0, inr shows.1)
open_waits s v w c busy shows = absurd (both_ways _ refl busy)

closed_waits : (s : Standing) (v : Connection) (w : World) (c : ℕ) → ShowsClosed s v w c → IsTakenOr s w (id_of c v.seq)
closed_waits (router.Waiting asked) v w c shows = inl (asked, refl, shows.1)
closed_waits router.Taken v w c shows = inr shows.1
closed_waits s v w c shows = absurd shows

pub kept_waits : (v : Connection) (w : World) (c : ℕ) → is_under_way v.standing ≡ true → ShowsKept v w c →
    IsTakenOr v.standing w (id_of c v.seq)
kept_waits v w c busy (seq, inl live) = (open_waits v.standing v w c busy live.1).1
kept_waits v w c busy (seq, inr shut) = closed_waits v.standing v w c shut.1

-- it waits, or was closed
abbrev pub StandsUnderWay : Connection → World → ℕ → Type 0
StandsUnderWay v w c = ((v.is_open ≡ true) × (w.standing c ≡ Waiting)) ⊎ ((v.is_open ≡ false) × (w.standing c ≡ Closed))

pub stands_under_way : (v : Connection) (w : World) (c : ℕ) → is_under_way v.standing ≡ true → ShowsKept v w c →
    StandsUnderWay v w c
stands_under_way v w c busy (seq, inl live) = inl (live.0, (open_waits v.standing v w c busy live.1).0)
stands_under_way v w c busy (seq, inr shut) = inr (shut.0, closed_stands v.standing v w c shut.1)

-- ---- Open

abbrev pub opened_world : World → World
opened_world w = record w { opened = suc w.opened; standing = at w.standing (suc w.opened) Idle }

alike_open : (w : World) (d : ℕ) → (d == suc w.opened) ≡ false → Alike w (opened_world w) d
alike_open w d other = record {
  standing = cond-false (d == suc w.opened) Idle (w.standing d) other;
  seq = refl;
  floor = λ free. refl;
  asked = λ seq. refl;
  layer = λ seq there. there;
}

-- no request was submitted by the next connection to be opened
pub record IsUnopened (w : World) : Type 0 where
  pub standing : w.standing (suc w.opened) ≡ Closed
  pub seq : w.seq (suc w.opened) ≡ 0
  pub last : w.last (suc w.opened) ≡ None
  pub session : w.session (suc w.opened) ≡ Free

pub unopened : (t : Layout) (w : World) → WorldGood t w → IsUnopened w
unopened t w good =
    let first = good.connections.unopened (suc w.opened) (omega arith) in
    record { standing = first.0; seq = first.1; last = first.2; session = good.sessions (suc w.opened) (omega arith) }

-- so it can be opened
pub shows_opened : (old new : RouterView) (w : World) (t : Layout) → IsUnopened w → AskedGood t w.asked w.proposed w.seq w.last →
    ShowsConnections old w → new.opened ≡ old.opened + 1 →
    ((d : ℕ) → connection new d ≡ cond (d == new.opened) (Some just_opened) (connection old d)) → session_at new ≡ session_at old →
    ShowsConnections new (opened_world w)
shows_opened old new w t first requests shows count changes sessions =
    let next : new.opened ≡ suc w.opened = let e = shows.opened in omega arith in
    let changes' : (d : ℕ) → connection new d ≡ cond (d == suc w.opened) (Some just_opened) (connection old d) =
    λ d. subst (λ n. connection new d ≡ cond (d == n) (Some just_opened) (connection old d)) next (changes d) in
    record {
      opened = next;
      each = each_of old new w (opened_world w) (suc w.opened) (Some just_opened) changes' (alike_open w) shows.each (
        sym first.seq,
        inl (
          refl,
          (
            cond-true (suc w.opened == suc w.opened) Idle (w.standing (suc w.opened))
                (eq-eqb (suc w.opened) (suc w.opened) refl),
            sym (ap (final_clock_of w) first.last),
          ),
        ),
      );
      sessions = subst (λ s. ShowsSessions s (opened_world w).standing w.session) (sym sessions)
          (sessions_open (session_at old) w.standing w.session shows.sessions (suc w.opened) first.standing first.session);
      under_way = λ i q asked. elim (shows.under_way i q asked) [
        | inl settled ↦ inl settled
        | inr kept ↦ inr (kept_else old new (suc w.opened) (Some just_opened) i changes' (unlike i q asked) kept)
      ];
    }
  where
    -- nothing was asked on a connection that wasn't open
    unlike : (i : RequestId) (q : Request) → w.asked i ≡ Some q → (i.conn.0 == suc w.opened) ≡ false
    unlike i q asked = elim (cases_Bool (i.conn.0 == suc w.opened)) [
      | inl e ↦
          let some = requests.fresh i q asked in
          let none = first.seq in
          let here : w.seq i.conn.0 ≡ w.seq (suc w.opened) = ap w.seq (eqb-true i.conn.0 (suc w.opened) e) in
          absurd (omega arith)
      | inr e ↦ e
    ]

-- ---- where an open connection stands alone changes

abbrev pub standing_world : World → ℕ → Stand → World
standing_world w c s = record w { standing = at w.standing c s }

alike_standing : (w : World) (c : ℕ) (s : Stand) (d : ℕ) → (d == c) ≡ false → Alike w (standing_world w c s) d
alike_standing w c s d other = record {
  standing = cond-false (d == c) s (w.standing d) other;
  seq = refl;
  floor = λ free. refl;
  asked = λ seq. refl;
  layer = λ seq there. there;
}

standing_here : (w : World) (c : ℕ) (s : Stand) → (standing_world w c s).standing c ≡ s
standing_here w c s = cond-true (c == c) s (w.standing c) (eq-eqb c c refl)

-- what is kept for a request of a connection stays so, where the connection has a request under way before and after,
-- or none
pub kept_here : (old new : RouterView) (c : ℕ) (was : Connection) (now : Option Connection) (i : RequestId) →
    connection old c ≡ Some was →
    ((d : ℕ) → connection new d ≡ cond (d == c) now (connection old d)) →
    (is_under_way was.standing ≡ true →
    (v : Connection) × (now ≡ Some v) × (v.seq ≡ was.seq) × (is_under_way v.standing ≡ true)) →
    IsKeptFor old i → IsKeptFor new i
kept_here old new c was now i there changes stays kept = elim (cases_Bool (i.conn.0 == c)) [
  | inl e ↦
      let same : kept.v ≡ was =
      some_same kept.v was (sym kept.kept ∙ ap (connection old) (eqb-true i.conn.0 c e) ∙ there) in
      let then = stays (ap (λ v. is_under_way v.standing) (sym same) ∙ kept.under_way) in
      record {
        v = then.0;
        kept = changes i.conn.0 ∙ ap (λ b. cond b now (connection old i.conn.0)) e ∙ then.1;
        seq = then.2 ∙ ap (λ v. v.seq) (sym same) ∙ kept.seq;
        under_way = then.3;
      }
  | inr e ↦ kept_else old new c now i changes e kept
]

-- ---- Collect

-- an open connection that is kept
pub kept_open : (v : Connection) (w : World) (c : ℕ) → v.is_open ≡ true → ShowsKept v w c →
    (v.seq ≡ w.seq c) × ShowsOpen v.standing v w c
kept_open v w c live shows = (shows.0, kept_live v w c live shows)

-- a step of a world, and what the router then shows
abbrev pub CollectsAs : RouterView → World → ℕ → Option Outcome → Type 0
CollectsAs new w c given =
    (w' : World) × WorldCollects (w.standing c) w c (Collected given) w' × ShowsConnections new w'

-- nothing waits for the connection
collects_none : (old new : RouterView) (w : World) (c : ℕ) (s : Stand) → w.standing c ≡ s →
    WorldCollects s w c (Collected None) w → new ≡ old → ShowsConnections old w →
    CollectsAs new w c None
collects_none old new w c s at' collects same shows = (
  w,
  subst (λ t. WorldCollects t w c (Collected None) w) (sym at') collects,
  subst (λ r. ShowsConnections r w) (sym same) shows,
)

collects_some : (old new : RouterView) (w : World) (c : ℕ) (was : Connection) (o : kept.Outcome) →
    connection old c ≡ Some was → was.standing ≡ router.Answered o → was.is_open ≡ true →
    Changes old new c (Some (with_standing was router.Idle)) → ShowsConnections old w →
    CollectsAs new w c (Some (outcome_shown o))
collects_some old new w c was o there is live changes shows =
    let here = kept_open was w c live (kept_at old w c was there shows) in
    let answered : (w.standing c ≡ Answered (outcome_shown o)) × (was.floor ≡ floor_of w c) =
    subst (λ s. ShowsOpen s was w c) is here.1 in (
      standing_world w c Idle,
      subst (λ t. WorldCollects t w c (Collected (Some (outcome_shown o))) (standing_world w c Idle)) (sym answered.0)
          (refl, refl),
      record {
        opened = changes.opened ∙ shows.opened;
        each = each_of old new w (standing_world w c Idle) c (Some (with_standing was router.Idle)) changes.at
            (alike_standing w c Idle) shows.each
            (here.0, inl (live, (standing_here w c Idle, answered.1)));
        sessions = subst (λ s. ShowsSessions s (standing_world w c Idle).standing w.session) (sym changes.sessions)
            (sessions_at (session_at old) w.standing w.session shows.sessions c Idle
            (λ is. absurd (answered_open (outcome_shown o) (sym answered.0 ∙ is))) (λ is. absurd (idle_open is)));
        under_way = λ i q asked. elim (shows.under_way i q asked) [
          | inl settled ↦ inl settled
          | inr kept ↦ inr
              (kept_here old new c was (Some (with_standing was router.Idle)) i there changes.at
              (λ busy. absurd (both_ways _ (ap is_under_way is) busy)) kept)
        ];
      },
    )

pub shows_collect : (old new : RouterView) (w : World) (c : ℕ) (given : Option kept.Outcome) →
    Collects old c given new → ShowsConnections old w →
    CollectsAs new w c (option_map outcome_shown given)
shows_collect old new w c given collects shows =
    subst (λ g. CollectsAs new w c (option_map outcome_shown g)) (sym collects.given)
    (by_standing collects.was.standing refl (kept_open collects.was w c collects.live (kept_at old w c collects.was collects.kept shows)).1
    collects.after)
  where
    by_standing : (s : Standing) → collects.was.standing ≡ s → ShowsOpen s collects.was w c →
        MatchOption (outcome_in s) (new ≡ old) (λ o. Changes old new c (Some (with_standing collects.was router.Idle))) →
        CollectsAs new w c (option_map outcome_shown (outcome_in s))
    by_standing router.Idle e here same = collects_none old new w c Idle here.0 (refl, refl) same shows
    by_standing (router.Answered o) e here changes =
        collects_some old new w c collects.was o collects.kept e collects.live changes shows
    by_standing s e here same = collects_none old new w c Waiting here.0 (refl, refl) same shows

-- ---- Close

-- how it stands once it is closed
shut : (s : Standing) (v : Connection) (w : World) (c : ℕ) → (v.seq ≡ w.seq c) → ShowsOpen s v w c →
    ShowsConnection
    (cond (is_under_way s) (Some (record { is_open = false; seq = v.seq; floor = v.floor; standing = s })) None)
    (standing_world w c Closed) c
shut (router.Waiting asked) v w c seq shows = (seq, inr (refl, (standing_here w c Closed, shows.1)))
shut router.Taken v w c seq shows = (seq, inr (refl, (standing_here w c Closed, shows.1)))
shut s v w c seq shows = standing_here w c Closed

pub shows_close : (old new : RouterView) (w : World) (c : ℕ) → Closes old c new → ShowsConnections old w →
    (w.standing c ≡ Closed → ⊥) × ShowsConnections new (standing_world w c Closed)
shows_close old new w c closes shows =
    let was = closes.was in
    let here = kept_open was w c closes.live (kept_at old w c was closes.kept shows) in (
      open_stands was.standing was w c here.1,
      record {
        opened = closes.changes.opened ∙ shows.opened;
        each = each_of old new w (standing_world w c Closed) c (once_closed was) closes.changes.at
            (alike_standing w c Closed) shows.each (shut was.standing was w c here.0 here.1);
        sessions = sessions_close (session_at old) w.standing w.session shows.sessions (session_at new) c closes.changes.sessions;
        under_way = λ i q asked. elim (shows.under_way i q asked) [
          | inl settled ↦ inl settled
          | inr kept ↦ inr (kept_here old new c was (once_closed was) i closes.kept closes.changes.at
              (λ busy. (closed was, ap (λ b. cond b (Some (closed was)) None) busy, refl, busy)) kept)
        ];
      },
    )
