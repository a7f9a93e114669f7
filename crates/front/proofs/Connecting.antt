-- Open, Collect and Close of a front are steps of the world.
use Rattle.std.proofs.Common.{◌≡◌, ℕ, suc, ◌+◌, ◌==◌, cond, Option, Some, option_map, refl, ap, arith}
use Rattle.front.proofs.Showing.{stepped, is_stepped, by_messages, is_after, packets_same}
use Rattle.front.specs.Fronts.{FrontView}
use Rattle.front.specs.Making.{Makes}
use Rattle.groups.specs.declared.request.ConnId.{ConnId}
use Rattle.journal.specs.declared.step.Step.TheVariants.{Open, Collect, Close}
use Rattle.router.specs.Connection.{just_opened}
use Rattle.router.specs.Router.{RouterView, connection, session_at}
use Rattle.router.specs.Router as router
use Rattle.router.specs.declared.outcome.Outcome as kept
use Rattle.front.proofs.WorldConnections.{opened_world, standing_world, unopened, shows_opened, shows_collect, shows_close}
use Rattle.front.specs.Connections.{outcome_shown}
use Rattle.world.specs.Steps.{at, Effect, Opened, Collected, Collects, Made, Steps}
use Rattle.world.specs.World.{World, Standing, Closed, Idle, Answered}
use Rattle.world_laws.proofs.Worlds.{good_world}

-- ---- Open

pub open_makes : (old : FrontView) (r : RouterView) (c : ConnId) → c.0 ≡ old.router.opened + 1 → r.opened ≡ old.router.opened + 1 →
    ((d : ℕ) → connection r d ≡ cond (d == r.opened) (Some just_opened) (connection old.router d)) →
    session_at r ≡ session_at old.router → Makes old Open (Opened c.0) (stepped old r old.multicast)
open_makes old r c number count changes sessions = record {
  is_step = is_stepped old r old.multicast;
  from_each = λ h w at'.
      let good = good_world old.table h w at'.leads in
      let next : c.0 ≡ suc w.opened = let e = at'.shows.connections.opened in omega arith in
      let opened = shows_opened old.router r w old.table (unopened old.table w good) good.requests at'.shows.connections count changes
      sessions in
      let made : Steps old.table w Open (Opened c.0) (opened_world w) = record { answers = ap Opened next; after = refl } in (
        opened_world w,
        made,
        is_after old (stepped old r old.multicast) h w (opened_world w) Open (Opened c.0) refl at' made
            (by_messages old r old.multicast w (opened_world w) refl at'.shows opened
            (packets_same old.table old.multicast w (opened_world w) refl refl refl at'.shows.multicast)),
      );
}

-- ---- Collect

-- a collect changes where connections stand, and nothing else
collect_leaves : (s : Standing) (w w' : World) (c : ℕ) (effect : Effect) → Collects s w c effect w' →
    (stands : ℕ → Standing) × (w' ≡ record w { standing = stands })
collect_leaves Closed w w' c effect made = absurd made
collect_leaves (Answered o) w w' c effect made = (at w.standing c Idle, made.1)
collect_leaves s w w' c effect made = (w.standing, made.1)

pub collect_makes : (old : FrontView) (r : RouterView) (conn : ConnId) (given : Option kept.Outcome) →
    router.Collects old.router conn.0 given r →
    Makes old (Collect conn) (Collected (option_map outcome_shown given)) (stepped old r old.multicast)
collect_makes old r conn given collects = record {
  is_step = is_stepped old r old.multicast;
  from_each = λ h w at'.
      let next = shows_collect old.router r w conn.0 given collects at'.shows.connections in
      let leaves = collect_leaves (w.standing conn.0) w next.0 conn.0 (Collected (option_map outcome_shown given)) next.1 in (
        next.0,
        next.1,
        is_after old (stepped old r old.multicast) h w next.0 (Collect conn) (Collected (option_map outcome_shown given)) refl at' next.1
            (by_messages old r old.multicast w next.0 (ap (λ (v : World). v.layer) leaves.1) at'.shows next.2
            (packets_same old.table old.multicast w next.0 (ap (λ (v : World). v.group) leaves.1)
            (ap (λ (v : World). v.packets) leaves.1) (ap (λ (v : World). v.queue) leaves.1) at'.shows.multicast)),
      );
}

-- ---- Close

pub close_makes : (old : FrontView) (r : RouterView) (conn : ConnId) → router.Closes old.router conn.0 r →
    Makes old (Close conn) Made (stepped old r old.multicast)
close_makes old r conn closes = record {
  is_step = is_stepped old r old.multicast;
  from_each = λ h w at'.
      let as_world = shows_close old.router r w conn.0 closes at'.shows.connections in
      let after = standing_world w conn.0 Closed in
      let made : Steps old.table w (Close conn) Made after = record { is_open = as_world.0; answers = refl; after = refl } in (
        after,
        made,
        is_after old (stepped old r old.multicast) h w after (Close conn) Made refl at' made
            (by_messages old r old.multicast w after refl at'.shows as_world.1
            (packets_same old.table old.multicast w after refl refl refl at'.shows.multicast)),
      );
}
