-- Where a connection stands in a world, by how the router has it.
use Rattle.std.proofs.Common.{◌≡◌, ◌≢◌, ℕ, true, false, inl, inr, Option, Some, None, refl, sym, ◌∙◌, subst}
use Rattle.std.proofs.lemmas.Bool.{both_ways}
use Rattle.router.specs.Router.{is_open}
use Rattle.router.specs.declared.connection.Connection.{Connection}
use Rattle.router.specs.declared.connection.Standing.{Standing}
use Rattle.router.specs.declared.connection.Standing.TheVariants as router
use Rattle.front.specs.Connections.{ShowsOpen, ShowsClosed, ShowsKept, ShowsConnection}
use Rattle.world.specs.Steps.{IsBusy}
use Rattle.world.specs.World.{World, Closed, Idle}

-- ---- one that isn't open

pub closed_stands : (s : Standing) (v : Connection) (w : World) (c : ℕ) → ShowsClosed s v w c → w.standing c ≡ Closed
closed_stands router.Idle v w c shows = absurd shows
closed_stands (router.Answered o) v w c shows = absurd shows
closed_stands s v w c shows = shows.0

kept_closed : (v : Connection) (w : World) (c : ℕ) → v.is_open ≡ false → ShowsKept v w c → w.standing c ≡ Closed
kept_closed v w c shut (seq, inl live) = absurd (both_ways _ shut live.0)
kept_closed v w c shut (seq, inr gone) = closed_stands v.standing v w c gone.1

pub shut_stands : (o : Option Connection) (w : World) (c : ℕ) → is_open o ≡ false → ShowsConnection o w c → w.standing c ≡ Closed
shut_stands None w c shut shows = shows
shut_stands (Some v) w c shut shows = kept_closed v w c shut shows

-- ---- one that is

pub kept_live : (v : Connection) (w : World) (c : ℕ) → v.is_open ≡ true → ShowsKept v w c → ShowsOpen v.standing v w c
kept_live v w c live (seq, inl shows) = shows.1
kept_live v w c live (seq, inr gone) = absurd (both_ways _ gone.0 live)

pub shows_live : (o : Option Connection) (v : Connection) (w : World) (c : ℕ) → o ≡ Some v → v.is_open ≡ true →
    ShowsConnection o w c → ShowsOpen v.standing v w c
shows_live o v w c kept live shows = kept_live v w c live (subst (λ x. ShowsConnection x w c) kept shows)

pub busy_stands : (s : Standing) (v : Connection) (w : World) (c : ℕ) → s ≢ router.Idle → ShowsOpen s v w c → IsBusy (w.standing c)
busy_stands router.Idle v w c busy shows = absurd (busy refl)
busy_stands s v w c busy shows = subst IsBusy (sym shows.0) tt

pub idle_stands : (s : Standing) (v : Connection) (w : World) (c : ℕ) → s ≡ router.Idle → ShowsOpen s v w c → w.standing c ≡ Idle
idle_stands s v w c idle shows = (subst (λ x. ShowsOpen x v w c) idle shows).0

pub open_stands : (s : Standing) (v : Connection) (w : World) (c : ℕ) → ShowsOpen s v w c → w.standing c ≢ Closed
open_stands router.Idle v w c shows shut = let k = sym shows.0 ∙ shut in cc
open_stands s v w c shows shut = let k = sym shows.0 ∙ shut in cc
