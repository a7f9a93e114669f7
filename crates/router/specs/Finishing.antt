-- An outcome that is settled and collected at once.
use Rattle.std.specs.Prelude.{◌≡◌, ℕ, Some}
use Rattle.router.specs.Router.{RouterView, connection, once_settled, Changes, Collects}
use Rattle.router.specs.declared.connection.Connection.{Connection}
use Rattle.router.specs.declared.outcome.Outcome.{Outcome}

-- the outcome goes to its connection, which has that stamp's clock as its floor then, and collects it: so there is a router between
pub record Finishes (old : RouterView) (clock : ℕ) (outcome : Outcome) (new : RouterView) : Type 0 where
  pub was : Connection
  pub kept : connection old outcome.id.conn.0 ≡ Some was
  pub mid : RouterView
  pub settles : Changes old mid outcome.id.conn.0 (once_settled was clock outcome)
  pub collects : Collects mid outcome.id.conn.0 (Some outcome) new
