use Rattle.std.proofs.Common.{rules, ◌≡◌, ◌∙◌, ◌==◌, None, Some, ap, cond, refl, sym, true}
use Rattle.std.specs.BTreeMap.{is_at}
use Rattle.std.specs.Map.{lookup}
use Rattle.std.specs.Ordering.{nat_cmp}
use Rattle.router.specs.Connection.{closed}
use Rattle.router.specs.Router.{connection, once_closed, session_at}
use Rattle.router.proofs.Turning.{written}
use Rattle.router.proofs.router.Router.shut.Goals as goal

pub returns-then-is_under_way : goal.returns-then-is_under_way
returns-then-is_under_way c =
    let was = c.in-Some.connection.now in let n = c.args.conn.0 in
    let kept : connection c.args.self.now n ≡ Some was = search rules in
    let live : was.is_open ≡ true = search rules in
    let put = (c.get_mut.follows.holds (closed was)).3 (search rules) in (
      was,
      kept,
      live,
      record {
        opened = search rules;
        at = λ d. written c.self.inside.kept.entries (c.get_mut.follows.lender (closed was)).entries n (closed was)
            (closed was) put.0 refl d
            ∙ ap (λ b. cond (d == n) (cond b (Some (closed was)) None) (lookup (is_at (nat_cmp d)) c.self.inside.kept.entries))
            c.if-is_under_way.ensures ∙ ap (λ v. cond (d == n) (once_closed was) (connection v d)) c.self.view_is;
        sessions = ap session_at c.self.view_is;
      },
    )

pub returns-else-is_under_way : goal.returns-else-is_under_way
returns-else-is_under_way c =
    let was = c.in-Some.connection.now in
    let kept : connection c.args.self.now c.args.conn.0 ≡ Some was = search rules in
    let live : was.is_open ≡ true = search rules in (
      was,
      kept,
      live,
      record {
        opened = search rules;
        at = rw (sym c.is_under_way.ensures ∙ c.if-is_under_way.false) (search rules);
        sessions = c.forget.ensures.sessions ∙ ap session_at c.self.view_is;
      },
    )
