use Rattle.std.proofs.Common.{rules, ◌≡◌, ◌∙◌, ◌==◌, Some, ap, cond}
use Rattle.router.specs.Connection.{with_standing}
use Rattle.router.specs.Router.{connection, session_at}
use Rattle.router.specs.declared.connection.Standing.TheVariants.{Waiting}
use Rattle.router.proofs.Turning.{written}
use Rattle.router.proofs.router.Router.put_back.Goals as goal

pub returns : goal.returns
returns c =
    let was = c.in-Some.connection.now in let n = c.args.conn.0 in
    let kept : connection c.args.self.now n ≡ Some was = search rules in
    let w = with_standing was c.replace.new.dest in
    let now = with_standing was (Waiting c.args.asked) in
    let standing : c.replace.new.dest ≡ Waiting c.args.asked = search rules in
    let put = (c.get_mut.follows.holds w).3 (search rules) in (
      was,
      kept,
      record {
        opened = search rules;
        at = λ d. written c.self.inside.kept.entries (c.get_mut.follows.lender w).entries n w now put.0 (ap (with_standing was) standing) d
            ∙ ap (λ v. cond (d == n) (Some now) (connection v d)) c.self.view_is;
        sessions = ap session_at c.self.view_is;
      },
    )
