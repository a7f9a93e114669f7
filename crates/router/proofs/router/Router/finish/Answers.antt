use Rattle.std.proofs.Common.{rules, ◌≡◌, ◌∙◌, ◌==◌, cond, Some, ap, sym, subst}
use Rattle.groups.specs.declared.request.RequestId.{RequestId}
use Rattle.router.specs.Connection.{with_standing, settled_with}
use Rattle.router.specs.Router.{RouterView, connection, session_at, Changes}
use Rattle.router.specs.declared.connection.Standing.TheVariants.{Idle}
use Rattle.router.proofs.Between.{finishes, written_back}
use Rattle.router.proofs.Turning.{written}
use Rattle.router.proofs.router.Router.finish.Goals as goal

pub returns-then-not-connection-clause-unchanged : goal.returns-then-not-connection-clause-unchanged
returns-then-not-connection-clause-unchanged c = λ no.
    let was = c.in-Some.connection.now in let v = c.self.inside in
    let old : RouterView = record { opened = v.opened; kept = v.kept.entries; lists = v.lists.entries } in
    written_back old _ c.args.id.conn.0 was (search rules) (c.get_mut.follows.holds was).0 ∙ c.self.view_is

pub returns-in_default-standing-clause-unchanged : goal.returns-in_default-standing-clause-unchanged
returns-in_default-standing-clause-unchanged c = λ no.
    let was = c.in-Some.connection.now in let v = c.self.inside in
    let old : RouterView = record { opened = v.opened; kept = v.kept.entries; lists = v.lists.entries } in
    written_back old _ c.args.id.conn.0 was (search rules) (c.get_mut.follows.holds was).0 ∙ c.self.view_is

pub returns-clause-finished : goal.returns-clause-finished
returns-clause-finished c = λ yes outcome id.
    let old = c.args.self.now in let was = c.in-Some.connection.now in let n = c.args.id.conn.0 in
    let now = with_standing (settled_with was c.args.stamp.clock outcome) Idle in
    let w = record now { standing = c.replace.new.dest } in
    let kept : connection old n ≡ Some was = search rules in
    let put = (c.get_mut.follows.holds w).3 (search rules) in
    let new : RouterView = record {
      opened = c.self.inside.opened;
      kept = (c.get_mut.follows.lender w).entries;
      lists = c.self.inside.lists.entries;
    } in
    let changes : Changes old new n (Some now) = record {
      opened = ap (λ (v : RouterView). v.opened) c.self.view_is;
      at = λ d. written c.self.inside.kept.entries new.kept n w now put.0 (ap (with_standing now) c.replace.ensures.after) d
          ∙ ap (λ v. cond (d == n) (Some now) (connection v d)) c.self.view_is;
      sessions = ap session_at c.self.view_is;
    } in
    let same = ap (λ (i : RequestId). i.conn.0) (sym id) in
    finishes old new c.args.stamp.clock outcome was (subst (λ m. connection old m ≡ Some was) same kept) c.if-not-connection.false
    (subst (λ m. Changes old new m (Some now)) same changes)
