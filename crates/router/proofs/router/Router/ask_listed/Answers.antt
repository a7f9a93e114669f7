use Rattle.std.proofs.Common.{rules, ◌≡◌, ℕ, ◌∙◌, List, Some, ap, cond, false, sym}
use Rattle.std.proofs.lemmas.Map.Steps.{set_value_same}
use Rattle.std.proofs.lemmas.Result.{err_from_is_err_and}
use Rattle.std.specs.BTreeMap.{is_at}
use Rattle.std.specs.Map.{lookup}
use Rattle.std.specs.Ordering.{nat_cmp}
use Rattle.router.specs.Lists.{ListView, is_open_list}
use Rattle.router.specs.Router.{RouterView, session_at, session_of}
use Rattle.sessions.specs.Session.{asks}
use Rattle.router.proofs.Turning.{dropped_then, listed_then}
use Rattle.router.proofs.router.Router.ask_listed.Goals as goal
use Rattle.router.proofs.router.Router.ask_listed.Goals.{then-not-is_open, else-not-is_open}

pub returns-in_err-told-clause-unchanged : goal.returns-in_err-told-clause-unchanged
returns-in_err-told-clause-unchanged c =
    let e = err_from_is_err_and c.from_residual.result c.from_residual.ensures.1 in
    let n = c.args.id.conn.0 in let lists = c.self.inside.lists.entries in
    let there : lookup (is_at (nat_cmp n)) lists ≡ Some c.ask.new.self = search rules in
    let same = (c.get_mut.follows.holds c.ask.new.self).0 ∙ set_value_same (is_at (nat_cmp n)) lists c.ask.new.self there in
    let view = λ (ls : List (ℕ × ListView)).
    let v : RouterView = record { opened = c.self.inside.opened; kept = c.self.inside.kept.entries; lists = ls } in v in
    rw e.1 (ap view same ∙ c.self.view_is)

pub returns-clause-sessions : goal.returns-clause-sessions
returns-clause-sessions c d =
    let old = c.args.self.now in let n = c.args.id.conn.0 in let words = c.args.words in
    let was = c.in-Some.listed.now in let now = c.ask.new.self in
    let there : lookup (is_at (nat_cmp n)) old.lists ≡ Some was = search rules in
    let put = (c.get_mut.follows.holds now).3 (search rules) in
    let lists = (c.get_mut.follows.lender now).entries in
    let mid = listed_then old lists n now was words
    (λ q. put.0 q ∙ ap (λ v. cond (is_at (nat_cmp n) q) (Some now) (lookup (is_at (nat_cmp q)) v.lists)) c.self.view_is) there
    c.in_ok-told.ensures.session in
    elim c.if-not-is_open.branch [
      | then-not-is_open w ↦
          let shut : is_open_list (asks (session_at old n) words).0 ≡ false =
          ap is_open_list (sym (c.in_ok-told.ensures.session ∙ ap (λ o. (asks (session_of o) words).0) (sym there)))
          ∙ sym c.is_open.ensures ∙ w.if-not-is_open.true in
          ap (λ v. session_at v d) w.self-is
          ∙ dropped_then (session_at old) (λ q. session_of (lookup (is_at (nat_cmp q)) lists)) (session_at w.drop_list.new.self) n
          (asks (session_at old n) words).0 mid shut w.drop_list.ensures.sessions d
      | else-not-is_open w ↦ ap (λ v. session_at v d) w.self-is ∙ mid d
    ]
