use Rattle.std.proofs.Common.{rules, ◌≡◌, ◌∙◌, None, false, sym}
use Rattle.std.proofs.lemmas.Result.{IfOk-weaker}
use Rattle.router.specs.Lists.{is_open_list}
use Rattle.router.specs.Router.{session_at}
use Rattle.sessions.specs.Control.{control_in}
use Rattle.router.proofs.Turning.{plain_leaves, told_free}
use Rattle.router.proofs.router.Router.ask.Goals as goal

pub returns-then-is_control-clause-told : goal.returns-then-is_control-clause-told
returns-then-is_control-clause-told c = c.ask_control.ensures.told c.args.table.now

pub returns-else-is_control-clause-told : goal.returns-else-is_control-clause-told
returns-else-is_control-clause-told c =
    let shut : is_open_list (session_at c.args.self.now c.args.id.conn.0) ≡ false = sym c.has_open_list.ensures
    ∙ c.if-has_open_list.false in
    IfOk-weaker c.ask_plain.result _ _
    (λ told tells. told_free c.args.table.now c.args.id (session_at c.args.self.now c.args.id.conn.0) c.args.words told shut tells)
    c.ask_plain.ensures

pub returns-else-is_control-clause-sessions : goal.returns-else-is_control-clause-sessions
returns-else-is_control-clause-sessions c =
    let shut : is_open_list (session_at c.args.self.now c.args.id.conn.0) ≡ false = sym c.has_open_list.ensures
    ∙ c.if-has_open_list.false in
    let none : control_in c.args.words ≡ None = search rules in
    IfOk-weaker c.ask_plain.result _ _
    (λ told tells. plain_leaves c.args.self.now c.args.id.conn.0 c.args.words shut none) c.ask_plain.ensures
