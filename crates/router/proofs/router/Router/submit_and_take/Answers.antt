use Rattle.std.proofs.Common.{◌≡◌, ◌==◌, List, [], ◌∷◌, ◌++◌, length, ◌∙◌, ap, refl, subst, sym, eqb-true}
use Rattle.std.proofs.lemmas.List.{nil_from_length}
use Rattle.std.proofs.lemmas.Result.{IfOk-weaker}
use Rattle.router.specs.Submitting.{AreAlone, SubmitsAndTakes, TellsOf}
use Rattle.router.specs.declared.connection.Standing.TheVariants.{Waiting}
use Rattle.router.specs.declared.submission.Submission.{Submission}
use Rattle.sessions.specs.Session.{Go, asks, plain}
use Rattle.sessions.specs.declared.session.Session.TheVariants.{Free}
use Rattle.tasks.specs.Tasks.{task_groups}
use Rattle.worded.specs.declared.worded.Worded.{Worded}
use Rattle.router.proofs.Alone.{next, sends, no_control, passes_alone, handed_over}
use Rattle.router.proofs.Queuing.{plain_asked}
use Rattle.router.proofs.Standings.{looks_at_none, looks_at_some, told_waiting}
use Rattle.router.proofs.router.Router.submit_and_take.Goals as goal

pub returns-then-is_ping-clause-submitted : goal.returns-then-is_ping-clause-submitted
returns-then-is_ping-clause-submitted c =
    let none = no_control c.args.words c.word.result.now c.word.ensures (sym c.is_control.ensures ∙ c.if-is_control.false) in
    let alone : AreAlone c.args.self.now c.args.conn.0 c.args.words = (sym c.has_open_list.ensures ∙ c.if-has_open_list.false, none) in
    subst (λ (items : List Worded). SubmitsAndTakes c.args.table.now c.args.conn.0 c.args.words c.args.self.now c.answer_ping.result items
    c.answer_ping.new.self) (sym c.requires.room.0)
    (c.answer_ping.ensures c.args.table.now c.args.words alone (c.is_ping.ensures c.if-is_ping.true))

pub returns-in-Err-clause-submitted : goal.returns-in-Err-clause-submitted
returns-in-Err-clause-submitted c =
    let none = no_control c.args.words c.word.result.now c.word.ensures (sym c.is_control.ensures ∙ c.if-is_control.false) in
    let alone : AreAlone c.args.self.now c.args.conn.0 c.args.words = (sym c.has_open_list.ensures ∙ c.if-has_open_list.false, none) in
    IfOk-weaker c.refuse.result _ _
    (λ (s : Submission) is. subst (λ (items : List Worded).
    SubmitsAndTakes c.args.table.now c.args.conn.0 c.args.words c.args.self.now s items c.refuse.new.self) (sym c.requires.room.0) is)
    (c.refuse.ensures.answered c.args.table.now c.args.words alone c.in-Err.ensures.fault)

pub answer_keyless-requires-clause-keyless : goal.answer_keyless-requires-clause-keyless
answer_keyless-requires-clause-keyless c =
    let table = c.args.table.now in let task = c.in-Ok.asked.batch in let groups = c.task_groups-groups.result in
    let none : groups ≡ [] = nil_from_length groups (eqb-true (length groups) 0 (sym c.is_empty.ensures ∙ c.if-is_empty.true)) in
    let addressed : groups ≡ task_groups table task = c.task_groups-groups.ensures ∙ ap (task_groups table) c.batch.ensures in
    looks_at_none table task c.shards-shards.ensures.is_table (sym addressed ∙ none)

pub returns-then-is_empty-clause-submitted : goal.returns-then-is_empty-clause-submitted
returns-then-is_empty-clause-submitted c =
    let table = c.args.table.now in let task = c.in-Ok.asked.batch in let groups = c.task_groups-groups.result in
    let empty : groups ≡ [] = nil_from_length groups (eqb-true (length groups) 0 (sym c.is_empty.ensures ∙ c.if-is_empty.true)) in
    let addressed : groups ≡ task_groups table task = c.task_groups-groups.ensures ∙ ap (task_groups table) c.batch.ensures in
    let none = no_control c.args.words c.word.result.now c.word.ensures (sym c.is_control.ensures ∙ c.if-is_control.false) in
    let alone : AreAlone c.args.self.now c.args.conn.0 c.args.words = (sym c.has_open_list.ensures ∙ c.if-has_open_list.false, none) in
    let reads = c.in-Ok.ensures.plain in
    let asked : (asks Free c.args.words).1 ≡ Go task =
    ap (λ s. s.1) (plain_asked c.args.words none) ∙ ap plain reads.2 ∙ ap Go (sym reads.1) in
    IfOk-weaker c.answer_keyless.result _ _
    (λ (s : Submission) is. subst (λ (items : List Worded).
    SubmitsAndTakes table c.args.conn.0 c.args.words c.args.self.now s items c.answer_keyless.new.self) (sym c.requires.room.0) is)
    (c.answer_keyless.ensures.answered table c.args.words alone asked (sym addressed ∙ empty))

pub returns-clause-submitted : goal.returns-clause-submitted
returns-clause-submitted c =
    let table = c.args.table.now in let asked = c.in-Ok.asked in let task = asked.batch in let groups = c.task_groups-groups.result in
    let old = c.args.self.now in let conn = c.args.conn in let words = c.args.words in let idle = c.in_ok-idle.idle in
    let addressed : groups ≡ task_groups table task = c.task_groups-groups.ensures ∙ ap (task_groups table) c.batch.ensures in
    let some : task_groups table task ≡ [] → ⊥ =
    λ e. let off = sym c.is_empty.ensures ∙ c.if-is_empty.false in let on = ap (λ gs. length gs == 0) (addressed ∙ e) in cc in
    let none = no_control words c.word.result.now c.word.ensures (sym c.is_control.ensures ∙ c.if-is_control.false) in
    let alone : AreAlone old conn.0 words = (sym c.has_open_list.ensures ∙ c.if-has_open_list.false, none) in
    let reads = c.in-Ok.ensures.plain in
    let said : (asks Free words).1 ≡ Go task = ap (λ s. s.1) (plain_asked words none) ∙ ap plain reads.2 ∙ ap Go (sym reads.1) in
    let tells = subst (λ answer. TellsOf table (next conn idle) answer (Waiting asked, groups)) (sym said)
    (told_waiting table (next conn idle) task asked groups
    (looks_at_some table task c.shards-shards.ensures.is_table some) refl addressed) in
    let one : c.push_reserved.new.self.items ≡ asked ∷ [] =
    c.push_reserved.ensures.items ∙ ap (λ (items : List Worded). items ++ asked ∷ []) c.requires.room.0 in
    let changes = handed_over old c.hand_over.new.self conn idle c.in_ok-idle.ensures.idle c.hand_over.ensures in
    subst (λ (items : List Worded). SubmitsAndTakes table conn.0 words old (sends conn idle groups) items c.hand_over.new.self) (sym one)
    (passes_alone table conn words old idle c.in_ok-idle.ensures.idle alone c.hand_over.new.self asked groups changes tells)
