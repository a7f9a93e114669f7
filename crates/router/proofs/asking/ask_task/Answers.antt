use Rattle.std.proofs.Common.{◌≡◌, ◌∙◌, ◌==◌, [], ap, length, refl, subst, sym}
use Rattle.std.proofs.lemmas.Bool.{eqb-true}
use Rattle.std.proofs.lemmas.List.{nil_from_length}
use Rattle.std.specs.FinMap.{empty}
use Rattle.tasks.specs.Batch.{batch_effect}
use Rattle.tasks.specs.Keys.{looks_at_keys}
use Rattle.router.specs.Submitting.{TellsOf}
use Rattle.sessions.specs.Session.{Go}
use Rattle.tasks.specs.Tasks.{task_groups}
use Rattle.router.proofs.Standings.{looks_at_none, looks_at_some, told_at_once, told_waiting}
use Rattle.router.proofs.asking.ask_task.Goals as goal

pub answer_at_once-requires-clause-keyless : goal.answer_at_once-requires-clause-keyless
answer_at_once-requires-clause-keyless c =
    let table = c.args.table.now in let task = c.args.asked.batch in let groups = c.task_groups-groups.result in
    let none : groups ≡ [] = nil_from_length groups (eqb-true (length groups) 0 (sym c.is_empty.ensures ∙ c.if-is_empty.true)) in
    let addressed : groups ≡ task_groups table task = c.task_groups-groups.ensures ∙ ap (task_groups table) c.batch.ensures in
    ap looks_at_keys c.into_parts-batch.ensures.batch
    ∙ looks_at_none table task c.shards-shards.ensures.is_table (sym addressed ∙ none)

pub returns-then-is_empty-clause-told : goal.returns-then-is_empty-clause-told
returns-then-is_empty-clause-told c =
    let table = c.args.table.now in let task = c.args.asked.batch in let groups = c.task_groups-groups.result in
    let none : groups ≡ [] = nil_from_length groups (eqb-true (length groups) 0 (sym c.is_empty.ensures ∙ c.if-is_empty.true)) in
    let addressed : groups ≡ task_groups table task = c.task_groups-groups.ensures ∙ ap (task_groups table) c.batch.ensures in
    let looks = looks_at_none table task c.shards-shards.ensures.is_table (sym addressed ∙ none) in
    let said = c.in_ok-reply.ensures.ok ∙ ap (λ t. (batch_effect [] t empty).1) c.into_parts-batch.ensures.batch in
    subst (λ standing. TellsOf table c.args.id (Go task) (standing, groups)) (sym c.answered.ensures)
    (told_at_once table c.args.id task c.in_ok-reply.reply groups looks said addressed)

pub returns-clause-told : goal.returns-clause-told
returns-clause-told c =
    let table = c.args.table.now in let task = c.args.asked.batch in let groups = c.task_groups-groups.result in
    let addressed : groups ≡ task_groups table task = c.task_groups-groups.ensures ∙ ap (task_groups table) c.batch.ensures in
    let some : task_groups table task ≡ [] → ⊥ =
    λ e. let off = sym c.is_empty.ensures ∙ c.if-is_empty.false in let on = ap (λ gs. length gs == 0) (addressed ∙ e) in cc in
    told_waiting table c.args.id task _ groups (looks_at_some table task c.shards-shards.ensures.is_table some) refl addressed
