-- The requests of a layer that were executed.
use Rattle.std.proofs.Common.{◌≡◌, true, false, List, [], ◌∷◌, Option, Some, None, inl, inr, refl, ap, ◌∙◌, sym, subst}
use Rattle.std.specs.List.{AllZip, AllByRecursion}
use Rattle.tasks.specs.Starved.{starved_in}
use Rattle.back.specs.Rows.{with_row, rows_of}
use Rattle.tasks.proofs.Turns.{pair}
use Rattle.execution_order.specs.Entries.{Entry, Row, deeds_of, entries_of, replies_of, Touch, InOrder, IsAddressed, AreAddressed}
use Rattle.execution_order.specs.Rows.{IsRow}
use Rattle.groups.proofs.Stamps.{lt_asym}
use Rattle.groups.specs.GroupSet.{has}
use Rattle.groups.specs.Order.{In}
use Rattle.groups.specs.Stamp.{stamp_lt}
use Rattle.journal.specs.Views.{RowView}
use Rattle.keyspace.specs.Map.{Map}
use Rattle.layer_planner.specs.Layers.{StandTogether, HaveOwnStamps}
use Rattle.layer_planner.specs.declared.job.Job.{Job}
use Rattle.placement.specs.Layout.{Layout}
use Rattle.resp.specs.Content.{Content, content}
use Rattle.resp.specs.declared.answered.Answered.{Answered}
use Rattle.shard_exec.specs.Layers as layers
use Rattle.shard_exec.specs.Layers.{AddressTheirGroups, IsOf, outcomes_of_ended}
use Rattle.shard_exec.specs.declared.done.Ended.{Ended}
use Rattle.shards.specs.Layer.{AnsweredInTurn}
use Rattle.shard_workers.specs.PlacedJobs.{outcome}
use Rattle.tasks.specs.Tasks.{task_reading, task_groups, deed_effect, deed_of, deeds_in_turn}

-- the request as it was executed, by its reply
abbrev pub entry_of : Job → Content → Entry
entry_of j reply = record {
  id = j.id;
  stamp = j.stamp;
  groups = j.groups;
  task = j.asked.batch;
  starved = starved_in j.asked.batch reply;
}

-- a request with its reply; one that starved isn't there
abbrev pub with_executed : Job → Option Answered → List Row → List Row
with_executed j None rows = rows
with_executed j (Some answered) rows = record { entry = entry_of j (content answered.reply); reply = content answered.reply } ∷ rows

abbrev pub executed_in : List Job → List Ended → List Row
executed_in (j ∷ js) (e ∷ es) = with_executed j e.reply (executed_in js es)
executed_in js es = []

-- ---- the rows are kept of them

one_kept : (j : Job) (e : Ended) → IsOf j e → (reply : Option Answered) (xs : List Row) (ys : List RowView) → AllZip IsRow xs ys
    → AllZip IsRow (with_executed j reply xs) (with_row e reply ys)
one_kept j e of None xs ys z = z
one_kept j e of (Some answered) xs ys z =
    (record { id = of.0; stamp = of.1; says = ap task_reading of.2 ∙ j.asked.says; starved = refl; reply = refl }, z)

pub rows_kept : (js : List Job) (es : List Ended) → AllZip IsOf js es → AllZip IsRow (executed_in js es) (rows_of es)
rows_kept [] [] told = tt
rows_kept (j ∷ js) (e ∷ es) told = one_kept j e told.0 e.reply (executed_in js es) (rows_of es) (rows_kept js es told.1)
rows_kept js es told = absurd told

-- ---- each is of the layer

abbrev pub IsOfLayer : List Job → Entry → Type 0
IsOfLayer js x = (j : Job) × In j js × ((reply : Content) × (x ≡ entry_of j reply))

of_later : (j : Job) (js : List Job) (x : Entry) → IsOfLayer js x → IsOfLayer (j ∷ js) x
of_later j js x it = (it.0, inr it.1, it.2)

of_first : (j : Job) (js : List Job) (x : Entry) (rows : List Row) → (In x (entries_of rows) → IsOfLayer js x)
    → (reply : Option Answered) → In x (entries_of (with_executed j reply rows)) → IsOfLayer (j ∷ js) x
of_first j js x rows rest None there = of_later j js x (rest there)
of_first j js x rows rest (Some answered) (inl same) = (j, inl refl, (content answered.reply, same))
of_first j js x rows rest (Some answered) (inr there) = of_later j js x (rest there)

pub of_layer : (js : List Job) (es : List Ended) (x : Entry) → In x (entries_of (executed_in js es)) → IsOfLayer js x
of_layer (j ∷ js) (e ∷ es) x there = of_first j js x (executed_in js es) (of_layer js es x) e.reply there
of_layer js es x there = absurd there

-- what holds of each request of a list holds of one of them
pub holds_of : {X : Type 0} (P : X → Type 0) (xs : List X) (x : X) → AllByRecursion P xs → In x xs → P x
holds_of P [] x all there = absurd there
holds_of P (y ∷ xs) x all (inl same) = subst P (sym same) all.0
holds_of P (y ∷ xs) x all (inr there) = holds_of P xs x all.1 there

pub are_addressed : (table : Layout) (js : List Job) (es : List Ended) → AddressTheirGroups table js → HaveOwnStamps js
    → AreAddressed table (entries_of (executed_in js es))
are_addressed table js es addressed stamps x there =
    let it = of_layer js es x there in
    subst (IsAddressed table) (sym it.2.1) (record {
      groups = holds_of (λ j. j.groups ≡ task_groups table j.asked.batch) js it.0 addressed it.1;
      some_group = (it.0.stamp.group, holds_of (λ (j : Job). has j.groups j.stamp.group ≡ true) js it.0 stamps it.1);
    })

-- ---- those that touch ascend

first_in_order : (j : Job) (rows : List Row)
    → ((reply : Content) (f : Entry) → In f (entries_of rows) → Touch (entry_of j reply) f → stamp_lt f.stamp j.stamp ≡ false)
    → InOrder (entries_of rows) → (reply : Option Answered) → InOrder (entries_of (with_executed j reply rows))
first_in_order j rows ascends rest None = rest
first_in_order j rows ascends rest (Some answered) = (ascends (content answered.reply), rest)

pub are_in_order : (js : List Job) (es : List Ended) → StandTogether js → InOrder (entries_of (executed_in js es))
are_in_order (j ∷ js) (e ∷ es) together =
    first_in_order j (executed_in js es) ascends (are_in_order js es together.1) e.reply
  where
    ascends : (reply : Content) (f : Entry) → In f (entries_of (executed_in js es)) → Touch (entry_of j reply) f
        → stamp_lt f.stamp j.stamp ≡ false
    ascends reply f there touch =
        let it = of_layer js es f there in
        subst (λ (x : Entry). Touch (entry_of j reply) x → stamp_lt x.stamp j.stamp ≡ false) (sym it.2.1)
        (λ t. lt_asym j.stamp it.0.stamp (together.0 it.0 it.1 t.0 t.1 t.2).2) touch
are_in_order js es together = tt

-- ---- one thread does the same

first_in_turn : (m new : Map) (j : Job) (js : List Job) (es : List Ended) (rows : List Row)
    → ((n : Map) → AnsweredInTurn n (layers.tasks_of js) (outcomes_of_ended es) new
    → (new, replies_of rows) ≡ deeds_in_turn n (deeds_of (entries_of rows)))
    → (reply : Option Answered) → AnsweredInTurn m (layers.tasks_of (j ∷ js)) (outcome reply ∷ outcomes_of_ended es) new
    → (new, replies_of (with_executed j reply rows)) ≡ deeds_in_turn m (deeds_of (entries_of (with_executed j reply rows)))
first_in_turn m new j js es rows rest None answered = rest m answered
first_in_turn m new j js es rows rest (Some answer) answered =
    let behind = rest (deed_effect (deed_of j.asked.batch (content answer.reply)) m).0 answered.1 in
    pair _ _ _ _ (ap (λ v. v.0) behind) (ap (λ r. r ∷ replies_of rows) answered.0
    ∙ ap (λ v. (deed_effect (deed_of j.asked.batch (content answer.reply)) m).1 ∷ v.1) behind)

pub is_in_turn : (m new : Map) (js : List Job) (es : List Ended)
    → AnsweredInTurn m (layers.tasks_of js) (outcomes_of_ended es) new
    → (new, replies_of (executed_in js es)) ≡ deeds_in_turn m (deeds_of (entries_of (executed_in js es)))
is_in_turn m new [] [] answered = ap (λ n. (n, [])) answered
is_in_turn m new (j ∷ js) (e ∷ es) answered =
    first_in_turn m new j js es (executed_in js es) (λ n. is_in_turn n new js es) e.reply answered
is_in_turn m new js es answered = absurd answered
