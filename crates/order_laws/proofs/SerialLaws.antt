-- A layer that a store has run as one thread does is run so in the world.
use Rattle.std.proofs.Common.{◌≡◌, List, [], ◌∷◌, ◌++◌, map, cond, inl, inr, Option, Some, None, refl, sym}
use Rattle.std.proofs.Common.{ap, ◌∙◌, subst, append-nil, append_assoc}
use Rattle.std.proofs.lemmas.Grind.{flat_map-append}
use Rattle.std.specs.FinMap.{empty}
use Rattle.execution_order.specs.Entries.{Row, deeds_of, entries_of, replies_of}
use Rattle.execution_order.specs.Rows.{IsOneThread}
use Rattle.execution_order.specs.Serial.{all_rows, all_starved}
use Rattle.groups.proofs.Lists.{In-right}
use Rattle.groups.specs.Order.{In}
use Rattle.groups.specs.Skips.{names_whole, parts_of}
use Rattle.groups.specs.declared.request.RequestId.{RequestId}
use Rattle.groups.specs.declared.skip_id.SkipId.{SkipId}
use Rattle.journal.specs.declared.step.Step.{Step}
use Rattle.keyspace.specs.Map.{Map}
use Rattle.order_laws.proofs.Layers.{layers_are_in_turn}
use Rattle.order_laws.proofs.Yielding.{leads_of, same_yield}
use Rattle.order_laws.specs.Layers.{Yields, run_by, all_of}
use Rattle.order_laws.specs.Truth.{ran_as, RowsAreOfRuns, SerialIsTrue}
use Rattle.placement.specs.Layout.{Layout}
use Rattle.resp.specs.Content.{Content}
use Rattle.skeen_core.specs.Group.{EachOnce}
use Rattle.skeen_core.specs.declared.packet.Delivered.{Delivered}
use Rattle.tasks.specs.Tasks.{Task, deed_effect, deed_of, deeds_in_turn, starved_names}
use Rattle.world.specs.Steps.{opening, map_after, after_all, ended_as, starved_among, RunInTurn}
use Rattle.world.specs.World.{World, Request, Ended}
use Rattle.world_laws.proofs.Layers.{taken_once}
use Rattle.world_laws.proofs.Names.{IsAnswer, Tells, TellsEach, ends_again, starved_tell}
use Rattle.world_laws.proofs.Worlds.{good_world}
use Rattle.world_laws.specs.Good.{Asked, RepliesOn, RepliesInTurn, TakenGood, WorldGood, delivered_of, all_delivered, all_taken}
use Rattle.world_laws.specs.Headline.{with_row, rows_of}
use Rattle.world_laws.specs.Order.{ids_of}

-- ---- rows and names, one list behind another

with_row-append : (e : Ended) (o : Option Content) (xs ys : List Row) → with_row e o (xs ++ ys) ≡ with_row e o xs ++ ys
with_row-append e None xs ys = refl
with_row-append e (Some reply) xs ys = refl

pub rows_of-append : (es fs : List Ended) → rows_of (es ++ fs) ≡ rows_of es ++ rows_of fs
rows_of-append [] fs = refl
rows_of-append (e ∷ es) fs = ap (with_row e e.reply) (rows_of-append es fs) ∙ with_row-append e e.reply (rows_of es) (rows_of fs)

pub starved-append : (es fs : List Ended) → starved_among (es ++ fs) ≡ starved_among es ++ starved_among fs
starved-append [] fs = refl
starved-append (e ∷ es) fs =
    let names = starved_names e.id e.task e.reply in
    ap (λ l. names ++ l) (starved-append es fs) ∙ sym (append_assoc names (starved_among es) (starved_among fs))

rows_of_all : (layers : List (List Ended)) → rows_of (all_of layers) ≡ all_rows (map ran_as layers)
rows_of_all [] = refl
rows_of_all (es ∷ layers) = rows_of-append es (all_of layers) ∙ ap (λ l. rows_of es ++ l) (rows_of_all layers)

starved_of_all : (layers : List (List Ended)) → starved_among (all_of layers) ≡ all_starved (map ran_as layers)
starved_of_all [] = refl
starved_of_all (es ∷ layers) = starved-append es (all_of layers) ∙ ap (λ l. starved_among es ++ l) (starved_of_all layers)

-- what has ended is what came of the layers that were run
pub ended_of_runs : (t : Layout) (steps : List Step) (w : World) (ended : List (List Ended)) → Yields run_by t opening steps ended w →
    w.ended ≡ all_of ended
ended_of_runs t steps w ended runs =
    let turns = layers_are_in_turn t steps w (leads_of run_by t opening w steps ended runs) in
    turns.ended ∙ ap all_of (same_yield run_by t opening w w steps turns.ran ended turns.runs runs).0

pub rows_are_of_runs : RowsAreOfRuns
rows_are_of_runs t steps w layers are =
    let ended = ended_of_runs t steps w are.ended are.runs in (
      ap rows_of ended ∙ rows_of_all are.ended ∙ ap all_rows (sym are.each),
      ap starved_among ended ∙ starved_of_all are.ended ∙ ap all_starved (sym are.each),
    )

-- ---- replies in turn

-- rows with the replies of one thread are of requests whose replies are in turn
replies_from : (m left : Map) (es : List Ended) → (left, replies_of (rows_of es)) ≡ deeds_in_turn m (deeds_of (entries_of (rows_of es))) →
    RepliesInTurn m es
replies_from m left [] is = tt
replies_from m left (e ∷ es) is = by_reply e.reply refl is (λ n. replies_from n left es)
  where
    by_reply : (r : Option Content) → e.reply ≡ r →
        (left, replies_of (with_row e r (rows_of es))) ≡ deeds_in_turn m (deeds_of (entries_of (with_row e r (rows_of es)))) →
        ((n : Map) → (left, replies_of (rows_of es)) ≡ deeds_in_turn n (deeds_of (entries_of (rows_of es))) → RepliesInTurn n es) →
        RepliesOn m e × RepliesInTurn (map_after e.reply e.task m) es
    by_reply None none is rest = (inl none, subst (λ r. RepliesInTurn (map_after r e.task m) es) (sym none) (rest m is))
    by_reply (Some reply) some is rest =
        let lists : reply ∷ replies_of (rows_of es) ≡ (deed_effect (deed_of e.task reply) m).1
        ∷ (deeds_in_turn (deed_effect (deed_of e.task reply) m).0 (deeds_of (entries_of (rows_of es)))).1 = ap (λ v. v.1) is in
        let first : reply ≡ (deed_effect (deed_of e.task reply) m).1 = cc lists in
        let then : replies_of (rows_of es)
        ≡ (deeds_in_turn (deed_effect (deed_of e.task reply) m).0 (deeds_of (entries_of (rows_of es)))).1 = cc lists in (
          inr (reply, some, first),
          subst (λ r. RepliesInTurn (map_after r e.task m) es) (sym some)
              (rest (deed_effect (deed_of e.task reply) m).0 (λ i. ((is i).0, then i))),
        )

replies_behind : (m : Map) (xs ys : List Ended) → RepliesInTurn m (xs ++ ys) → RepliesInTurn (after_all m xs) ys
replies_behind m [] ys replies = replies
replies_behind m (x ∷ xs) ys replies = replies_behind (map_after x.reply x.task m) xs ys replies.1

-- ---- each once

in_ids : (es : List Ended) (i : RequestId) → In i (ids_of es) → (d : Delivered) × In d (all_delivered es) × (i ≡ d.id)
in_ids [] i there = absurd there
in_ids (e ∷ es) i (inl same) = (delivered_of e, inl refl, same)
in_ids (e ∷ es) i (inr there) = let rest = in_ids es i there in (rest.0, inr rest.1, rest.2)

once_among : (t : Layout) (w : World) (front : List Delivered) (es : List Ended) → WorldGood t w →
    TakenGood w.asked w.proposed w.gone (front ++ all_delivered es) → EachOnce (ids_of es)
once_among t w front [] good taken = tt
once_among t w front (e ∷ es) good taken = (
  λ there. let d = in_ids es e.id there in
      taken_once t w.asked w.proposed w.gone w.seq w.last (front ++ delivered_of e ∷ []) (all_delivered es) good.requests moved
      (delivered_of e) d.0 (In-right (delivered_of e) front (delivered_of e ∷ []) (inl refl)) d.1 d.2,
  once_among t w (front ++ delivered_of e ∷ []) es good moved,
)
  where
    moved : TakenGood w.asked w.proposed w.gone ((front ++ delivered_of e ∷ []) ++ all_delivered es)
    moved = subst (λ l. TakenGood w.asked w.proposed w.gone l) (sym (append_assoc front (delivered_of e ∷ []) (all_delivered es))) taken

-- ---- the world's run

is_answer : (m : Map) (e : Ended) → RepliesOn m e → IsAnswer m e.task e.reply
is_answer m e (inl starved) = subst (λ r. IsAnswer m e.task r) (sym starved) tt
is_answer m e (inr answer) = subst (λ r. IsAnswer m e.task r) (sym answer.1) answer.2

ends_so : (names : List SkipId) (m : Map) (e : Ended) (task : Task) → e.task ≡ task → RepliesOn m e → Tells names e.id e.task e.reply →
    e ≡ ended_as names m (delivered_of e) task
ends_so names m e task same answers tells = λ i. record {
  id = e.id;
  stamp = e.stamp;
  groups = e.groups;
  task = same i;
  reply = reply i;
}
  where
    reply : e.reply ≡ cond (names_whole names e.id) None (Some (deed_effect (task, parts_of names e.id) m).1)
    reply = ends_again names e.id e.task e.reply m tells (is_answer m e answers)
        ∙ ap (λ x. cond (names_whole names e.id) None (Some (deed_effect (x, parts_of names e.id) m).1)) same

runs_so : (asked : Asked) (names : List SkipId) (m : Map) (es : List Ended) →
    ((e : Ended) → In e es → (q : Request) × (asked e.id ≡ Some q) × (e.task ≡ q.task)) → RepliesInTurn m es → TellsEach names es →
    RunInTurn asked names m (all_delivered es) es
runs_so asked names m [] tasks answers tells = refl
runs_so asked names m (e ∷ es) tasks answers tells =
    let q = tasks e (inl refl) in (
      (q.0, q.1, ends_so names m e q.0.task q.2 answers.0 tells.0),
      runs_so asked names (map_after e.reply e.task m) es (λ f there. tasks f (inr there)) answers.1 tells.1,
    )

pub serial_is_true : SerialIsTrue
serial_is_true t steps w layers are layer es taken came serial = record {
  layer = layer;
  outcomes = es;
  there = taken;
  in_turn = subst (λ ds. RunInTurn w.asked (starved_among es) w.contents ds es) came.each
      (runs_so w.asked (starved_among es) w.contents es came.tasks replies (starved_tell es once));
  answers = refl;
  after = refl;
}
  where
    good : WorldGood t w
    good = good_world t steps w (leads_of run_by t opening w steps are.ended are.runs)

    rows : all_rows (layers ++ ran_as es ∷ []) ≡ rows_of (w.ended ++ es)
    rows = flat_map-append (λ l. l.rows) layers (ran_as es ∷ [])
        ∙ ap (λ l. all_rows layers ++ l) (append-nil (rows_of es))
        ∙ ap (λ l. l ++ rows_of es) (sym (rows_are_of_runs t steps w layers are).0)
        ∙ sym (rows_of-append w.ended es)

    replies : RepliesInTurn w.contents es
    replies = subst (λ m. RepliesInTurn m es) (sym good.run.map)
        (replies_behind empty w.ended es (replies_from empty serial.left (w.ended ++ es)
        (subst (λ l. IsOneThread serial.left l) rows serial.in_turn)))

    once : EachOnce (ids_of es)
    once = once_among t w (all_delivered w.ended) es good
        (subst (λ ds. TakenGood w.asked w.proposed w.gone (all_delivered w.ended ++ ds)) (sym came.each)
        (subst (λ l. TakenGood w.asked w.proposed w.gone (all_taken w.ended l)) taken good.taken))
