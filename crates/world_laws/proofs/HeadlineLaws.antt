-- The order of execution is carried to the order of stamps.
use Rattle.std.proofs.Common.{◌≡◌, true, List, [], ◌∷◌, inl, inr, Option, Some, None, refl, sym, ap, ◌∙◌, subst}
use Rattle.std.specs.FinMap.{empty}
use Rattle.tasks.specs.Starved.{starved_in}
use Rattle.execution_order.proofs.Sorted.{replies_in_stamp_order}
use Rattle.execution_order.specs.Entries.{Entry, deeds_of, entries_of, replies_of, InOrder, IsAddressed, AreAddressed}
use Rattle.groups.specs.GroupSet.{has}
use Rattle.keyspace.specs.Map.{Map}
use Rattle.placement.specs.Layout.{Layout}
use Rattle.resp.specs.Content.{Content}
use Rattle.skeen_core.proofs.Lawful.{None≢Some}
use Rattle.groups.proofs.Stamps.{lt_asym}
use Rattle.groups.specs.Order.{In}
use Rattle.groups.specs.Stamp.{stamp_lt}
use Rattle.tasks.specs.Tasks.{task_groups, deed_effect, deed_of, deeds_in_turn}
use Rattle.world.specs.Steps.{map_after, after_all}
use Rattle.world.specs.World.{World, Ended}
use Rattle.world_laws.specs.Good.{Rising, AnswersOn, RepliesOn, RepliesInTurn, WorldGood}
use Rattle.world_laws.specs.Headline.{with_row, rows_of, IsOneThread, Headline, HoldsInOrderOfExecution}
use Rattle.world_laws.specs.Order.{TouchingByStamp}
use Rattle.world_laws.proofs.OrderLaws.{ended_as_submitted, touching_good}
use Rattle.world_laws.proofs.Worlds.{good_world}
use Rattle.groups.proofs.Options.{some_same}

-- ---- in the order of execution

-- what the rows' deeds do from a map
abbrev OneThreadFrom : Map → List Ended → Type 0
OneThreadFrom m es = (after_all m es, replies_of (rows_of es)) ≡ deeds_in_turn m (deeds_of (entries_of (rows_of es)))

one_thread_from : (m : Map) (es : List Ended) → RepliesInTurn m es → OneThreadFrom m es
one_thread_from m [] replies = refl
one_thread_from m (e ∷ es) replies = by_reply e.reply refl replies.0 (one_thread_from (map_after e.reply e.task m) es replies.1)
  where
    by_reply : (r : Option Content) → e.reply ≡ r → RepliesOn m e → OneThreadFrom (map_after e.reply e.task m) es →
        (after_all (map_after e.reply e.task m) es, replies_of (with_row e e.reply (rows_of es))) ≡ deeds_in_turn m
        (deeds_of (entries_of (with_row e e.reply (rows_of es))))
    by_reply None is answers rest = subst (λ r. OneThreadFrom (map_after r e.task m) es →
        (after_all (map_after r e.task m) es, replies_of (with_row e r (rows_of es))) ≡ deeds_in_turn m
        (deeds_of (entries_of (with_row e r (rows_of es))))) (sym is) (λ rest. rest) rest
    by_reply (Some reply) is answers rest = subst (λ r. OneThreadFrom (map_after r e.task m) es →
        (after_all (map_after r e.task m) es, replies_of (with_row e r (rows_of es))) ≡ deeds_in_turn m
        (deeds_of (entries_of (with_row e r (rows_of es))))) (sym is)
        (λ rest. ap (λ v. (v.0, reply ∷ v.1)) rest
        ∙ ap (λ c. (
          (deeds_in_turn (deed_effect (deed_of e.task reply) m).0 (deeds_of (entries_of (rows_of es)))).0,
          c ∷ (deeds_in_turn (deed_effect (deed_of e.task reply) m).0 (deeds_of (entries_of (rows_of es)))).1,
        )) same) rest
      where
        same : reply ≡ (deed_effect (deed_of e.task reply) m).1
        same = elim answers [
          | inl starved ↦ absurd (None≢Some reply (sym starved ∙ is))
          | inr answer ↦ subst (λ c. AnswersOn m e.task c) (some_same answer.0 reply (sym answer.1 ∙ is)) answer.2
        ]

pub good_is_one_thread : (t : Layout) (w : World) → WorldGood t w → IsOneThread w.contents (rows_of w.ended)
good_is_one_thread t w good = ap (λ m. (m, replies_of (rows_of w.ended))) good.run.map ∙ one_thread_from empty w.ended good.run.replies

pub holds_in_order_of_execution : HoldsInOrderOfExecution
holds_in_order_of_execution t steps w leads = good_is_one_thread t w (good_world t steps w leads)

-- ---- the rows' requests

abbrev entry_of : Ended → Content → Entry
entry_of e reply = record { id = e.id; stamp = e.stamp; groups = e.groups; task = e.task; starved = starved_in e.task reply }

-- it is the request of one of the rows
abbrev IsEntryOf : List Ended → Entry → Type 0
IsEntryOf es x = (e : Ended) × (reply : Content) × In e es × (x ≡ entry_of e reply)

-- each row's request is one that ended
in_rows : (es : List Ended) (x : Entry) → In x (entries_of (rows_of es)) → IsEntryOf es x
in_rows [] x there = absurd there
in_rows (e ∷ es) x there = by_reply e.reply there (in_rows es x)
  where
    by_reply : (r : Option Content) → In x (entries_of (with_row e r (rows_of es))) →
        (In x (entries_of (rows_of es)) → IsEntryOf es x) → IsEntryOf (e ∷ es) x
    by_reply None there rest = let f = rest there in (f.0, f.1, inr f.2, f.3)
    by_reply (Some reply) (inl same) rest = (e, reply, inl refl, same)
    by_reply (Some reply) (inr there) rest = let f = rest there in (f.0, f.1, inr f.2, f.3)

-- of two that touch, the later one hasn't the smaller stamp
rows_in_order : (es : List Ended) → Rising TouchingByStamp es → InOrder (entries_of (rows_of es))
rows_in_order [] up = tt
rows_in_order (e ∷ es) up = by_reply e.reply (rows_in_order es up.1)
  where
    by_reply : (r : Option Content) → InOrder (entries_of (rows_of es)) → InOrder (entries_of (with_row e r (rows_of es)))
    by_reply None rest = rest
    by_reply (Some reply) rest = (
      λ x there touch.
          let f = in_rows es x there in
          let groups = ap (λ (y : Entry). y.groups) f.3 in
          let less = up.0 f.0 f.2 touch.0 touch.1 (subst (λ gs. has gs touch.0 ≡ true) groups touch.2) in
          lt_asym e.stamp x.stamp (subst (λ (y : Entry). stamp_lt e.stamp y.stamp ≡ true) (sym f.3) less),
      rest,
    )

rows_addressed : (t : Layout) (w : World) → WorldGood t w → AreAddressed t (entries_of (rows_of w.ended))
rows_addressed t w good x there =
    let e = in_rows w.ended x there in
    let it = ended_as_submitted t w good e.0 e.2 in
    let shaped = good.requests.shaped e.0.id it.0 it.1.submitted in
    subst (λ y. IsAddressed t y) (sym e.3) (record {
      groups = it.3 ∙ sym shaped.groups ∙ sym (ap (task_groups t) it.2);
      some_group = (shaped.some.0, subst (λ gs. has gs shaped.some.0 ≡ true) (sym it.3) shaped.some.1);
    })

-- ---- in the order of stamps

pub headline_holds : Headline
headline_holds t steps w is_table leads =
    let good = good_world t steps w leads in
    replies_in_stamp_order t empty w.contents (rows_of w.ended) is_table (rows_addressed t w good)
    (rows_in_order w.ended (touching_good t w good)) (good_is_one_thread t w good)
