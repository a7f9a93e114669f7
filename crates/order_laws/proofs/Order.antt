-- The layers that a history ran keep the law of a store's layers.
use Rattle.std.proofs.Common.{◌≡◌, true, false, List, [], ◌∷◌, inl, inr, Option, Some, None, refl, sym, ap, ◌∙◌, subst}
use Rattle.tasks.specs.Starved.{starved_in}
use Rattle.execution_order.specs.Entries.{Entry, Row, entries_of, Touch, InOrder, IsAddressed, AreAddressed}
use Rattle.execution_order.specs.Rows.{IsOneThread}
use Rattle.groups.proofs.Stamps.{lt_asym}
use Rattle.groups.specs.GroupSet.{has}
use Rattle.groups.specs.Order.{In}
use Rattle.groups.specs.Stamp.{stamp_lt}
use Rattle.journal.specs.declared.step.Step.{Step}
use Rattle.order_laws.proofs.SerialLaws.{rows_are_of_runs}
use Rattle.order_laws.proofs.Yielding.{leads_of}
use Rattle.order_laws.specs.Layers.{run_by}
use Rattle.order_laws.specs.Truth.{RunsAreSerial}
use Rattle.placement.specs.Layout.{Layout}
use Rattle.resp.specs.Content.{Content}
use Rattle.tasks.specs.Tasks.{task_groups}
use Rattle.world.specs.Steps.{opening, Leads}
use Rattle.world.specs.World.{World, Ended}
use Rattle.world_laws.proofs.HeadlineLaws.{holds_in_order_of_execution}
use Rattle.world_laws.proofs.OrderLaws.{ends_as_submitted, asked_of_its_groups, final_is_told, touching_end_in_stamp_order}
use Rattle.world_laws.specs.Good.{Rising}
use Rattle.world_laws.specs.Headline.{with_row, rows_of}
use Rattle.world_laws.specs.Order.{TouchingByStamp}

abbrev row_by : Ended → Content → Row
row_by e reply = record {
  entry = record { id = e.id; stamp = e.stamp; groups = e.groups; task = e.task; starved = starved_in e.task reply };
  reply = reply;
}

-- it is the row of one of these
abbrev IsRowOf : List Ended → Row → Type 0
IsRowOf es row = (e : Ended) × (reply : Content) × In e es × (row ≡ row_by e reply)

in_rows : (es : List Ended) (row : Row) → In row (rows_of es) → IsRowOf es row
in_rows [] row there = absurd there
in_rows (e ∷ es) row there = by_reply e.reply there (in_rows es row)
  where
    by_reply : (r : Option Content) → In row (with_row e r (rows_of es)) → (In row (rows_of es) → IsRowOf es row) → IsRowOf (e ∷ es) row
    by_reply None there rest = let f = rest there in (f.0, f.1, inr f.2, f.3)
    by_reply (Some reply) (inl same) rest = (e, reply, inl refl, same)
    by_reply (Some reply) (inr there) rest = let f = rest there in (f.0, f.1, inr f.2, f.3)

in_entries : (rows : List Row) (x : Entry) → In x (entries_of rows) → (row : Row) × In row rows × (x ≡ row.entry)
in_entries [] x there = absurd there
in_entries (r ∷ rows) x (inl same) = (r, inl refl, same)
in_entries (r ∷ rows) x (inr there) = let f = in_entries rows x there in (f.0, inr f.1, f.2)

-- the request of a row is one that ended
abbrev IsEntryOf : List Ended → Entry → Type 0
IsEntryOf es x = (e : Ended) × (reply : Content) × In e es × (x ≡ (row_by e reply).entry)

of_ended : (es : List Ended) (x : Entry) → In x (entries_of (rows_of es)) → IsEntryOf es x
of_ended es x there =
    let row = in_entries (rows_of es) x there in
    let f = in_rows es row.0 row.1 in
    (f.0, f.1, f.2, row.2 ∙ ap (λ (r : Row). r.entry) f.3)

-- of two that touch, the later one hasn't the smaller stamp
in_order : (es : List Ended) → Rising TouchingByStamp es → InOrder (entries_of (rows_of es))
in_order [] up = tt
in_order (e ∷ es) up = by_reply e.reply (in_order es up.1)
  where
    by_reply : (r : Option Content) → InOrder (entries_of (rows_of es)) → InOrder (entries_of (with_row e r (rows_of es)))
    by_reply None rest = rest
    by_reply (Some reply) rest = (
      λ x there touch.
          let f = of_ended es x there in
          subst (λ (y : Entry). Touch (row_by e reply).entry y → stamp_lt y.stamp e.stamp ≡ false) (sym f.3)
          (λ both. lt_asym e.stamp f.0.stamp (up.0 f.0 f.2 both.0 both.1 both.2)) touch,
      rest,
    )

module _ (t : Layout) (steps : List Step) (w : World) (leads : Leads t opening steps w) where
  addressed : AreAddressed t (entries_of (rows_of w.ended))
  addressed x there =
      let f = of_ended w.ended x there in
      let e = f.0 in
      let it = ends_as_submitted t steps w leads e f.2 in
      let groups = asked_of_its_groups t steps w leads e.id it.0 it.1.submitted in
      let some = (final_is_told t steps w leads e.id it.0 e.stamp it.1).0 in
      subst (λ y. IsAddressed t y) (sym f.3) (record {
        groups = it.3 ∙ groups ∙ sym (ap (task_groups t) it.2);
        some_group = (e.stamp.group, subst (λ gs. has gs e.stamp.group ≡ true) (sym it.3) some);
      })

pub runs_are_serial : RunsAreSerial
runs_are_serial t steps w layers are =
    let leads = leads_of run_by t opening w steps are.ended are.runs in
    let rows = (rows_are_of_runs t steps w layers are).0 in
    record {
      addressed = subst (λ l. AreAddressed t (entries_of l)) rows (addressed t steps w leads);
      in_order = subst (λ l. InOrder (entries_of l)) rows (in_order w.ended (touching_end_in_stamp_order t steps w leads));
      told = λ row there. told row (subst (λ l. In row l) (sym rows) there);
      left = w.contents;
      in_turn = subst (λ l. IsOneThread w.contents l) rows (holds_in_order_of_execution t steps w leads);
    }
  where
    told : (row : Row) → In row (rows_of w.ended) → row.entry.starved ≡ starved_in row.entry.task row.reply
    told row there =
        let f = in_rows w.ended row there in
        subst (λ (r : Row). r.entry.starved ≡ starved_in r.entry.task r.reply) (sym f.3) refl
