-- Sorting the requests by their stamps, the first one after the others: each moves right past requests that it doesn't
-- touch.
use Rattle.std.proofs.Common.{◌≡◌, List, [], ◌∷◌, Bool, true, false, cond, inl, inr, refl, sym, ap, ◌∙◌}
use Rattle.std.proofs.lemmas.Bool.{both_ways}
use Rattle.tasks.proofs.Turns.{pair}
use Rattle.keyspace.specs.Map.{Map}
use Rattle.placement.specs.Layout.{Layout, IsTable}
use Rattle.resp.specs.Content.{Content}
use Rattle.groups.specs.Order.{In}
use Rattle.groups.specs.Stamp.{stamp_lt}
use Rattle.tasks.specs.Tasks.{deed_effect, deeds_in_turn}
use Rattle.execution_order.proofs.Sorting.{In-sort, entries-rows_by_stamp}
use Rattle.execution_order.proofs.Untouched.{untouched_commute, Touch-swap}
use Rattle.execution_order.specs.Entries.{Entry, Row, deed, deeds_of, entries_of, replies_of, rows_from, insert_by, by_stamp, rows_by_stamp}
use Rattle.execution_order.specs.Entries.{Touch, InOrder, IsAddressed, AreAddressed}
use Rattle.execution_order.specs.Laws.{SameInStampOrder, RepliesInStampOrder, RowsAreSolo}

abbrev earlier : Entry → Entry → Bool
earlier e f = stamp_lt e.stamp f.stamp

abbrev row_earlier : Row → Row → Bool
row_earlier r s = stamp_lt r.entry.stamp s.entry.stamp

-- what a list of requests leaves of a map
abbrev left_by : Map → List Entry → Map
left_by m es = (deeds_in_turn m (deeds_of es)).0

abbrev after : Entry → Map → Map
after e m = (deed_effect (deed e) m).0

abbrev answer : Entry → Map → Content
answer e m = (deed_effect (deed e) m).1

abbrev row : Entry → Map → Row
row e m = record { entry = e; reply = answer e m }

module _ (table : Layout) (is_table : IsTable table) where
  -- a request that moves right past one that it doesn't touch
  commute_leave : (e f : Entry) (m : Map) → IsAddressed table e → IsAddressed table f → (Touch e f → ⊥)
      → after f (after e m) ≡ after e (after f m)
  commute_leave e f m at_e at_f untouched = (untouched_commute table e f m is_table at_e at_f untouched).1

  commute_answer : (e f : Entry) (m : Map) → IsAddressed table e → IsAddressed table f → (Touch e f → ⊥) → answer f (after e m) ≡ answer f m
  commute_answer e f m at_e at_f untouched = (untouched_commute table e f m is_table at_e at_f untouched).0

  pub left-insert : (m : Map) (e : Entry) (fs : List Entry) → IsAddressed table e → AreAddressed table fs
      → ((f : Entry) → In f fs → Touch e f → earlier f e ≡ false) → left_by m (insert_by earlier e fs) ≡ left_by (after e m) fs
  left-insert m e [] at_e at_fs order = refl
  left-insert m e (f ∷ fs) at_e at_fs order =
      elim (earlier f e) as (λ b. earlier f e ≡ b
      → left_by m (cond b (f ∷ insert_by earlier e fs) (e ∷ f ∷ fs)) ≡ left_by (after e m) (f ∷ fs)) [
        | true ↦ λ is.
            left-insert (after f m) e fs at_e (λ g i. at_fs g (inr i)) (λ g i. order g (inr i))
            ∙ ap (λ n. left_by n fs) (sym (commute_leave e f m at_e (at_fs f (inl refl)) (λ t. both_ways _ (order f (inl refl) t) is)))
        | false ↦ λ _. refl
      ] refl

  -- the one that has moved answers as before, and so does the one that it has passed
  moved : (m : Map) (e f : Entry) (fs : List Entry) → IsAddressed table e → IsAddressed table f → (Touch e f → ⊥)
      → rows_from (after f m) (insert_by earlier e fs) ≡ insert_by row_earlier (row e (after f m)) (rows_from (after e (after f m)) fs)
      → rows_from m (f ∷ insert_by earlier e fs) ≡ row f (after e m) ∷ insert_by row_earlier (row e m) (rows_from (after f (after e m)) fs)
  moved m e f fs at_e at_f untouched rest =
      ap (λ l. row f m ∷ l) rest
      ∙ ap (λ r. row f m ∷ insert_by row_earlier (record { entry = e; reply = r }) (rows_from (after e (after f m)) fs))
      (commute_answer f e m at_f at_e (λ t. untouched (Touch-swap f e t)))
      ∙ ap (λ n. row f m ∷ insert_by row_earlier (row e m) (rows_from n fs)) (sym (commute_leave e f m at_e at_f untouched))
      ∙ ap (λ r. record { entry = f; reply = r } ∷ insert_by row_earlier (row e m) (rows_from (after f (after e m)) fs))
      (sym (commute_answer e f m at_e at_f untouched))

  pub rows-insert : (m : Map) (e : Entry) (fs : List Entry) → IsAddressed table e → AreAddressed table fs
      → ((f : Entry) → In f fs → Touch e f → earlier f e ≡ false)
      → rows_from m (insert_by earlier e fs) ≡ insert_by row_earlier (row e m) (rows_from (after e m) fs)
  rows-insert m e [] at_e at_fs order = refl
  rows-insert m e (f ∷ fs) at_e at_fs order =
      elim (earlier f e) as (λ b. earlier f e ≡ b →
      rows_from m (cond b (f ∷ insert_by earlier e fs) (e ∷ f ∷ fs))
      ≡ cond b (row f (after e m) ∷ insert_by row_earlier (row e m) (rows_from (after f (after e m)) fs))
      (row e m ∷ rows_from (after e m) (f ∷ fs))) [
        | true ↦ λ is.
            moved m e f fs at_e (at_fs f (inl refl)) (λ t. both_ways _ (order f (inl refl) t) is)
            (rows-insert (after f m) e fs at_e (λ g i. at_fs g (inr i)) (λ g i. order g (inr i)))
        | false ↦ λ _. refl
      ] refl

  pub left-by_stamp : (m : Map) (es : List Entry) → AreAddressed table es → InOrder es → left_by m (by_stamp es) ≡ left_by m es
  left-by_stamp m [] at order = refl
  left-by_stamp m (e ∷ es) at order =
      left-insert m e (by_stamp es) (at e (inl refl)) (λ f i. at f (inr (In-sort earlier es f i)))
      (λ f i. order.0 f (In-sort earlier es f i))
      ∙ left-by_stamp (after e m) es (λ f i. at f (inr i)) order.1

  pub rows-by_stamp : (m : Map) (es : List Entry) → AreAddressed table es → InOrder es
      → rows_from m (by_stamp es) ≡ rows_by_stamp (rows_from m es)
  rows-by_stamp m [] at order = refl
  rows-by_stamp m (e ∷ es) at order =
      rows-insert m e (by_stamp es) (at e (inl refl)) (λ f i. at f (inr (In-sort earlier es f i)))
      (λ f i. order.0 f (In-sort earlier es f i))
      ∙ ap (insert_by row_earlier (row e m)) (rows-by_stamp (after e m) es (λ f i. at f (inr i)) order.1)

pub same_in_stamp_order : SameInStampOrder
same_in_stamp_order table m es is_table at order = (left-by_stamp table is_table m es at order, rows-by_stamp table is_table m es at order)

-- ---- rows and one thread

entries-rows_from : (m : Map) (es : List Entry) → entries_of (rows_from m es) ≡ es
entries-rows_from m [] = refl
entries-rows_from m (e ∷ es) = ap (λ l. e ∷ l) (entries-rows_from (after e m) es)

replies-rows_from : (m : Map) (es : List Entry) → replies_of (rows_from m es) ≡ (deeds_in_turn m (deeds_of es)).1
replies-rows_from m [] = refl
replies-rows_from m (e ∷ es) = ap (λ l. answer e m ∷ l) (replies-rows_from (after e m) es)

pub rows_are_solo : RowsAreSolo
rows_are_solo m es = (entries-rows_from m es, replies-rows_from m es)

-- rows whose replies are those of one thread are the rows of one thread
pub rows-from_replies : (m : Map) (rows : List Row) → replies_of rows ≡ (deeds_in_turn m (deeds_of (entries_of rows))).1
    → rows ≡ rows_from m (entries_of rows)
rows-from_replies m [] e = refl
rows-from_replies m (r ∷ rows) e =
    ap (λ c. record { entry = r.entry; reply = c } ∷ rows) (first_same e)
    ∙ ap (λ l. row r.entry m ∷ l) (rows-from_replies (after r.entry m) rows (rest_same e))
  where
    first_same : r.reply ∷ replies_of rows ≡ answer r.entry m ∷ (deeds_in_turn (after r.entry m) (deeds_of (entries_of rows))).1
        → r.reply ≡ answer r.entry m
    first_same h = cc

    rest_same : r.reply ∷ replies_of rows ≡ answer r.entry m ∷ (deeds_in_turn (after r.entry m) (deeds_of (entries_of rows))).1
        → replies_of rows ≡ (deeds_in_turn (after r.entry m) (deeds_of (entries_of rows))).1
    rest_same h = cc

pub replies_in_stamp_order : RepliesInStampOrder
replies_in_stamp_order table old new rows is_table at order solo =
    let es = entries_of rows in
    let same_rows : rows ≡ rows_from old es = rows-from_replies old rows (ap (λ v. v.1) solo) in
    let sorted : rows_by_stamp rows ≡ rows_from old (by_stamp es) = ap rows_by_stamp same_rows
    ∙ sym (rows-by_stamp table is_table old es at order) in
    let sorted_entries = entries-rows_by_stamp rows in
    pair _ _ _ _
    (ap (λ v. v.0) solo ∙ sym (left-by_stamp table is_table old es at order) ∙ ap (left_by old) (sym sorted_entries))
    (ap replies_of sorted ∙ replies-rows_from old (by_stamp es) ∙ ap (λ fs. (deeds_in_turn old (deeds_of fs)).1) (sym sorted_entries))
