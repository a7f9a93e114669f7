-- The order of execution comes to the same as the order of stamps.
use Rattle.std.specs.Prelude.{◌≡◌, List}
use Rattle.std.specs.List.Sorted.{IsPermutation}
use Rattle.keyspace.specs.Map.{Map}
use Rattle.placement.specs.Layout.{Layout, IsTable}
use Rattle.tasks.specs.Tasks.{deed_effect, deeds_in_turn}
use Rattle.execution_order.specs.Entries.{Entry, Row, deed, deeds_of, entries_of, replies_of, rows_from, by_stamp, rows_by_stamp, Touch}
use Rattle.execution_order.specs.Entries.{AscendsByStamp, InOrder, IsAddressed, AreAddressed}

-- requests that don't touch can change places: the second one answers the same whether the first has run before it or
-- not, and both leave the same map in either order
abbrev pub UntouchedCommute : Type 0
UntouchedCommute =
    (table : Layout) (e f : Entry) (m : Map)
    → IsTable table → IsAddressed table e → IsAddressed table f → (Touch e f → ⊥)
    → ((deed_effect (deed f) (deed_effect (deed e) m).0).1 ≡ (deed_effect (deed f) m).1)
    × ((deed_effect (deed f) (deed_effect (deed e) m).0).0 ≡ (deed_effect (deed e) (deed_effect (deed f) m).0).0)

-- one thread that runs the requests in the order of their stamps leaves the same map as one that runs them in the
-- order of execution, and each request gets the same reply
abbrev pub SameInStampOrder : Type 0
SameInStampOrder =
    (table : Layout) (m : Map) (es : List Entry)
    → IsTable table → AreAddressed table es → InOrder es
    → ((deeds_in_turn m (deeds_of (by_stamp es))).0 ≡ (deeds_in_turn m (deeds_of es)).0)
    × (rows_from m (by_stamp es) ≡ rows_by_stamp (rows_from m es))

-- so where rows have the replies of one thread in the order of execution, the sorted rows have those of one thread in
-- stamp order, and it leaves the same map
abbrev pub RepliesInStampOrder : Type 0
RepliesInStampOrder =
    (table : Layout) (old new : Map) (rows : List Row)
    → IsTable table → AreAddressed table (entries_of rows) → InOrder (entries_of rows)
    → (new, replies_of rows) ≡ deeds_in_turn old (deeds_of (entries_of rows))
    → (new, replies_of (rows_by_stamp rows)) ≡ deeds_in_turn old (deeds_of (entries_of (rows_by_stamp rows)))

-- the rows of requests are what one thread does with their tasks
abbrev pub RowsAreSolo : Type 0
RowsAreSolo =
    (m : Map) (es : List Entry)
    → (entries_of (rows_from m es) ≡ es) × (replies_of (rows_from m es) ≡ (deeds_in_turn m (deeds_of es)).1)

-- the sorted list has the same requests, and they ascend by their stamps; rows are sorted as their requests are
abbrev pub SortingAscends : Type 0
SortingAscends =
    (rows : List Row)
    → IsPermutation rows (rows_by_stamp rows) × (entries_of (rows_by_stamp rows) ≡ by_stamp (entries_of rows))
    × AscendsByStamp (by_stamp (entries_of rows))
