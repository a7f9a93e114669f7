use Rattle.std.proofs.Common.{◌≤◌, ◌-◌, List, drop}
use Rattle.std.specs.List.{AllZip, AllByRecursion}
use Rattle.execution_order.specs.Entries.{Row, rows_by_stamp}
use Rattle.replay.specs.Order.{Key, ArePlaced}
use Rattle.front.specs.Layers.{IsRow}
use Rattle.replay.proofs.order.by_stamp.Given as goal

-- the last rows are in their order, and each stands behind the others
abbrev pub invariant-loop-done : goal.invariant-loop-done
invariant-loop-done l =
    ((executed : List Row) → AllZip IsRow executed l.rows.rows →
    ArePlaced executed l.order.keys (rows_by_stamp (drop (l.count - l.done) executed)))
    × AllByRecursion (λ (key : Key). l.count - l.done ≤ key.2) l.order.keys
