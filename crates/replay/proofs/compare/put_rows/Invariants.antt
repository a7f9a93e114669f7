use Rattle.std.proofs.Common.{◌++◌, List, length}
use Rattle.std.specs.List.{AllZip, flat_map}
use Rattle.execution_order.specs.Entries.{Row, rows_by_stamp}
use Rattle.replay.proofs.Comparing.{Whole}
use Rattle.replay.specs.Report.{row_line, replies_agree, left_by}
use Rattle.front.specs.Layers.{IsRow}
use Rattle.replay.proofs.compare.put_rows.Given as goal

-- what was put, run and compared, and what is left of it, is the whole
abbrev pub invariant-loop-key : goal.invariant-loop-key
invariant-loop-key g l =
    (executed : List Row) → AllZip IsRow executed l.rows.rows →
    Whole l.starved executed l.keys l.out.items (l.fn.out.items ++ flat_map row_line (rows_by_stamp executed)) l.solo
    (left_by l.starved l.fn.solo (rows_by_stamp executed)) l.same (replies_agree l.starved l.fn.solo (rows_by_stamp executed))

abbrev pub decreases-loop-key : goal.decreases-loop-key
decreases-loop-key g l = length l.keys
