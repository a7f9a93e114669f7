use Rattle.execution_order.proofs.Sorted.{rows_are_solo}
use Rattle.execution_order.proofs.Sorting.{sorting_ascends}
use Rattle.execution_order.proofs.laws_of_rows.Goals as goal

pub returns-clause-rows_are_solo : goal.returns-clause-rows_are_solo
returns-clause-rows_are_solo c = rows_are_solo

pub returns-clause-sorting_ascends : goal.returns-clause-sorting_ascends
returns-clause-sorting_ascends c = sorting_ascends
