use Rattle.execution_order.proofs.Sorted as sorted
use Rattle.execution_order.proofs.same_in_stamp_order.Goals as goal

pub returns-clause-rows : goal.returns-clause-rows
returns-clause-rows c = sorted.same_in_stamp_order

pub returns-clause-replies : goal.returns-clause-replies
returns-clause-replies c = sorted.replies_in_stamp_order
