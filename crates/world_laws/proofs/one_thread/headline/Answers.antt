use Rattle.world_laws.proofs.HeadlineLaws.{headline_holds, holds_in_order_of_execution}
use Rattle.world_laws.proofs.one_thread.headline.Goals as goal

pub returns : goal.returns
returns c = record { headline = headline_holds; in_order_of_execution = holds_in_order_of_execution }
