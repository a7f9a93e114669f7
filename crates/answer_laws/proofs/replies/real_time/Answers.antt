use Rattle.answer_laws.proofs.Order.{real_time}
use Rattle.answer_laws.proofs.replies.real_time.Goals as goal

pub returns : goal.returns
returns c = real_time
