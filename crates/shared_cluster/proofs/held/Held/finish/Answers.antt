use Rattle.std.proofs.Common.{refl, ◌∙◌}
use Rattle.shared_cluster.proofs.held.Held.finish.Goals as goal

pub returns-in-Ok-clause-finished : goal.returns-in-Ok-clause-finished
returns-in-Ok-clause-finished g c =
    let it = c.in-Ok.ensures.finished in
    record {
      mid = it.mid;
      settled = it.settled;
      replies = record { table = it.settled.table ∙ c.lawful.ensures.table; given = c.in-Ok.sealed.reply; is = refl; replied = it.replied };
    }
