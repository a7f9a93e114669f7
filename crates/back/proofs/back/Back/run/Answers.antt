use Rattle.back.proofs.Keeping.{kept}
use Rattle.back.specs.Backs.{back_of}
use Rattle.back.proofs.back.Back.run.Goals as goal

pub invariant_of-self : goal.invariant_of-self
invariant_of-self g c =
    kept (g.W.Workers.may_refuse c.args.workers.now) (back_of c.self.inside.store c.self.inside.rows.rows c.self.inside.last)
    (back_of c.run_over.new.store c.run_over.new.rows.rows c.run_over.new.last) c.args.skip.now c.args.layer c.run_over.result
    c.table.ensures.is_store c.run_over.ensures.run c.run_over.ensures.fault c.self.invariant
