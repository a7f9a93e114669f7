use Rattle.std.proofs.Common.{◌∙◌, sym, subst}
use Rattle.serial_store.proofs.Keeping.{run_serial, all_kept, refused_kept}
use Rattle.serial_store.proofs.Turns.{one_more, was_run}
use Rattle.placement.specs.Layout.{Layout}
use Rattle.shard_exec.specs.Layers.{AddressTheirGroups}
use Rattle.serial_store.proofs.store.SerialStore.run.Goals as goal

pub run_over-requires : goal.run_over-requires
run_over-requires g c =
    subst (λ (t : Layout). AddressTheirGroups t c.args.layer) (sym c.self.invariant.1.lawful.table) c.requires

pub write-requires : goal.write-requires
write-requires g c =
    let in' = c.self.inside in
    run_serial g.T.Tabled.table in'.store c.run_over.new.store in'.runs c.args.skip.now c.args.layer c.in-Ok.done c.table.ensures.is_store
    c.in-Ok.ensures.run c.self.invariant.1

pub invariant_of-self : goal.invariant_of-self
invariant_of-self g c =
    let in' = c.self.inside in (
      one_more c.args.number in'.runs c.write.new.self c.in-Ok.done (c.if-number-self.false ∙ c.self.invariant.0) c.write.ensures,
      all_kept g.T.Tabled.table in'.store c.run_over.new.store in'.runs c.args.skip.now c.args.layer c.in-Ok.done c.table.ensures.is_store
          c.in-Ok.ensures.run c.self.invariant.1 c.write.new.self c.write.ensures,
    )

pub invariant_of-self-in-Err : goal.invariant_of-self-in-Err
invariant_of-self-in-Err g c = (
  c.self.invariant.0,
  refused_kept (g.W.Workers.may_refuse c.args.workers.now) g.T.Tabled.table c.self.inside.store c.run_over.new.store c.self.inside.runs
      c.args.layer c.in-Err.fault c.in-Err.ensures.fault c.self.invariant.1,
)

pub returns-in-Ok-clause-run : goal.returns-in-Ok-clause-run
returns-in-Ok-clause-run g c =
    let in' = c.self.inside in
    was_run c.args.self.now in'.store c.run_over.new.store in'.runs c.write.new.self c.args.number c.args.skip.now c.args.layer c.in-Ok.done
    c.self.view_is (c.if-number-self.false ∙ c.self.invariant.0) c.in-Ok.ensures.run c.write.ensures
