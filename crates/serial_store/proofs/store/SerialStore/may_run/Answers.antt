use Rattle.std.proofs.Common.{subst}
use Rattle.std.specs.Bool.{OnTrue, OnFalse}
use Rattle.placement.specs.Layout.{Layout}
use Rattle.shard_exec.specs.Layers.{AddressTheirGroups}
use Rattle.serial_store.proofs.store.SerialStore.may_run.Goals as goal

pub returns-clause-may : goal.returns-clause-may
returns-clause-may g c =
    subst (λ (t : Layout). OnTrue c.may_run.result (AddressTheirGroups t c.args.layer.now)) c.self.invariant.1.lawful.table
    c.may_run.ensures.may

pub returns-clause-may_not : goal.returns-clause-may_not
returns-clause-may_not g c =
    subst (λ (t : Layout). OnFalse c.may_run.result (AddressTheirGroups t c.args.layer.now → ⊥)) c.self.invariant.1.lawful.table
    c.may_run.ensures.may_not
