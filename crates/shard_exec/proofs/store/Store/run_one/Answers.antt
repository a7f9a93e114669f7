use Rattle.std.proofs.Common.{length, sym, ap, ◌∙◌, subst}
use Rattle.shard_exec.specs.Layers.{AddressTheirGroups}
use Rattle.shard_exec.proofs.StoreRows.{all_inside}
use Rattle.shard_exec.proofs.store.Store.run_one.Goals as goal

pub admit-requires : goal.admit-requires
admit-requires g c =
    all_inside c.self.inside.table (length c.as_slice.result.now) c.args.layer
    (ap (λ (l : _). length l) c.as_slice.ensures.value ∙ c.self.invariant.stamps)
    (subst (λ t. AddressTheirGroups t c.args.layer) (sym (ap (λ s. s.table) c.self.view_is)) c.requires.groups)
