use Rattle.std.proofs.Common.{length, sym, ap, ◌∙◌, subst}
use Rattle.std.specs.List.{AllByRecursion}
use Rattle.shard_exec.specs.Layers.{AddressTheirGroups, IsInside}
use Rattle.shard_exec.proofs.StoreRows.{all_inside}
use Rattle.shard_exec.proofs.store.Store.is_fresh.Goals as goal

pub are_fresh-requires : goal.are_fresh-requires
are_fresh-requires c =
    subst (AllByRecursion (IsInside (length c.as_slice.result.now))) (sym c.jobs.ensures.jobs)
    (all_inside c.self.inside.table (length c.as_slice.result.now) c.args.layer.now
    (ap (λ (l : _). length l) c.as_slice.ensures.value ∙ c.self.invariant.stamps)
    (subst (λ t. AddressTheirGroups t c.args.layer.now) (sym (ap (λ s. s.table) c.self.view_is)) c.requires))
