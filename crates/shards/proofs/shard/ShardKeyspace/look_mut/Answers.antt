use Rattle.std.proofs.Common.{refl, ap, ◌∙◌}
use Rattle.std.specs.FinMap.{get, insert}
use Rattle.shards.proofs.Lent.{where_lent}
use Rattle.shards.proofs.shard.ShardKeyspace.look_mut.Goals as goal

pub returns : goal.returns
returns c =
    let key = c.args.key.now in
    let shown = c.self.view_is in (
      (
        refl,
        (λ w. where_lent c.look_mut.result (λ told. told ∙ ap (λ m. insert m key w) shown) (c.look_mut.follows.holds w)),
        c.look_mut.follows.holds-at-none ∙ shown,
      ),
      record { writes_back = tt; value = c.look_mut.ensures.value ∙ ap (λ m. get m key) shown },
    )
