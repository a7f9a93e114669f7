use Rattle.std.proofs.Common.{arith, ◌≡◌, length, sym, ap, ◌∙◌, subst}
use Rattle.std.proofs.lemmas.List.{length-replicate}
use Rattle.shards.specs.Joined.{HasOwnKeys}
use Rattle.shard_exec.proofs.StoreRows.{own_none}
use Rattle.shard_exec.proofs.store.Store.with_hasher.Goals as goal

pub invariant_of-result : goal.invariant_of-result
invariant_of-result c =
    let a = c.loop-number.invariant in let all : c.loop-number.number ≡ c.args.table.shards = omega arith in record {
      is_table = c.shards.ensures.is_table;
      shards = ap (λ (l : _). length l) a.0 ∙ length-replicate _ _ ∙ all;
      stamps = ap (λ (l : _). length l) a.1 ∙ length-replicate _ _ ∙ all;
      own = subst (HasOwnKeys c.args.table) (sym a.0) (own_none c.args.table c.loop-number.number);
    }
