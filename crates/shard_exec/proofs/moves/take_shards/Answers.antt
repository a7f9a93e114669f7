use Rattle.std.proofs.Common.{rules, ◌<◌, length, refl, sym, ap, ◌∙◌, subst, eq-eqb}
use Rattle.std.proofs.lemmas.Bool.{or_left, or_right}
use Rattle.std.proofs.lemmas.List.{length-set}
use Rattle.std.specs.FinMap.{empty}
use Rattle.groups.specs.GroupSet.{has}
use Rattle.shard_exec.proofs.TakingOut.{taken_more, emptied_more}
use Rattle.shard_exec.proofs.moves.take_shards.Goals as goal

pub take_shard-shard-requires : goal.take_shard-shard-requires
take_shard-shard-requires c =
    c.loop-group.invariant.inside c.in-Some.group
    (ap (λ gs. has gs c.in-Some.group) c.in-Some.ensures.steps ∙ or_left _ _ (eq-eqb c.in-Some.group c.in-Some.group refl))

pub loop-group-preserved : goal.loop-group-preserved
loop-group-preserved c =
    let is = c.in-Some.ensures.steps in
    let longer = ap (λ (l : _). length l) is in
    record {
      taken = taken_more c.loop-group.row.items _ c.loop-group.span.items _ _ _ _ c.in-Some.group c.take_shard-shard.result is
          c.take_shard-shard.ensures.taken c.take_shard-shard.ensures.left c.in-Ok.ensures.items c.loop-group.invariant.taken;
      left = emptied_more c.loop-group.row.items _ _ _ c.in-Some.group is c.take_shard-shard.ensures.left ∙ c.loop-group.invariant.left;
      inside = λ g there. subst (λ r. g < length r) (sym c.take_shard-shard.ensures.left)
          (subst (λ n. g < n) (sym (length-set c.loop-group.row.items c.in-Some.group empty))
          (c.loop-group.invariant.inside g (ap (λ gs. has gs g) is ∙ or_right _ _ there)));
      room = search rules;
    }
